use Rattle.std.proofs.Common.{◌^◌, ℕ, List, length, ap, ◌∙◌, refl, arith}
use Rattle.el_row_formats.specs.declared.limits.TheConstants.{MIN_HEAD_BITS}
use Rattle.el_row_formats.specs.Tables.{tables_listed}
use Rattle.el_laws.specs.Versions.{last_version}
use Rattle.el_rows.proofs.UnderLemmas.{length-under}
use Rattle.el_laws.proofs.VersionLemmas.{last_more, committed, more_length, edited}
use Rattle.el_laws.proofs.versioned_rows.VersionedRowsRows.commit.Goals as goal

pub returns-clause-counts : goal.returns-clause-counts
returns-clause-counts c t =
    let old = c.args.self.now.versions in
    let new = c.edit.new.self in
    ap (λ (v : List (List (List ℕ))). length (tables_listed v t)) (last_more old new c.push.new.self c.in_ok-push.ensures.ok)
    ∙ ap length (c.in_ok-edit.ensures.ok t) ∙ length-under (tables_listed c.in_ok-new.new) c.args.sealed.now.counts c.args.sealed.now.changes t

pub returns-then-self-eq0-clause-crash : goal.returns-then-self-eq0-clause-crash
returns-then-self-eq0-clause-crash c told =
    let old = c.args.self.now.versions in
    let new = c.edit.new.self in
    committed (2 ^ MIN_HEAD_BITS) _ _ _ _ old c.push.new.self new (tables_listed (last_version old)) _ c.in_ok-push.ensures.ok (λ t i left. left) (λ t i left. left)
    (omega (arith, c.requires.live, c.args.self.now.some)) (omega (arith, ap length c.in_ok-push.ensures.ok, more_length old new, c.requires.live, c.args.self.now.some)) refl
    (edited c.in_ok-new.new (last_version old) new c.args.sealed.now.counts c.args.sealed.now.changes (c.in_ok-new.ensures ∙ c.last.ensures) c.in_ok-edit.ensures.ok)

pub returns-clause-crash : goal.returns-clause-crash
returns-clause-crash c told =
    let old = c.args.self.now.versions in
    let new = c.edit.new.self in
    committed (2 ^ MIN_HEAD_BITS) _ _ _ _ old c.push.new.self new (tables_listed (last_version old)) _ c.in_ok-push.ensures.ok (λ t i left. left) (λ t i left. left)
    (omega (arith, c.requires.live, c.args.self.now.some)) (omega (arith, ap length c.in_ok-push.ensures.ok, more_length old new, c.requires.live, c.args.self.now.some)) refl
    (edited c.in_ok-new.new (last_version old) new c.args.sealed.now.counts c.args.sealed.now.changes (c.in_ok-new.ensures ∙ c.last.ensures) c.in_ok-edit.ensures.ok)

use Rattle.std.proofs.Common.{◌≡◌, ⊎_elim, inl, inr, ℕ, List, [], ◌∷◌, length, take, ap, sym, subst, ◌∙◌, arith}
use Rattle.el_row_formats.specs.Tables.{Tables}
use Rattle.el_rows.specs.Changes.{under, count_at}
use Rattle.el_rows.specs.Reads.{IsEither}
use Rattle.el_redo.specs.RedoBody.{head_bytes}
use Rattle.el_redone.specs.Steps.{Leaves, HasRoot}
use Rattle.el_redone.specs.declared.steps.TheConstants.{ROOT}
use Rattle.el_pages.specs.declared.layout.TheConstants.{FORMAT_2}
use Rattle.el_pages.specs.Indexes.{HasCounts, ShowsTables, tables_in}
use Rattle.el_pages.specs.Stores.{lists_in}
use Rattle.el_pages.proofs.Facts.{has_same}
use Rattle.el_pages.proofs.PageChanges.{agrees_same}
use Rattle.el_pages.proofs.StoreLemmas.{beside_same, lists_now, same_rows, same_counts, commit_leaves, either_shows}
use Rattle.el_pages.proofs.store.PagesRows.commit.Goals as goal

pub commit_on-requires : goal.commit_on-requires
commit_on-requires g c =
    let store = c.args.self.now in
    record {
      big = omega (arith, store.big, ap (λ (b : List ℕ). length b) c.deref_mut.ensures.value);
      at_rest = λ told. (c.requires.live told).rest;
      has = λ told. let kept = c.requires.live told in
          subst (λ (m : List ℕ). HasCounts FORMAT_2 (head_bytes m c.args.self.now.bits) (g.D.Disk.seen store.disk) store.counts) (sym c.magic.ensures)
          (has_same (head_bytes g.N.NetworkMagic.magic c.args.self.now.bits) (g.D.Disk.seen store.told.value) (g.D.Disk.seen store.disk) store.counts kept.same kept.has);
      made = c.requires.made;
    }

pub returns-in-Err-clause-crash : goal.returns-in-Err-clause-crash
returns-in-Err-clause-crash g c told =
    let store = c.args.self.now in
    let new = c.args.sealed.now.counts in
    let changes = c.args.sealed.now.changes in
    let before : Tables = tables_in FORMAT_2 (g.D.Disk.seen store.disk) store.counts in
    let run = commit_leaves g.D.Disk (head_bytes g.N.NetworkMagic.magic store.bits) store.told.value store.counts store.cache store.disk c.commit_on.new.disk new changes (c.requires.live told)
    (subst (λ (m : List ℕ). Leaves g.D.Disk (λ image. HasRoot 29 (g.D.Disk.seen store.disk) image × IsEither (ShowsTables FORMAT_2 (head_bytes m c.args.self.now.bits)) before (under before new changes) image) store.disk c.commit_on.new.disk) c.magic.ensures (c.commit_on.ensures.crash told)) in
    let was = lists_in g.D.Disk store.told.value store.counts in
    record {
      later = run.later;
      each = λ image left. either_shows g.N.NetworkMagic.magic store.bits was (under was new changes) image store.least store.most (run.each image left.1);
      before = λ t image le left. ⊎_elim (λ was. inl (left.0, was)) (λ p. inr (either_shows g.N.NetworkMagic.magic store.bits was (under was new changes) image store.least store.most p)) (run.before t image le left.1);
    }

pub returns-clause-crash : goal.returns-clause-crash
returns-clause-crash g c told =
    let store = c.args.self.now in
    let new = c.args.sealed.now.counts in
    let changes = c.args.sealed.now.changes in
    let before : Tables = tables_in FORMAT_2 (g.D.Disk.seen store.disk) store.counts in
    let run = commit_leaves g.D.Disk (head_bytes g.N.NetworkMagic.magic store.bits) store.told.value store.counts store.cache store.disk c.commit_on.new.disk new changes (c.requires.live told)
    (subst (λ (m : List ℕ). Leaves g.D.Disk (λ image. HasRoot 29 (g.D.Disk.seen store.disk) image × IsEither (ShowsTables FORMAT_2 (head_bytes m c.args.self.now.bits)) before (under before new changes) image) store.disk c.commit_on.new.disk) c.magic.ensures (c.commit_on.ensures.crash told)) in
    let was = lists_in g.D.Disk store.told.value store.counts in
    record {
      later = run.later;
      each = λ image left. either_shows g.N.NetworkMagic.magic store.bits was (under was new changes) image store.least store.most (run.each image left.1);
      before = λ t image le left. ⊎_elim (λ was. inl (left.0, was)) (λ p. inr (either_shows g.N.NetworkMagic.magic store.bits was (under was new changes) image store.least store.most p)) (run.before t image le left.1);
    }

pub returns-clause-lists : goal.returns-clause-lists
returns-clause-lists g c told t =
    let store = c.args.self.now in
    let new = c.args.sealed.now.counts in
    let changes = c.args.sealed.now.changes in
    ap (λ d. tables_in FORMAT_2 (g.D.Disk.seen d) c.counts_of-self.result t) c.of.ensures
    ∙ same_rows (g.D.Disk.seen c.commit_on.new.disk) new c.counts_of-self.result c.counts_of-self.ensures t
    ∙ c.in-Ok.ensures.tables told t
    ∙ ap (λ (tables : Tables). under tables new changes t) (lists_now g.D.Disk (head_bytes g.N.NetworkMagic.magic store.bits) store.told.value store.counts store.cache store.disk (c.requires.live told))

pub returns-clause-live : goal.returns-clause-live
returns-clause-live g c told = record {
  rest = c.in-Ok.ensures.at_rest told;
  rooted = subst (λ (b : List ℕ). take 1 b ≡ 2 ∷ []) (sym (c.commit_on.ensures.beside told ROOT (inr (omega arith)))) (c.requires.live told).rooted;
  same = λ f low lt. ap (λ d. g.D.Disk.seen d f) (sym c.of.ensures);
  has = subst (λ d. HasCounts FORMAT_2 (head_bytes g.N.NetworkMagic.magic c.args.self.now.bits) (g.D.Disk.seen d) c.counts_of-self.result) (sym c.of.ensures)
      (subst (λ (m : List ℕ). HasCounts FORMAT_2 (head_bytes m c.args.self.now.bits) (g.D.Disk.seen c.commit_on.new.disk) c.counts_of-self.result) c.magic.ensures
      (same_counts (head_bytes c.magic.result c.args.self.now.bits) (g.D.Disk.seen c.commit_on.new.disk) c.args.sealed.now.counts c.counts_of-self.result c.counts_of-self.ensures (c.in-Ok.ensures.has told)));
  agrees =
      let store = c.args.self.now in
      let new = c.args.sealed.now.counts in
      let before : Tables = lists_in g.D.Disk store.told.value store.counts in
      agrees_same c.change_pages.new.cache (under before new c.args.sealed.now.changes) (lists_in g.D.Disk c.of.result.value c.counts_of-self.result) (count_at new) (count_at c.counts_of-self.result)
      (returns-clause-lists g c told) c.counts_of-self.ensures
      (c.change_pages.ensures.agrees before (count_at store.counts) c.requires.made (c.requires.live told).agrees);
}

pub returns-in-Err-clause-beside : goal.returns-in-Err-clause-beside
returns-in-Err-clause-beside g c told = beside_same (g.D.Disk.seen c.args.self.now.disk) (g.D.Disk.seen c.commit_on.new.disk) (c.commit_on.ensures.beside told)

pub returns-clause-beside : goal.returns-clause-beside
returns-clause-beside g c told = beside_same (g.D.Disk.seen c.args.self.now.disk) (g.D.Disk.seen c.commit_on.new.disk) (c.commit_on.ensures.beside told)

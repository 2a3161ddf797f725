use Rattle.std.proofs.Common.{◌∙◌, ◌++◌, ◌∷◌, [], sym, ap, true, false}
use Rattle.std.proofs.lemmas.Bool.{true≢false}
use Rattle.std.specs.List.{list_any}
use Rattle.std.specs.Option.{is_some}
use Rattle.indexmap.specs.IndexMap.{get}
use Rattle.el_tx.specs.Hashing.{same_outpoint}
use Rattle.el_mempool.specs.declared.held.Source.{Source}
use Rattle.el_kept.specs.Tables.{undropped, by_txid}
use Rattle.el_kept.proofs.Slots.{slot_is, after_put, not_there, but_there, all_free, none_free}
use Rattle.el_kept.proofs.Listed.{after_listed}
use Rattle.el_kept.proofs.putting.join.Goals as goal

pub returns-then-is_some-clause-joined : goal.returns-then-is_some-clause-joined
returns-then-is_some-clause-joined c = λ unknown free.
    absurd (but_there (by_txid c.args.entry.txid (undropped c.args.table.now.kept.entries))
    (slot_is c.args.table.now c.args.entry.txid c.kept_under.result c.is_some.result true c.requires.table
    c.kept_under.ensures c.is_some.ensures c.if-is_some.true) unknown)

pub returns-then-any_taken-clause-joined : goal.returns-then-any_taken-clause-joined
returns-then-any_taken-clause-joined c = λ unknown free.
    absurd (true≢false (sym c.if-any_taken.true ∙ c.any_taken.ensures
    ∙ ap (list_any (λ (s : Source). is_some (get same_outpoint c.args.table.now.spenders s.from))) c.as_slice.ensures
    ∙ none_free (get same_outpoint c.args.table.now.spenders) c.args.entry.inputs free))

pub put_listed-requires-clause-new : goal.put_listed-requires-clause-new
put_listed-requires-clause-new c =
    not_there (by_txid c.args.entry.txid (undropped c.args.table.now.kept.entries))
    (slot_is c.args.table.now c.args.entry.txid c.kept_under.result c.is_some.result false c.requires.table
    c.kept_under.ensures c.is_some.ensures c.if-is_some.false)

pub put_listed-requires-clause-free : goal.put_listed-requires-clause-free
put_listed-requires-clause-free c =
    all_free (get same_outpoint c.args.table.now.spenders) c.args.entry.inputs
    (ap (list_any (λ (s : Source). is_some (get same_outpoint c.args.table.now.spenders s.from)))
    (sym c.as_slice.ensures) ∙ sym c.any_taken.ensures ∙ c.if-any_taken.false)

pub returns-clause-table : goal.returns-clause-table
returns-clause-table c =
    after_put c.put_listed.result c.args.table.now c.put_listed.new.table
    (undropped c.args.table.now.kept.entries ++ c.args.entry ∷ []) c.requires.table c.put_listed.ensures.joined
    c.put_listed.ensures.same

pub returns-clause-listed : goal.returns-clause-listed
returns-clause-listed c =
    after_listed c.put_listed.result c.args.table.now c.put_listed.new.table c.put_listed.new.listings c.args.entry
    c.put_listed.ensures.joined c.put_listed.ensures.same c.put_listed.ensures.listed c.put_listed.ensures.as_before

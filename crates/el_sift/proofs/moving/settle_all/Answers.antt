use Rattle.std.proofs.Common.{List, sym, subst, ◌∙◌}
use Rattle.std.specs.Prelude.{map}
use Rattle.std.proofs.lemmas.List.{nil_from_length}
use Rattle.el_mempool.specs.declared.held.KeptTx.{KeptTx}
use Rattle.el_kept.specs.Tables.{undropped, retaken, HasEntries}
use Rattle.el_kept.proofs.Listed.{listed_as}
use Rattle.el_kept.proofs.Slots.{own_table}
use Rattle.el_sift.proofs.Relisted.{settle_step, settle_none}
use Rattle.el_sift.proofs.moving.settle_all.Goals as goal

pub loop-takes-preserved : goal.loop-takes-preserved
loop-takes-preserved c = record {
  table = own_table c.settle_one.new.table _ c.in_ok-settle_one.ensures.table;
  listed = listed_as c.settle_one.new.listings (map (retaken c.in-Some.takes) (undropped c.loop-takes.table.kept.entries)) (undropped c.settle_one.new.table.kept.entries)
      c.in_ok-settle_one.ensures.listed c.in_ok-settle_one.ensures.table.are;
  whole = settle_step c.loop-takes.takes-iterator.rest.items c.next.new.self.rest.items c.in-Some.takes (undropped c.loop-takes.table.kept.entries) (undropped c.settle_one.new.table.kept.entries)
      c.in-Some.ensures.steps.0 c.in_ok-settle_one.ensures.table.are ∙ c.loop-takes.invariant.whole;
}

pub returns-clause-table : goal.returns-clause-table
returns-clause-table c =
    let none = nil_from_length c.loop-takes.takes-iterator.rest.items (sym c.loop-takes.takes-iterator.rest.ok.0 ∙ c.in-None.ensures.steps.0) in
    subst (λ (ks : List KeptTx). HasEntries c.loop-takes.table ks)
    (sym (settle_none c.loop-takes.takes-iterator.rest.items (undropped c.loop-takes.table.kept.entries) none) ∙ c.loop-takes.invariant.whole) c.loop-takes.invariant.table

pub returns-clause-listed : goal.returns-clause-listed
returns-clause-listed c =
    let none = nil_from_length c.loop-takes.takes-iterator.rest.items (sym c.loop-takes.takes-iterator.rest.ok.0 ∙ c.in-None.ensures.steps.0) in
    listed_as c.loop-takes.listings (undropped c.loop-takes.table.kept.entries) _ c.loop-takes.invariant.listed
    (sym (sym (settle_none c.loop-takes.takes-iterator.rest.items (undropped c.loop-takes.table.kept.entries) none) ∙ c.loop-takes.invariant.whole))

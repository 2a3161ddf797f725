use Rattle.std.proofs.Common.{◌∙◌, sym, ap, not, true, false}
use Rattle.std.specs.List.{list_any}
use Rattle.std.specs.Prelude.{flat_map}
use Rattle.el_base.specs.declared.hash.Hash32.{Hash32}
use Rattle.el_kept.specs.Tables.{undropped}
use Rattle.el_kept.specs.Tables.{slot, slot_at_script, without_txids}
use Rattle.el_join.specs.within.Going.{gone_change}
use Rattle.el_kept.proofs.Slots.{slot_is}
use Rattle.el_kept.proofs.Listed.{listed_as}
use Rattle.el_join.proofs.Dropped.{entry_there, drop_is}
use Rattle.el_join.proofs.FeesGone.{changes_gone, changes_none}
use Rattle.el_join.proofs.removing.drop_from.Goals as goal

pub returns-then-is_none-clause-kept : goal.returns-then-is_none-clause-kept
returns-then-is_none-clause-kept c =
    sym (entry_there c.args.txid.now (undropped c.args.table.now.kept.entries)
    ∙ slot_is c.args.table.now c.args.txid.now c.kept_under.result (not c.is_none.result) false c.requires.table c.kept_under.ensures (sym c.is_none.ensures) (ap not c.if-is_none.true))

pub returns-clause-kept : goal.returns-clause-kept
returns-clause-kept c =
    sym (entry_there c.args.txid.now (undropped c.args.table.now.kept.entries)
    ∙ slot_is c.args.table.now c.args.txid.now c.kept_under.result (not c.is_none.result) true c.requires.table c.kept_under.ensures (sym c.is_none.ensures) (ap not c.if-is_none.false))

pub returns-clause-stands : goal.returns-clause-stands
returns-clause-stands c = λ chain kept h.
    drop_is c.args.table.now chain kept c.args.txid.now c.in_ok-gone.gone c.requires.table h
    (slot_is c.args.table.now c.args.txid.now c.kept_under.result (not c.is_none.result) true c.requires.table c.kept_under.ensures (sym c.is_none.ensures) (ap not c.if-is_none.false))
    c.in_ok-gone.ensures c.in_ok-touched.touched (undropped c.tidy.new.table.kept.entries)
    (c.tidy.ensures.table.are ∙ c.take_out_all.ensures.table.are ∙ ap (λ l. without_txids l (undropped c.args.table.now.kept.entries)) c.list-3.ensures.same)
    (λ s. c.in_ok-touched.ensures.each s ∙ ap (list_any (λ (x : Hash32). slot_at_script s.0 (slot c.args.table.now x))) c.list.ensures.same) c.in_ok-touched.ensures.once

pub returns-clause-listed : goal.returns-clause-listed
returns-clause-listed c =
    listed_as c.take_out_all.new.listings _ (undropped c.tidy.new.table.kept.entries) c.take_out_all.ensures.listed
    (c.tidy.ensures.table.are ∙ c.take_out_all.ensures.table.are)

pub returns-then-is_none-clause-fees : goal.returns-then-is_none-clause-fees
returns-then-is_none-clause-fees c = λ chain kept h. changes_none (undropped c.args.table.now.kept.entries) c.clear.new.self.items c.clear.ensures.items

pub returns-clause-fees : goal.returns-clause-fees
returns-clause-fees c = λ chain kept h.
    changes_gone c.args.table.now chain kept c.in_ok-gone.gone (undropped c.tidy.new.table.kept.entries) c.in_ok-told.told.items c.requires.table h c.list.ensures.once
    (c.tidy.ensures.table.are ∙ c.take_out_all.ensures.table.are ∙ ap (λ l. without_txids l (undropped c.args.table.now.kept.entries)) c.list-3.ensures.same)
    (c.in_ok-told.ensures ∙ ap (flat_map (λ (x : Hash32). gone_change (slot c.args.table.now x))) c.list-2.ensures.same)

use Rattle.std.proofs.Common.{take}
use Rattle.el_kept.specs.Tables.{undropped, without_txids}
use Rattle.el_kept.proofs.Listed.{listed_as}
use Rattle.el_kept.proofs.Cleared.{without_none, out_of_all, one_more_out, one_more_unlisted}
use Rattle.el_kept.proofs.taking.take_out_all.Goals as goal

pub loop-id-init : goal.loop-id-init
loop-id-init c = record {
  table = out_of_all c.args.table.now (undropped c.args.table.now.kept.entries) c.requires.table;
  listed = listed_as c.args.listings.now (undropped c.args.table.now.kept.entries) _ c.requires.listed
      (without_none (undropped c.args.table.now.kept.entries));
}

pub unlist_kept-requires-clause-listed : goal.unlist_kept-requires-clause-listed
unlist_kept-requires-clause-listed c =
    listed_as c.loop-id.listings (without_txids (take c.loop-id.id-index c.args.ids.now) (undropped c.args.table.now.kept.entries))
    (undropped c.loop-id.table.kept.entries) c.loop-id.invariant.listed c.loop-id.invariant.table.are

pub loop-id-preserved : goal.loop-id-preserved
loop-id-preserved c = record {
  table = one_more_out c.loop-id.table c.take_out.new.table c.args.ids.now c.loop-id.id-index _
      (undropped c.args.table.now.kept.entries) c.loop-id-test.true c.loop-id.invariant.table c.take_out.ensures;
  listed = one_more_unlisted c.loop-id.table c.unlist_kept.new.listings c.args.ids.now c.loop-id.id-index _
      (undropped c.args.table.now.kept.entries) c.loop-id-test.true c.loop-id.invariant.table c.unlist_kept.ensures;
}

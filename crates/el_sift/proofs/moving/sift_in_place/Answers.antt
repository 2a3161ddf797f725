use Rattle.std.proofs.Common.{List, ap, sym, subst, ◌∙◌}
use Rattle.std.specs.Prelude.{map}
use Rattle.el_mempool.specs.declared.held.KeptTx.{KeptTx}
use Rattle.el_mempool.specs.Sift.{sift}
use Rattle.el_mempool.specs.Standing.{KeptStandFor}
use Rattle.el_kept.specs.Tables.{undropped, without_txids}
use Rattle.el_sift.specs.within.Renewal.{settled}
use Rattle.el_mempool.specs.Fees.{fee_changes}
use Rattle.el_mempool.proofs.FeeChanges.{changes_are}
use Rattle.el_kept.proofs.Lookups.{is_over}
use Rattle.el_sift.proofs.moving.sift_in_place.Goals as goal

pub returns-clause-sifted : goal.returns-clause-sifted
returns-clause-sifted g c = λ before chain kept h stood keeps.
    let over = is_over c.args.table.now before kept c.requires.table h in
    let said = c.in_ok-gone.ensures.sifted before chain kept over (c.in_ok-confirmed.ensures.told before chain kept over keeps stood) keeps (c.in_ok-confirmed.ensures.quiet.stays.still_stands chain stood) in
    let are = c.tidy.ensures.table.are ∙ c.in_ok-settle_all.ensures.table.are ∙ ap (map (settled c.in_ok-gone.field-0.changed))
    (c.take_out_all.ensures.table.are ∙ ap (λ ids. without_txids ids (undropped c.args.table.now.kept.entries)) c.list.ensures.same) in
    (subst (λ (l : List KeptTx). KeptStandFor l chain (sift chain kept)) (sym are) said.0, said.1)

pub returns-clause-fees : goal.returns-clause-fees
returns-clause-fees g c = λ before chain kept h stood keeps.
    let over = is_over c.args.table.now before kept c.requires.table h in
    let said = c.in_ok-gone.ensures.sifted before chain kept over (c.in_ok-confirmed.ensures.told before chain kept over keeps stood) keeps (c.in_ok-confirmed.ensures.quiet.stays.still_stands chain stood) in
    let are = c.tidy.ensures.table.are ∙ c.in_ok-settle_all.ensures.table.are ∙ ap (map (settled c.in_ok-gone.field-0.changed))
    (c.take_out_all.ensures.table.are ∙ ap (λ ids. without_txids ids (undropped c.args.table.now.kept.entries)) c.list.ensures.same) in
    changes_are (undropped c.args.table.now.kept.entries) (undropped c.tidy.new.table.kept.entries) c.into_vec.result.items
    (c.into_vec.ensures ∙ said.2 ∙ ap (fee_changes (undropped c.args.table.now.kept.entries)) (sym are))

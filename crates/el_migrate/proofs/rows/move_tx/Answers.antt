use Rattle.std.proofs.Common.{◌++◌, ◌∷◌, [], length, ap, sym, subst, ◌∙◌}
use Rattle.el_base.specs.declared.hash.Hash32.{Hash32}
use Rattle.el_row_formats.specs.RowBytes.{tx_row_bytes}
use Rattle.el_migrate.specs.within.Moving.{AreHeads}
use Rattle.el_migrate.specs.within.Relinked.{relinked_tx}
use Rattle.el_migrate.proofs.Fits.{fits_tx}
use Rattle.el_migrate.proofs.rows.move_tx.Goals as goal

pub write-requires-clause-fits : goal.write-requires-clause-fits
write-requires-clause-fits c = fits_tx c.read_old-row.result c.read_old-row.ensures.fits c.put_row-next.result c.put_row-next.ensures.fits

pub returns-clause-row : goal.returns-clause-row
returns-clause-row c r hashes fits is are n =
    let row = c.read_old-row.result in
    let link = c.put_row-next.ensures.link hashes are n in
    c.write.ensures
    ∙ ap (λ next. tx_row_bytes (record row { next = next })) link
    ∙ ap (λ x. tx_row_bytes (relinked_tx (length c.args.links.now) hashes x)) (sym (c.read_old-row.ensures.only r fits is))

pub returns-clause-heads : goal.returns-clause-heads
returns-clause-heads c r hashes fits is are n =
    subst (λ (h : Hash32). AreHeads c.put_row-next.new.links (hashes ++ h ∷ [])) (sym (ap (λ x. x.txid) (c.read_old-row.ensures.only r fits is))) (c.put_row-next.ensures.heads hashes are n)

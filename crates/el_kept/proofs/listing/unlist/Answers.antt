use Rattle.std.specs.List.{list_any}
use Rattle.el_chain.specs.Headers.{same_hash}
use Rattle.el_mempool.specs.Standing.{is_coin_at}
use Rattle.el_mempool.specs.Unconfirmed.{has_script}
use Rattle.el_kept.specs.Listings.{is_in, txid_of}
use Rattle.el_kept.proofs.Listed.{both_tests}
use Rattle.el_kept.proofs.listing.unlist.Goals as goal

pub returns : goal.returns
returns c = λ l.
    both_tests (list_any (has_script l.script.0) c.args.entry.now.outputs)
    (list_any (is_coin_at l.script.0) c.args.entry.now.inputs) (same_hash c.args.entry.now.txid (txid_of l))
    (is_in c.args.listings.now l) (is_in c.remove_outputs.new.listings l) (is_in c.remove_inputs.new.listings l)
    (rw c.as_slice.ensures at (c.remove_outputs.ensures l)) (rw c.as_slice-2.ensures at (c.remove_inputs.ensures l))
    (λ same. c.requires l same)

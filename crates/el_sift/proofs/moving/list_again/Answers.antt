use Rattle.std.proofs.Common.{◌∙◌, ◌||◌, ap}
use Rattle.std.specs.List.{list_any}
use Rattle.el_chain.specs.Headers.{same_hash}
use Rattle.el_mempool.specs.Standing.{is_coin_at}
use Rattle.el_mempool.specs.Unconfirmed.{has_script}
use Rattle.el_kept.specs.Listings.{txid_of, is_in}
use Rattle.el_sift.proofs.Relisted.{again}
use Rattle.el_sift.proofs.moving.list_again.Goals as goal

pub returns : goal.returns
returns c = λ l.
    again c.list_under.result (same_hash c.args.entry.now.txid (txid_of l)) (list_any (same_hash l.script) c.list.result.now)
    (list_any (has_script l.script.0) c.args.entry.now.outputs || list_any (is_coin_at l.script.0) c.args.inputs.now)
    (is_in c.args.listings.now l) (is_in c.unlist.new.listings l) (is_in c.list_under.new.listings l)
    (c.unlist.ensures l) (c.list_under.ensures.ok l)
    (ap (list_any (same_hash l.script)) c.list.ensures.same ∙ rw c.as_slice-2.ensures at (c.in_ok-scripts.ensures.each l.script))

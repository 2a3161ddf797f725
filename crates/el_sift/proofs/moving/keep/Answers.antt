use Rattle.std.proofs.Common.{◌≡◌, ◌-◌, refl, rules}
use Rattle.el_mempool.specs.Sift.{total_held}
use Rattle.el_kept.specs.Tables.{with_takes}
use Rattle.el_kept.specs.Named.{total_sources}
use Rattle.el_sift.proofs.moving.keep.Goals as goal

pub returns-clause-fees : goal.returns-clause-fees
returns-clause-fees c =
    let fee : total_sources c.args.taken.sources.items - total_held c.args.entry.now.outputs ≡ c.in_ok-fee.fee = search rules in
    c.in_ok-add_stayed.ensures
    (with_takes c.args.entry.now c.args.taken.flag (total_sources c.args.taken.sources.items - total_held c.args.entry.now.outputs) c.args.taken.sources.items) fee refl

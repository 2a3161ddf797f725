use Rattle.std.proofs.Common.{◌≤◌}
use Rattle.el_net.proofs.block_folder.BlockFolderFolder.count.Given as goal

abbrev pub invariant-loop-entry : goal.invariant-loop-entry
invariant-loop-entry g l = l.count ≤ 100000

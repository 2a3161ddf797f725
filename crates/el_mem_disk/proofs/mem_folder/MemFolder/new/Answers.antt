use Rattle.std.proofs.Common.{◌≡◌, false, true, List, ℕ, subst, ap}
use Rattle.el_mem_disk.specs.Disks.{DiskState}
use Rattle.el_mem_disk.proofs.FolderCalls.{Listed}
use Rattle.el_mem_disk.proofs.mem_folder.MemFolder.new.Goals as goal

pub invariant_of-result : goal.invariant_of-result
invariant_of-result c = record {
  absent = λ f out. ap (λ (s : DiskState). s.files f) c.new.ensures;
  kept = λ f is. let wrong : false ≡ true = subst (λ (xs : List ℕ). Listed f xs ≡ true) c.new-3.ensures.items is in absurd (cc wrong);
}

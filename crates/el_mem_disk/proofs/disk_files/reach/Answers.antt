use Rattle.std.proofs.Common.{◌++◌, ◌∷◌, [], ◌∙◌, ap}
use Rattle.el_mem_disk.specs.DiskFiles.{file_numbered}
use Rattle.el_mem_disk.proofs.DiskFileLists.{file_of_push}
use Rattle.el_mem_disk.proofs.disk_files.reach.Goals as goal

pub loop-alloc-preserved : goal.loop-alloc-preserved
loop-alloc-preserved c =
    ap file_numbered c.in_ok-push.ensures.items ∙ ap (λ file. file_numbered (c.loop-alloc.files.items ++ file ∷ [])) c.new.ensures
    ∙ file_of_push c.loop-alloc.files.items ∙ c.loop-alloc.invariant

use Rattle.std.proofs.Common.{◌≡◌, ◌∙◌, ap}
use Rattle.el_outside.specs.Images.{at_file}
use Rattle.el_mem_disk.specs.DiskFiles.{file_numbered, file_synced}
use Rattle.el_mem_disk.proofs.DiskFileLists.{found, file_of_set}
use Rattle.el_mem_disk.proofs.disk_files.sync_file.Goals as goal

pub returns-clause-ok : goal.returns-clause-ok
returns-clause-ok c =
    let was : c.index_mut.result.now ≡ file_numbered c.args.files.now.items c.args.file =
    found c.reach.new.files.items c.args.file c.index_mut.result.now c.in_ok-reach.ensures.there c.index_mut.ensures.value
    ∙ ap (λ files. files c.args.file) c.reach.ensures.same in
    file_of_set c.reach.new.files.items c.args.file c.sync.new.self c.in_ok-reach.ensures.there
    ∙ (λ i. at_file (c.reach.ensures.same i) c.args.file ((c.in_ok-sync.ensures.ok ∙ ap (file_synced) was) i))

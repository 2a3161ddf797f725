use Rattle.std.proofs.Common.{◌≡◌, ◌≤◌, length, sym, ◌∙◌, ap, subst}
use Rattle.el_outside.specs.Images.{at_file}
use Rattle.el_mem_disk.specs.DiskFiles.{FileState, file_numbered, file_cut}
use Rattle.el_mem_disk.proofs.DiskFileLists.{found, file_of_set}
use Rattle.el_mem_disk.proofs.disk_files.cut_file.Goals as goal

pub returns-clause-ok : goal.returns-clause-ok
returns-clause-ok c =
    let was : c.index_mut.result.now ≡ file_numbered c.args.files.now.items c.args.file =
    found c.reach.new.files.items c.args.file c.index_mut.result.now c.in_ok-reach.ensures.there c.index_mut.ensures.value
    ∙ ap (λ files. files c.args.file) c.reach.ensures.same in
    file_of_set c.reach.new.files.items c.args.file c.cut.new.self c.in_ok-reach.ensures.there
    ∙ (λ i. at_file (c.reach.ensures.same i) c.args.file ((c.in_ok-cut.ensures.ok ∙ ap (file_cut c.args.len c.args.is_seen) was) i))

pub cut-requires : goal.cut-requires
cut-requires c =
    let was : c.index_mut.result.now ≡ file_numbered c.args.files.now.items c.args.file =
    found c.reach.new.files.items c.args.file c.index_mut.result.now c.in_ok-reach.ensures.there c.index_mut.ensures.value
    ∙ ap (λ files. files c.args.file) c.reach.ensures.same in
    subst (λ (file : FileState). c.args.len ≤ length file.bytes) (sym was) c.requires

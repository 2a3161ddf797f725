use Rattle.std.proofs.Common.{◌∙◌, ap, subst, sym, refl, length, append-nil}
use Rattle.el_outside.specs.Files.{AllGrow}
use Rattle.el_net.specs.Devices.{BlocksOf}
use Rattle.el_net.proofs.Unmasking.{reads_grow, length_unmasked}
use Rattle.el_net.proofs.block_files.BlockFilesArchive.size.Goals as goal

pub returns-in-Ok-clause-keeps : goal.returns-in-Ok-clause-keeps
returns-in-Ok-clause-keeps g c = λ told. reads_grow c.args.self.now.mask c.size_of-found.new.self.mask c.size_of-found.new.self.mask
    (g.F.Folder.bytes c.args.self.now.folder) (g.F.Folder.bytes c.size_of-found.new.self.folder) (g.F.Folder.bytes c.size_of-found.new.self.folder)
    (c.size_of-found.ensures.mask ∙ ap (λ (b : BlocksOf _). b.mask) c.count_call.ensures) refl refl
    (subst (λ (b : BlocksOf _). AllGrow (g.F.Folder.bytes b.folder) (g.F.Folder.bytes c.size_of-found.new.self.folder)) c.count_call.ensures (c.size_of-found.ensures.grows told))

pub returns-in_default-clause-keeps : goal.returns-in_default-clause-keeps
returns-in_default-clause-keeps g c = λ told. reads_grow c.args.self.now.mask c.size_of-found.new.self.mask c.fault.new.self.mask
    (g.F.Folder.bytes c.args.self.now.folder) (g.F.Folder.bytes c.size_of-found.new.self.folder) (g.F.Folder.bytes c.fault.new.self.folder)
    (c.size_of-found.ensures.mask ∙ ap (λ (b : BlocksOf _). b.mask) c.count_call.ensures) c.fault.ensures.mask (ap g.F.Folder.bytes c.fault.ensures.folder)
    (subst (λ (b : BlocksOf _). AllGrow (g.F.Folder.bytes b.folder) (g.F.Folder.bytes c.size_of-found.new.self.folder)) c.count_call.ensures (c.size_of-found.ensures.grows told))

pub returns-in-Ok-clause-size : goal.returns-in-Ok-clause-size
returns-in-Ok-clause-size g c = λ told. c.in-Ok.ensures.size told ∙ sym (length_unmasked _ 0 (g.F.Folder.bytes c.size_of-found.new.self.folder c.args.file)) ∙ ap length (sym (append-nil _))

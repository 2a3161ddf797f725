use Rattle.std.proofs.Common.{◌∙◌, ◌-◌, ap, subst, sym, refl, min, length, take, drop, append-nil}
use Rattle.el_outside.specs.Files.{AllGrow}
use Rattle.el_net.specs.Devices.{BlocksOf}
use Rattle.el_net.proofs.Unmasking.{reads_grow, length_unmasked}
use Rattle.el_net.proofs.block_files.BlockFilesArchive.read.Goals as goal

pub returns-in-Ok-clause-keeps : goal.returns-in-Ok-clause-keeps
returns-in-Ok-clause-keeps g c = λ told. reads_grow c.args.self.now.mask c.read_from.new.self.mask c.read_from.new.self.mask
    (g.F.Folder.bytes c.args.self.now.folder) (g.F.Folder.bytes c.read_from.new.self.folder) (g.F.Folder.bytes c.read_from.new.self.folder)
    (c.read_from.ensures.mask ∙ ap (λ (b : BlocksOf _). b.mask) c.count_call.ensures) refl refl
    (subst (λ (b : BlocksOf _). AllGrow (g.F.Folder.bytes b.folder) (g.F.Folder.bytes c.read_from.new.self.folder)) c.count_call.ensures (c.read_from.ensures.grows told))

pub returns-in-Err-clause-keeps : goal.returns-in-Err-clause-keeps
returns-in-Err-clause-keeps g c = λ told. reads_grow c.args.self.now.mask c.read_from.new.self.mask c.fault.new.self.mask
    (g.F.Folder.bytes c.args.self.now.folder) (g.F.Folder.bytes c.read_from.new.self.folder) (g.F.Folder.bytes c.fault.new.self.folder)
    (c.read_from.ensures.mask ∙ ap (λ (b : BlocksOf _). b.mask) c.count_call.ensures) c.fault.ensures.mask (ap g.F.Folder.bytes c.fault.ensures.folder)
    (subst (λ (b : BlocksOf _). AllGrow (g.F.Folder.bytes b.folder) (g.F.Folder.bytes c.read_from.new.self.folder)) c.count_call.ensures (c.read_from.ensures.grows told))

pub returns-in-Ok-clause-count : goal.returns-in-Ok-clause-count
returns-in-Ok-clause-count g c = λ told. c.in-Ok.ensures.count told
    ∙ ap (λ m. min (length c.args.buf.now) (m - c.args.at)) (sym (length_unmasked _ 0 (g.F.Folder.bytes c.read_from.new.self.folder c.args.file)) ∙ ap length (sym (append-nil _)))

pub returns-in-Ok-clause-filled : goal.returns-in-Ok-clause-filled
returns-in-Ok-clause-filled g c = λ told. c.in-Ok.ensures.filled told ∙ ap (λ t. take c.in-Ok.n (drop c.args.at t)) (sym (append-nil _))

use Rattle.el_mem_disk.specs.DiskFiles.{file_numbered, file_cut}
use Rattle.el_mem_disk.proofs.DiskSound.{sound_after, sound_cut}
use Rattle.el_mem_disk.proofs.disk.MemDisk.shorten.Goals as goal

pub invariant_of-self : goal.invariant_of-self
invariant_of-self c =
    let files = file_numbered c.args.self.now.files.items in
    record {
      sound = sound_after c.cut_file.result files (file_numbered c.cut_file.new.files.items) c.args.self.now.sound c.args.file (file_cut c.args.len c.args.is_seen (files c.args.file))
          (sound_cut (files c.args.file) c.args.len c.args.is_seen (c.args.self.now.sound c.args.file) c.requires)
          c.cut_file.ensures.ok c.cut_file.ensures.err;
    }

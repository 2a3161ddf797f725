use Rattle.el_mem_disk.specs.DiskFiles.{file_numbered, file_written}
use Rattle.el_mem_disk.proofs.DiskSound.{sound_after, sound_written}
use Rattle.el_mem_disk.proofs.disk.MemDisk.write.Goals as goal

pub invariant_of-self : goal.invariant_of-self
invariant_of-self c =
    let files = file_numbered c.args.self.now.files.items in
    record {
      sound = sound_after c.write_file.result files (file_numbered c.write_file.new.files.items) c.args.self.now.sound c.args.file (file_written c.args.at c.args.n c.args.front.now (files c.args.file))
          (sound_written (files c.args.file) c.args.at c.args.n c.args.front.now (c.args.self.now.sound c.args.file) c.requires.place c.requires.front c.requires.end)
          c.write_file.ensures.ok c.write_file.ensures.err;
    }

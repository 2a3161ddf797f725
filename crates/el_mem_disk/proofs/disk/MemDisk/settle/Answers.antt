use Rattle.el_mem_disk.specs.DiskFiles.{file_numbered, file_synced}
use Rattle.el_mem_disk.proofs.DiskSound.{sound_after, sound_synced}
use Rattle.el_mem_disk.proofs.disk.MemDisk.settle.Goals as goal

pub invariant_of-self : goal.invariant_of-self
invariant_of-self c =
    let files = file_numbered c.args.self.now.files.items in
    record {
      sound = sound_after c.sync_file.result files (file_numbered c.sync_file.new.files.items) c.args.self.now.sound c.args.file (file_synced (files c.args.file))
          (sound_synced (files c.args.file) (c.args.self.now.sound c.args.file))
          c.sync_file.ensures.ok c.sync_file.ensures.err;
    }

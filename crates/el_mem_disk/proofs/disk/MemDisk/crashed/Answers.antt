use Rattle.std.proofs.Common.{List, ◌∙◌, ap}
use Rattle.el_mem_disk.specs.DiskFiles.{FileState, file_numbered, crashed}
use Rattle.el_mem_disk.proofs.DiskSound.{sound_same, sound_crashed}
use Rattle.el_mem_disk.proofs.disk.MemDisk.crashed.Goals as goal

pub invariant_of-result : goal.invariant_of-result
invariant_of-result c =
    let files = file_numbered c.args.self.now.files.items in
    record {
      sound = sound_same (file_numbered c.in_ok-files.files.items) (crashed files c.args.numbers.now)
          (c.in_ok-files.ensures ∙ ap (λ (items : List FileState). crashed (file_numbered items) c.args.numbers.now) c.as_slice.ensures.value)
          (sound_crashed files c.args.numbers.now c.args.self.now.sound);
    }

use Rattle.std.proofs.Common.{ap}
use Rattle.std.proofs.lemmas.Result.{IfOk-weaker}
use Rattle.el_mem_disk.specs.Disks.{DiskState}
use Rattle.el_trials.proofs.MemLives.{crash_reads, crash_images}
use Rattle.el_trials.proofs.one_life.after_crash.Goals as goal

pub returns : goal.returns
returns c = IfOk-weaker c.crashed.result _ _ (λ next is.
    let files = ap (λ (s : DiskState). s.files) is in
    record {
      reads = crash_reads c.args.disk.now next c.as_slice.result.now files next.sound;
      images = λ image left. crash_images c.args.disk.now next c.as_slice.result.now files image left;
    }) c.crashed.ensures

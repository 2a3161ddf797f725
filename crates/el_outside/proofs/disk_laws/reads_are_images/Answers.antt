use Rattle.el_outside.proofs.Images.{all_synced, keep_shortened, keep_written, over_written, take_shortened}
use Rattle.el_outside.proofs.disk_laws.reads_are_images.Goals as goal

pub returns-clause-synced : goal.returns-clause-synced
returns-clause-synced c = all_synced

pub returns-clause-written : goal.returns-clause-written
returns-clause-written c = λ kept at n seen front le part image. over_written kept at n seen front le part image

pub returns-clause-not_written : goal.returns-clause-not_written
returns-clause-not_written c = keep_written

pub returns-clause-cut : goal.returns-clause-cut
returns-clause-cut c = take_shortened

pub returns-clause-not_cut : goal.returns-clause-not_cut
returns-clause-not_cut c = keep_shortened

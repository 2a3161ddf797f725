use Rattle.el_mem_disk.proofs.Choices.{all_chosen}
use Rattle.el_mem_disk.proofs.laws.every_image_is_chosen.Goals as goal

pub returns : goal.returns
returns c = all_chosen

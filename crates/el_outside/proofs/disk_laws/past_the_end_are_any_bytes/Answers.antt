use Rattle.el_outside.proofs.Images.{any_past_end}
use Rattle.el_outside.proofs.disk_laws.past_the_end_are_any_bytes.Goals as goal

pub returns : goal.returns
returns c = any_past_end

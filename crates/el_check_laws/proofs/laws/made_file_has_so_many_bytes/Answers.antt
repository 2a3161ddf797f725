use Rattle.el_check_laws.proofs.MadeSizes.{file_size}
use Rattle.el_check_laws.proofs.laws.made_file_has_so_many_bytes.Goals as goal

pub returns : goal.returns
returns c = λ count some. file_size count some

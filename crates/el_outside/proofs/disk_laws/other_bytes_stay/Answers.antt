use Rattle.el_outside.proofs.disk_laws.other_bytes_stay.Goals as goal

pub returns : goal.returns
returns c = λ kept d i image lt in_bytes out. image.same i lt in_bytes out

-- What follows where a call succeeded.
use Rattle.std.proofs.Common.{Result, Ok, Err, OnOk}

pub on_ok : {T E P Q : Type 0} (r : Result T E) → OnOk r P → (P → Q) → OnOk r Q
on_ok (Ok x) p follows = follows p
on_ok (Err e) p follows = tt

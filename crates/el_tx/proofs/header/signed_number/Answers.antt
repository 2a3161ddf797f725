use Rattle.std.proofs.Common.{◌≡◌, List, ℕ, take, arith, ap, ◌∙◌}
use Rattle.std.specs.Int.{w32, from_le_bytes, cast_signed}
use Rattle.el_tx.proofs.HeaderLemmas.{signed_in_front}
use Rattle.el_tx.proofs.header.signed_number.Goals as goal

pub returns : goal.returns
returns c =
    let parts = c.in-Some.ensures.cases in
    let is : c.from_le_bytes.result ≡ cast_signed w32 (from_le_bytes w32 (take 4 c.args.bytes.now))
    = c.from_le_bytes.ensures ∙ ap (λ (t : List ℕ). cast_signed w32 (from_le_bytes w32 t)) parts.0 in
    rw parts.1 (signed_in_front c.args.bytes.now c.from_le_bytes.result c.requires (λ i. omega (arith, c.type_inv.bytes i)) is)

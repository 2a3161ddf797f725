use Rattle.std.proofs.Common.{◌≡◌, ◌++◌, List, [], ℕ, ℤ, take, ap, ◌∙◌, rules}
use Rattle.std.specs.Prelude.{FitsSigned}
use Rattle.std.specs.Int.{w32, to_le_bytes, cast_unsigned}
use Rattle.std.proofs.lemmas.Int.{to_z-of_z}
use Rattle.el_tx.proofs.HeaderLemmas.{six_puts}
use Rattle.el_tx.proofs.header.encode_header.Goals as goal

pub returns : goal.returns
returns c =
    let fits : FitsSigned w32 c.args.h.now.version = search rules in
    let version : c.to_le_bytes.result ≡ to_le_bytes w32 (cast_unsigned w32 c.args.h.now.version)
    = c.to_le_bytes.ensures ∙ ap (λ (z : ℤ). to_le_bytes w32 (cast_unsigned w32 z)) (to_z-of_z w32 c.args.h.now.version fits) in
    six_puts [] c.put_four.new.header c.put_hash.new.header c.put_hash-2.new.header c.put_four-2.new.header c.put_four-3.new.header c.put_four-4.new.header
    (to_le_bytes w32 (cast_unsigned w32 c.args.h.now.version)) c.args.h.now.previous.0 c.args.h.now.root.0
    (to_le_bytes w32 c.args.h.now.time) (to_le_bytes w32 c.args.h.now.bits) (to_le_bytes w32 c.args.h.now.nonce)
    c.put_four-4.array_long
    (c.put_four.ensures ∙ version)
    c.put_hash.ensures c.put_hash-2.ensures
    (c.put_four-2.ensures ∙ ap (λ (t : List ℕ). take 68 c.put_hash-2.new.header ++ t) c.to_le_bytes-2.ensures)
    (c.put_four-3.ensures ∙ ap (λ (t : List ℕ). take 72 c.put_four-2.new.header ++ t) c.to_le_bytes-3.ensures)
    (c.put_four-4.ensures ∙ ap (λ (t : List ℕ). take 76 c.put_four-3.new.header ++ t) c.to_le_bytes-4.ensures)

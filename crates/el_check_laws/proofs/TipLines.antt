-- The line by which a node names its tip says that, and nothing else.
use Rattle.std.proofs.Common.{◌≡◌, ℕ, suc, List, [], ◌∷◌, reverse, Some, None, Option, refl, ap, arith}
use Rattle.std.proofs.lemmas.List.{length-reverse}
use Rattle.std.proofs.lemmas.Grind.{reverse_onto}
use Rattle.hex.specs.Hex.{lower_digits}
use Rattle.hex.proofs.HexLemmas.{length-encode_with, decode_of-encode_lower}
use Rattle.el_base.specs.Left.{AreBytes}
use Rattle.el_base.specs.Shown.{shown, Shows}
use Rattle.el_base.specs.declared.hash.Hash32.{Hash32}
use Rattle.el_lines.specs.NodeLines.{NodeLine, tip, ReadsNodeLine}
use Rattle.el_side.specs.Side.{IsSaid}
use Rattle.el_check_chain.specs.Leading.{tip_line}
use Rattle.el_check_laws.proofs.MadeTxs.{no_bytes, cons_bytes, joined_bytes}
use Rattle.el_check_laws.proofs.MadeBlocks.{IsHash}

reversed_bytes : (xs : List ℕ) → AreBytes xs → AreBytes (reverse xs)
reversed_bytes [] all = no_bytes
reversed_bytes (x ∷ xs) all =
    let is = reverse_onto xs x [] in
    rw is (joined_bytes (reverse xs) (x ∷ []) (reversed_bytes xs (λ i. all (suc i))) (cons_bytes x [] (all 0) no_bytes))

hash_shows : (h : Hash32) → IsHash h → Shows (shown h.0) h.0
hash_shows h hash = record {
  size = (
      let long = length-encode_with lower_digits (reverse h.0) in
      let same = length-reverse h.0 in
      let own = hash.size in
      omega (arith, long, same, own)
      );
  digits = decode_of-encode_lower (reverse h.0) (reversed_bytes h.0 hash.all);
}

pub tip_reads : (h : Hash32) → IsHash h → ReadsNodeLine (tip_line h) (tip h.0)
tip_reads h hash = record { text = shown h.0; whole = refl; shown = hash_shows h hash }

-- a line of a node says one thing at most
abbrev pub SayOne : Type 0
SayOne = (line : List ℕ) (one other : NodeLine) → ReadsNodeLine line one → ReadsNodeLine line other → one ≡ other

pub tip_said : SayOne → (h : Hash32) (said : Option NodeLine) → IsHash h → IsSaid (tip_line h) said → said ≡ Some (tip h.0)
tip_said says_one h (Some said) hash says = ap Some (says_one (tip_line h) said (tip h.0) says (tip_reads h hash))
tip_said says_one h None hash none = absurd (none (tip h.0) (tip_reads h hash))

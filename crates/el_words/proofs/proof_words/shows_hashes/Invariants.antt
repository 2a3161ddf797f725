use Rattle.std.proofs.Common.{◌≡◌, List, length}
use Rattle.el_base.specs.declared.hash.Hash32.{Hash32}
use Rattle.el_words.proofs.ProofLemmas.{IsReading}
use Rattle.el_words.proofs.proof_words.shows_hashes.Given as goal

-- as many hashes were read, and this is left of the text
abbrev pub invariant-loop-number : goal.invariant-loop-number
invariant-loop-number l = (hashes : List Hash32) × IsReading l.fn.text hashes l.rest × (length hashes ≡ l.number)

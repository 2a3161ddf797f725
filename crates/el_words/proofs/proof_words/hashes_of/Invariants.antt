use Rattle.std.proofs.Common.{◌≡◌, length}
use Rattle.el_words.proofs.ProofLemmas.{IsReading}
use Rattle.el_words.proofs.proof_words.hashes_of.Given as goal

-- as many hashes were read, and this is left of the text
abbrev pub invariant-loop-number : goal.invariant-loop-number
invariant-loop-number l = record {
  reading : IsReading l.fn.text l.hashes.items l.rest;
  count : length l.hashes.items ≡ l.number;
}

-- A proof that is to be checked, as words.
use Rattle.std.specs.Prelude.{◌≡◌, ℕ, ◌≤◌, ◌^◌, List, [], ◌∷◌, ◌++◌, length, codes, Ok}
use Rattle.hex.specs.Hex.{decode_of}
use Rattle.el_base.specs.Shown.{Shows}
use Rattle.el_base.specs.declared.hash.Hash32.{Hash32}
use Rattle.el_lines.specs.NodeLines.{ShowsNumber}
use Rattle.el_words.specs.Options.{Word}
use Rattle.el_words.specs.declared.words.ProofWords.{ProofWords}

-- the text shows the 80 bytes of a header, by 160 hex digits in either case
pub record ShowsHeader (text header : List ℕ) : Type 0 where
  pub size : length text ≡ 160
  pub digits : decode_of text ≡ Ok header

-- the text shows a hash or more, joined by commas
abbrev pub ShowsHashes : Word → List Hash32 → Type 0
ShowsHashes text [] = ⊥
ShowsHashes text (h ∷ []) = Shows text h.0
ShowsHashes text (h ∷ k ∷ more) =
    (first rest : Word) × (text ≡ first ++ 44 ∷ rest) × Shows first h.0 × ShowsHashes rest (k ∷ more)

-- the text shows a branch: `-` where it has no hash, else at most 32 of them
abbrev pub ShowsBranch : Word → List Hash32 → Type 0
ShowsBranch text [] = text ≡ codes "-"
ShowsBranch text (h ∷ hs) = ShowsHashes text (h ∷ hs) × (length (h ∷ hs) ≤ 32)

-- the words `prove-check HEADER TXID POS BRANCH`, with a number of one to ten digits, which say this
pub record SayProof (words : List Word) (said : ProofWords) : Type 0 where
  pub header_text : Word
  pub txid_text : Word
  pub pos_text : Word
  pub branch_text : Word
  pub words_are : words
      ≡ codes "prove-check" ∷ header_text ∷ txid_text ∷ pos_text ∷ branch_text ∷ []
  pub header_is : ShowsHeader header_text said.header
  pub txid_is : Shows txid_text said.txid.0
  pub pos_is : ShowsNumber pos_text 10 (10 ^ 10) said.pos
  pub branch_is : ShowsBranch branch_text said.branch

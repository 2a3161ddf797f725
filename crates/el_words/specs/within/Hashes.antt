-- Shown hashes one after the other.
use Rattle.std.specs.Prelude.{◌≡◌, ◌≤◌, List, ◌++◌, length}
use Rattle.el_base.specs.Shown.{Shows}
use Rattle.el_base.specs.declared.hash.Hash32.{Hash32}
use Rattle.el_words.specs.Options.{Word}
use Rattle.el_words.specs.Proofs.{ShowsHashes}

-- the text begins with a text that shows the hash, and then has more
pub record BeginsWithHash (text : Word) (hash : Hash32) (more : Word) : Type 0 where
  pub first : Word
  pub whole : text ≡ first ++ more
  pub shown : Shows first hash.0

-- the text shows these hashes, joined by commas, and they are at most 32
pub record ReadsHashes (text : Word) (hashes : List Hash32) : Type 0 where
  pub shown : ShowsHashes text hashes
  pub few : length hashes ≤ 32

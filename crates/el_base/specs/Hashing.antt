-- Hashes over bytes (FIPS 180-4, section 6.2; the function is the one that the crate sha2 specifies).
use Rattle.std.specs.Prelude.{ℕ, List}
use Rattle.sha2.specs.Sha256.{sha256}

-- SHA-256 applied twice, as Bitcoin hashes headers and transactions
abbrev pub sha256d : List ℕ → List ℕ
sha256d bytes = sha256 (sha256 bytes)

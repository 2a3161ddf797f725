-- The example, computed through SHA-256.
use Rattle.std.proofs.Common.{◌≡◌, refl}
use Rattle.sha2.specs.Sha256.{sha256, digest_bytes, hash_after, compress, rounds, schedule, first_words}
use Rattle.el_base.specs.Compact.{compact}
use Rattle.el_tables.specs.ChainLists.{lists, listed_blocks}
use Rattle.el_tables.specs.Tables.{tables_of, bucket_in}
use Rattle.el_tables.specs.Example.{example_chain, example_lists, two_heads, example_tables}

pub example_listed : lists example_chain ≡ example_lists
unfolding sha256 digest_bytes hash_after compress rounds schedule first_words compact
example_listed = refl

pub example_rows : tables_of two_heads (listed_blocks example_chain) example_lists ≡ example_tables
unfolding sha256 digest_bytes hash_after compress rounds schedule first_words compact bucket_in
example_rows = refl

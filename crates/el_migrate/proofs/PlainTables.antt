-- Tables without buckets have the same rows, however many buckets there are.
use Rattle.std.proofs.Common.{◌≡◌, ◌≢◌, ℕ, List, refl}
use Rattle.el_row_formats.specs.declared.table.Table.{Table}
use Rattle.el_row_formats.specs.declared.table.Table.TheVariants as table
use Rattle.el_tables.specs.ChainLists.{ListedBlock}
use Rattle.el_tables.specs.Lists.{Lists}
use Rattle.el_migrate.specs.within.Moving.{IsMoved, HeadsOf, new_rows}

pub plain_rows : (a b : ℕ) (bs : List ListedBlock) (l : Lists) (t : Table) → IsMoved t → t ≢ table.Txs → t ≢ table.Scripts → new_rows a bs l t ≡ new_rows b bs l t
plain_rows a b bs l table.Blocks moved x y = refl
plain_rows a b bs l table.Txs moved x y = absurd (x refl)
plain_rows a b bs l table.TxHeads moved x y = absurd moved
plain_rows a b bs l table.Outs moved x y = refl
plain_rows a b bs l table.Ins moved x y = refl
plain_rows a b bs l table.Scripts moved x y = absurd (y refl)
plain_rows a b bs l table.ScriptHeads moved x y = absurd moved
plain_rows a b bs l table.Entries moved x y = refl

pub plain_heads : (links : List ℕ) (l : Lists) (n : ℕ) (t : Table) → t ≢ table.Txs → t ≢ table.Scripts → HeadsOf t l n links
plain_heads links l n table.Blocks x y = tt
plain_heads links l n table.Txs x y = absurd (x refl)
plain_heads links l n table.TxHeads x y = tt
plain_heads links l n table.Outs x y = tt
plain_heads links l n table.Ins x y = tt
plain_heads links l n table.Scripts x y = absurd (y refl)
plain_heads links l n table.ScriptHeads x y = tt
plain_heads links l n table.Entries x y = tt

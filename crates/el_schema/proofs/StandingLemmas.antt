-- Which rows stand for a chain.
use Rattle.std.proofs.Common.{◌≡◌, ◌∙◌, ◌<◌, ℕ, sym, ap, subst}
use Rattle.el_chain.specs.Chains.{Chain}
use Rattle.el_chain.specs.Faults.{IsGood}
use Rattle.el_tables.specs.ChainLists.{lists, listed_blocks}
use Rattle.el_tables.specs.Tables as typed
use Rattle.el_tables.specs.Tables.{in_both, tables_of}
use Rattle.el_tables.proofs.Tables.{same_tables, tables_stand}
use Rattle.el_row_formats.specs.Tables as held
use Rattle.el_rows.specs.Reads.{Same}
use Rattle.el_schema.specs.Rows.{Encode, bytes_of}
use Rattle.el_schema.specs.Standing.{StandWith, StandFor, HoldChain, buckets_in}
use Rattle.el_schema.proofs.Held.{count_tx_heads}

pub held_with : (heads : ℕ) (rows : held.Tables) (chain : Chain) → StandWith heads rows chain → IsGood chain × HoldChain heads rows chain
held_with heads rows chain s =
    (s.stand.good, subst (Encode rows) (same_tables (in_both heads) s.tables (tables_of (in_both heads) (listed_blocks chain) (lists chain)) chain s.stand (tables_stand (in_both heads) chain s.stand.good)) s.encode)

pub holds : (rows : held.Tables) (chain : Chain) (s : StandFor rows chain) → IsGood chain × HoldChain s.0 rows chain
holds rows chain s = held_with s.0 rows chain s.1

pub stands : (heads : ℕ) (rows : held.Tables) (chain : Chain) → 0 < heads → IsGood chain → HoldChain heads rows chain → StandWith heads rows chain
stands heads rows chain some good hold = record {
  some = some;
  tables = tables_of (in_both heads) (listed_blocks chain) (lists chain);
  encode = hold;
  stand = tables_stand (in_both heads) chain good;
}

pub equal_rows : (heads : ℕ) (a b : held.Tables) (chain : Chain) → StandWith heads a chain → StandWith heads b chain → Same a b
equal_rows heads a b chain s u t =
    u.encode.each t ∙ ap (λ (tb : typed.Tables). bytes_of tb t) (same_tables (in_both heads) u.tables s.tables chain u.stand s.stand) ∙ sym (s.encode.each t)

pub same_with : (heads : ℕ) (a b : held.Tables) (chain : Chain) → StandWith heads a chain → Same a b → StandWith heads b chain
same_with heads a b chain s same = record {
  some = s.some;
  tables = s.tables;
  encode = record { each = λ t. same t ∙ s.encode.each t; fit = s.encode.fit };
  stand = s.stand;
}

pub same_stand : (a b : held.Tables) (chain : Chain) → StandFor a chain → Same a b → StandFor b chain
same_stand a b chain s same = (s.0, same_with s.0 a b chain s.1 same)

-- there are so many heads
pub heads_there : (heads : ℕ) (rows : held.Tables) (chain : Chain) → HoldChain heads rows chain → buckets_in rows ≡ heads
heads_there heads rows chain hold = count_tx_heads (in_both heads) (listed_blocks chain) (lists chain) rows hold

pub heads_are : (heads : ℕ) (rows : held.Tables) (chain : Chain) → StandWith heads rows chain → buckets_in rows ≡ heads
heads_are heads rows chain s = heads_there heads rows chain (held_with heads rows chain s).1

-- so rows with as many heads are equal
pub equal_with_as_many : (a b : held.Tables) (chain : Chain) → StandFor a chain → StandFor b chain → buckets_in a ≡ buckets_in b → Same a b
equal_with_as_many a b chain s u many =
    let same : u.0 ≡ s.0 = sym (heads_are u.0 b chain u.1) ∙ sym many ∙ heads_are s.0 a chain s.1 in
    equal_rows s.0 a b chain s.1 (subst (λ (n : ℕ). StandWith n b chain) same u.1)

-- What an index stands for, and what a crash may leave of it.
use Rattle.std.specs.Prelude.{◌≡◌, ℕ, zero, suc, Option, None, Some}
use Rattle.el_base.specs.declared.hash.Hash32.{Hash32}
use Rattle.el_chain.specs.Chains.{Chain}
use Rattle.el_model.specs.Queries.{tip_of}
use Rattle.el_row_formats.specs.Tables.{Tables}
use Rattle.el_schema.specs.Standing.{StandWith}

-- the height of the last of so many blocks
abbrev pub top : ℕ → Option ℕ
top zero = None
top (suc n) = Some n

-- The rows are those of an index of the chain: they stand for it, with so many heads of each kind.
abbrev pub AreRowsOf : ℕ → Tables → Chain → Type 0
AreRowsOf heads rows chain = StandWith heads rows chain

-- The store tells its rows, which are those of an index of the chain with so many heads, and the hash that is
-- kept is that of its last block.
pub record IsIndexOf (tells : Type 0) (heads : ℕ) (rows : Tables) (kept : Option Hash32) (chain : Chain)
    : Type 0 where
  pub told : tells
  pub stand : AreRowsOf heads rows chain
  pub last : kept ≡ tip_of chain

-- what is left shows rows of an index of the chain, with as many heads as it says
abbrev pub Means : {C : Type 0} → (C → ℕ → Tables → Type 0) → C → Chain → Type 0
Means shows left chain =
    (heads : ℕ) × (rows : Tables) × shows left heads rows × AreRowsOf heads rows chain

-- How an index starts: from no blocks.
use Rattle.std.proofs.Common.{◌≡◌, ◌^◌, ℕ, [], ◌∷◌, List, Option, None, Some, replicate, refl, sym, ◌∙◌}
use Rattle.el_base.specs.declared.hash.Hash32.{Hash32}
use Rattle.el_chain.specs.Chains.{Chain, tip}
use Rattle.el_chain.specs.declared.moves.Plan.{Plan}
use Rattle.el_model.specs.Queries.{tip_of}
use Rattle.el_laws.specs.Going.{AreMovesOf}
use Rattle.el_row_formats.specs.RowBytes.{link_bytes}
use Rattle.el_row_formats.specs.Tables as held
use Rattle.el_row_formats.specs.Tables.{first_count}
use Rattle.el_row_formats.specs.declared.table.Table.{Table}
use Rattle.el_schema.proofs.FirstRows.{first_stand}
use Rattle.el_index.specs.Means.{AreRowsOf}

pub first_are : (bits : ℕ) (rows : held.Tables) → ((t : Table) → rows t ≡ replicate (first_count bits t) (link_bytes None)) → AreRowsOf (2 ^ bits) rows []
first_are bits rows first = first_stand bits rows first

no_blocks : (chain : Chain) → tip_of chain ≡ None → chain ≡ []
no_blocks [] none = refl
no_blocks (b ∷ bs) none = absurd (some_none none)
  where
    some_none : Some (tip (b ∷ bs)) ≡ None → ⊥
    some_none e = cc

-- what moves fit no blocks fits each chain without a last block
pub from_none : (stand : Chain → Type 0) (kept : Option Hash32) → ((chain : Chain) → stand chain → kept ≡ tip_of chain) → kept ≡ None → (plans : List Plan) → AreMovesOf (λ chain. chain ≡ []) plans → AreMovesOf stand plans
from_none stand kept last none [] follow = tt
from_none stand kept last none (p ∷ ps) follow =
    (follow.0, λ chain it. follow.1 chain (no_blocks chain (sym (last chain it) ∙ none)), follow.2, follow.3)

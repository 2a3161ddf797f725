-- What is given of a transaction of the chain is its own, whatever the block files hold.
use Rattle.std.proofs.Common.{◌≡◌, ◌≢◌, ◌∙◌, sym, ap, ℕ, List, Option, Some, None, Result, Ok, Err, refl}
use Rattle.std.specs.Prelude.{IfOk, IfErr}
use Rattle.serde_json.specs.Data.{Data}
use Rattle.el_base.specs.declared.hash.Hash32.{Hash32}
use Rattle.el_tx.proofs.Decoded.{is_full_encoding}
use Rattle.el_chain.specs.Chains.{Chain}
use Rattle.el_chain.specs.declared.node.Spot.{Spot}
use Rattle.el_files.specs.Reading.{IsTxOf}
use Rattle.el_model.specs.Queries.{find_tx}
use Rattle.el_methods.specs.Results.{hex}
use Rattle.el_methods.specs.Replied.{IsTextOf, IsOwnAnswer}
use Rattle.el_methods.specs.Outcomes.{IsDiskCounted}
use Rattle.el_calls.specs.declared.refusal.Refusal.{Refusal}
use Rattle.el_calls.specs.declared.refusal.Refusal.TheVariants as refusal
use Rattle.el_methods.specs.declared.stop.Stop.{Stop}
use Rattle.el_methods.specs.declared.stop.Stop.TheVariants as stop

-- bytes that encode it, in hex
pub text_of_it : (id : Hash32) (len : ℕ) (bytes : List ℕ) (answer : Data) → IsTxOf len id bytes
    → answer ≡ hex bytes → IsTextOf id answer
text_of_it id len bytes answer encodes is =
    (encodes.tx, encodes.is, is ∙ ap hex (is_full_encoding bytes encodes.tx encodes.encoded))

-- the chain has it
pub own_found : (chain : Chain) (id : Hash32) (spot : Spot) → find_tx chain id ≡ Some spot
    → (given : Result Data Stop) → IfOk given (λ answer. IsTextOf id answer)
    → IfErr given (λ e. (r : Refusal) → e ≡ stop.Refused r → ⊥) → IsOwnAnswer chain id given
own_found chain id spot found given own never = by given own never
  where
    there : find_tx chain id ≢ None
    there none = let no : Some spot ≡ None = sym found ∙ none in cc

    by : (given : Result Data Stop) → IfOk given (λ answer. IsTextOf id answer)
        → IfErr given (λ e. (r : Refusal) → e ≡ stop.Refused r → ⊥) → IsOwnAnswer chain id given
    by (Ok answer) own never = (own, there)
    by (Err (stop.Refused r)) own never = absurd (never r refl)
    by (Err stop.Disk) own never = tt
    by (Err stop.Archive) own never = there
    by (Err stop.Changed) own never = there
    by (Err stop.Memory) own never = tt

-- it wasn't found there, or that failed: the block files were not asked
pub own_stopped : (disk : ℕ → Type 0) (chain : Chain) (id : Hash32) (e : Stop)
    → IsDiskCounted {T = Spot} disk (Err e)
    → ((r : Refusal) → e ≡ stop.Refused r → (r ≡ refusal.NoSuchTransaction) × (find_tx chain id ≡ None))
    → IsOwnAnswer chain id (Err e)
own_stopped disk chain id (stop.Refused r) counted none = none r refl
own_stopped disk chain id stop.Disk counted none = tt
own_stopped disk chain id stop.Archive counted none = absurd counted
own_stopped disk chain id stop.Changed counted none = absurd counted
own_stopped disk chain id stop.Memory counted none = tt

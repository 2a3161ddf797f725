-- How many rows of the index a client's line reads at most: those of the calls that its requests ask for,
-- each once.
use Rattle.std.specs.Prelude.{◌≡◌, ◌⊎◌, ◌≤◌, ℕ, ◌+◌, List, [], ◌∷◌, Result, Ok, Err}
use Rattle.el_chain.specs.Chains.{Chain}
use Rattle.el_json.specs.declared.request.Request.{Request}
use Rattle.el_json.specs.declared.request.Item.{Item}
use Rattle.el_json.specs.declared.request.Item.TheVariants.{Good, Invalid}
use Rattle.el_json.specs.declared.request.Envelope.{Envelope}
use Rattle.el_json.specs.declared.request.Envelope.TheVariants.{One, Batch}
use Rattle.el_json.specs.declared.request.LineFault.{LineFault}
use Rattle.el_calls.specs.Methods.{IsCalled}
use Rattle.el_calls.specs.declared.call.Call.{Call}
use Rattle.el_methods.specs.RowBounds.{rows_read_by}

-- So many rows may be read for the request: none, or those of the call that it asks for. `buckets` is the
-- number of buckets of the index.
abbrev pub RequestReads : Chain → ℕ → Request → ℕ → Type 0
RequestReads chain buckets r n =
    (n ≡ 0) ⊎ ((c : Call) × IsCalled r.method r.params (Ok c) × (n ≡ rows_read_by chain buckets c))

-- so many rows for an element of a batch
abbrev pub ItemReads : Chain → ℕ → Item → ℕ → Type 0
ItemReads chain buckets (Good r) n = RequestReads chain buckets r n
ItemReads chain buckets (Invalid id) n = n ≡ 0

-- so many rows for the elements together
abbrev pub ItemsRead : Chain → ℕ → List Item → ℕ → Type 0
ItemsRead chain buckets [] n = n ≡ 0
ItemsRead chain buckets (i ∷ is) n =
    (one more : ℕ) × ItemReads chain buckets i one × ItemsRead chain buckets is more × (n ≡ one + more)

-- so many rows for what a line says
abbrev pub LineReads : Chain → ℕ → Result Envelope LineFault → ℕ → Type 0
LineReads chain buckets (Ok (One r)) n = RequestReads chain buckets r n
LineReads chain buckets (Ok (Batch items)) n = ItemsRead chain buckets items n
LineReads chain buckets (Err e) n = n ≡ 0

-- between these two counts no more rows were read than one of the numbers says that may be
abbrev pub ReadsWithin : (ℕ → Type 0) → ℕ → ℕ → Type 0
ReadsWithin may was now = (n : ℕ) × may n × (now ≤ was + n)

-- How many rows are read for a client's line.
use Rattle.std.proofs.Common.{◌≡◌, ◌⊎◌, inl, inr, ℕ, ◌+◌, ◌≤◌, List, [], ◌∷◌, Result, Ok, Err, refl, sym, subst, arith}
use Rattle.el_chain.specs.Chains.{Chain}
use Rattle.el_json.specs.Lines.{line_says}
use Rattle.el_json.specs.declared.request.Request.{Request}
use Rattle.el_json.specs.declared.request.Item.{Item}
use Rattle.el_json.specs.declared.request.Item.TheVariants.{Good, Invalid}
use Rattle.el_json.specs.declared.request.Envelope.{Envelope}
use Rattle.el_json.specs.declared.request.Envelope.TheVariants.{One, Batch}
use Rattle.el_json.specs.declared.request.LineFault.{LineFault}
use Rattle.el_replies.specs.RowBounds.{RequestReads, ItemReads, ItemsRead, LineReads, ReadsWithin}

-- nothing was read
pub none_within : (may : ℕ → Type 0) (was : ℕ) → may 0 → ReadsWithin may was was
none_within may was is = (0, is, omega arith)

module _ (chain : Chain) (buckets : ℕ) where
  -- nothing need be read
  pub no_item : (i : Item) → ItemReads chain buckets i 0
  no_item (Good r) = inl refl
  no_item (Invalid id) = refl

  pub no_items : (is : List Item) → ItemsRead chain buckets is 0
  no_items [] = refl
  no_items (i ∷ is) = (0, 0, no_item i, no_items is, refl)

  -- What was read for the elements so far, with what is read for those that are left, is read for all.
  pub record ReadSoFar (left all : List Item) (was now : ℕ) : Type 0 where
    pub so_far : ℕ
    pub completes : (more sum : ℕ) → ItemsRead chain buckets left more → sum ≡ so_far + more → ItemsRead chain buckets all sum
    pub within : now ≤ was + so_far

  pub begins : (all : List Item) (was : ℕ) → ReadSoFar all all was was
  begins all was = record {
    so_far = 0;
    completes = λ more sum left is. let same : sum ≡ more = omega (arith, is) in rw same left;
    within = omega arith;
  }

  pub goes_on : (i : Item) (left rest all : List Item) (was mid now : ℕ) → left ≡ i ∷ rest → ReadSoFar left all was mid
      → ReadsWithin (ItemReads chain buckets i) mid now → ReadSoFar rest all was now
  goes_on i left rest all was mid now is before (one, reads, le) = record {
    so_far = before.so_far + one;
    completes = λ more sum others e. before.completes (one + more) sum (rw is (one, more, reads, others, refl)) (omega (arith, e));
    within = (let b = before.within in omega (arith, b, le));
  }

  pub ends : (left all : List Item) (was now : ℕ) → ReadSoFar left all was now → ReadsWithin (ItemsRead chain buckets all) was now
  ends left all was now r = (r.so_far, r.completes 0 r.so_far (no_items left) (omega arith), r.within)

  -- an element of a batch that is a request
  pub of_request : (i : Item) (r : Request) (was now : ℕ) → i ≡ Good r → ReadsWithin (RequestReads chain buckets r) was now
      → ReadsWithin (ItemReads chain buckets i) was now
  of_request i r was now is reads = rw is reads

  -- what a line says
  pub of_line : (line : List ℕ) (said : Result Envelope LineFault) (was now : ℕ) → line_says line ≡ said
      → ReadsWithin (LineReads chain buckets said) was now → ReadsWithin (LineReads chain buckets (line_says line)) was now
  of_line line said was now is reads = rw is reads

  pub no_line : (said : Result Envelope LineFault) (was : ℕ) → ReadsWithin (LineReads chain buckets said) was was
  no_line (Ok (One r)) was = none_within _ was (inl refl)
  no_line (Ok (Batch items)) was = none_within _ was (no_items items)
  no_line (Err e) was = none_within _ was refl

-- Calls that only read the block files, one after the other.
use Rattle.std.proofs.Common.{◌≡◌, ◌≢◌, ℕ, List, refl, ap, ◌∙◌, Result, Ok, Err}
use Rattle.el_outside.specs.Counts.{OnlyReads}
use Rattle.el_outside.specs.Files.{AllGrow}
use Rattle.el_outside.proofs.Traces.{all_grow_none, all_grow_more}

-- nothing was called
pub reads_none : {T E : Type 0} (tells : Type 0) (files : ℕ → List ℕ) (low : ℕ) (failure : E) (x : T) → OnlyReads tells files files low low failure (Ok x)
reads_none tells files low failure x = record {
  keeps = λ t. all_grow_none files;
  counted = λ e. absurd cc;
  uncounted = refl;
  others_uncounted = tt;
}

-- calls that succeeded so far
pub record HasRead (tells : Type 0) (files files_now : ℕ → List ℕ) (low high : ℕ) : Type 0 where
  pub keeps : tells → AllGrow files files_now
  pub same : high ≡ low

pub has_none : (tells : Type 0) (files : ℕ → List ℕ) (low : ℕ) → HasRead tells files files low low
has_none tells files low = record { keeps = λ t. all_grow_none files; same = refl }

-- one more did
pub has_more : {T E : Type 0} {tells : Type 0} {f g h : ℕ → List ℕ} {a b c : ℕ} {failure : E} {x : T}
    → HasRead tells f g a b → OnlyReads tells g h b c failure (Ok x) → HasRead tells f h a c
has_more {T} {E} {tells} {f} {g} {h} r s = record { keeps = λ t. all_grow_more f g h (r.keeps t) (s.keeps t); same = s.uncounted ∙ r.same }

-- and the last call is as it may be
pub reads_more : {T E : Type 0} {tells : Type 0} {f g h : ℕ → List ℕ} {a b c : ℕ} {failure : E} {result : Result T E}
    → HasRead tells f g a b → OnlyReads tells g h b c failure result → OnlyReads tells f h a c failure result
reads_more {T} {E} {tells} {f} {g} {h} {a} {b} {c} {failure} {result} r s = record {
  keeps = λ t. all_grow_more f g h (r.keeps t) (s.keeps t);
  counted = λ e. rw (← r.same) (s.counted e);
  uncounted = rw (← r.same) s.uncounted;
  others_uncounted = rw (← r.same) s.others_uncounted;
}

pub has_one : {T E : Type 0} {tells : Type 0} {f g : ℕ → List ℕ} {a b : ℕ} {failure : E} {x : T}
    → OnlyReads tells f g a b failure (Ok x) → HasRead tells f g a b
has_one s = record { keeps = s.keeps; same = s.uncounted }

-- they all did, and the answer is one
pub reads_ok : {T E : Type 0} {tells : Type 0} {f g : ℕ → List ℕ} {a b : ℕ} {failure : E} {x : T}
    → HasRead tells f g a b → OnlyReads tells f g a b failure (Ok x)
reads_ok r = record { keeps = r.keeps; counted = λ e. absurd (cc); uncounted = r.same; others_uncounted = tt }

-- or a fault that isn't the archive's
pub reads_other : {T E : Type 0} {tells : Type 0} {f g : ℕ → List ℕ} {a b : ℕ} {failure fault : E}
    → HasRead tells f g a b → fault ≢ failure → OnlyReads {T = T} tells f g a b failure (Err fault)
reads_other r differs = record { keeps = r.keeps; counted = λ e. absurd (differs (cc)); uncounted = tt; others_uncounted = λ other. r.same }

-- the archive's fault, told as another type's
pub reads_as : {S T D E : Type 0} {tells : Type 0} {f g : ℕ → List ℕ} {a b : ℕ} {failure : D} {as_failure fault : E}
    → OnlyReads {T = S} tells f g a b failure (Err failure) → fault ≡ as_failure → OnlyReads {T = T} tells f g a b as_failure (Err fault)
reads_as s is = record {
  keeps = s.keeps;
  counted = λ e. s.counted refl;
  uncounted = tt;
  others_uncounted = λ differs. absurd (differs is);
}

-- the last call's fault is handed on
pub reads_failed : {S T E : Type 0} {tells : Type 0} {f g h : ℕ → List ℕ} {a b c : ℕ} {failure fault : E} {result : Result T E}
    → HasRead tells f g a b → OnlyReads {T = S} tells g h b c failure (Err fault) → result ≡ Err fault → OnlyReads tells f h a c failure result
reads_failed {S} {T} {E} {tells} {f} {g} {h} {a} {b} {c} {failure} {fault} {result} r s is =
    rw is (reads_more {T = T} {result = Err fault} r (record {
      keeps = s.keeps;
      counted = λ e. s.counted (let same : fault ≡ failure = cc in ap Err same);
      uncounted = tt;
      others_uncounted = s.others_uncounted;
    }))

-- more calls did
pub has_then : {tells : Type 0} {f g h : ℕ → List ℕ} {a b c : ℕ} → HasRead tells f g a b → HasRead tells g h b c → HasRead tells f h a c
has_then {tells} {f} {g} {h} r s = record { keeps = λ t. all_grow_more f g h (r.keeps t) (s.keeps t); same = s.same ∙ r.same }

-- What lists are after one place changes.
use Rattle.std.proofs.Common.{◌≡◌, ℕ, zero, suc, ◌+◌, ◌<◌, Bool, true, false, List, [], ◌∷◌, ◌++◌, length, drop, take, get_or, Option, Some, None, refl, ap, ◌∙◌, subst, arith}
use Rattle.std.specs.Prelude.{slice_get, slice_set, remove, OnSome}
use Rattle.std.proofs.lemmas.Option.{slice_get_read}
use Rattle.el_core.specs.State.{ClientState, work_of_client}
use Rattle.el_core.specs.declared.out.Outs.{Outs}
use Rattle.el_core.specs.within.Clients.{client_replaced, left_if, all_wait, TurnsAt, TellsAt}

pub set_is_replaced : {A : Type 0} (xs : List A) (i : ℕ) (y : A) → i < length xs → slice_set xs i y ≡ client_replaced i (Some y) xs
set_is_replaced [] i y lt = absurd (omega arith)
set_is_replaced (x ∷ xs) zero y lt = refl
set_is_replaced {A} (x ∷ xs) (suc i) y lt = ap (λ (l : List A). x ∷ l) (set_is_replaced xs i y (omega arith))

set_then_gone : {A : Type 0} (xs : List A) (i : ℕ) (y : A) → client_replaced i None (slice_set xs i y) ≡ client_replaced i None xs
set_then_gone [] i y = refl
set_then_gone (x ∷ xs) zero y = refl
set_then_gone {A} (x ∷ xs) (suc i) y = ap (λ (l : List A). x ∷ l) (set_then_gone xs i y)

pub remove_is_replaced : {A : Type 0} (xs : List A) (i : ℕ) → remove xs i ≡ client_replaced i None xs
remove_is_replaced [] zero = refl
remove_is_replaced [] (suc i) = refl
remove_is_replaced (x ∷ xs) zero = refl
remove_is_replaced {A} (x ∷ xs) (suc i) = ap (λ (l : List A). x ∷ l) (remove_is_replaced xs i)

module _ (says : ClientState → Option ClientState → Type 0) (i : ℕ) (items : List ClientState) (client new : ClientState) where
  pub turn_stays : (outs : Option Outs) (stays : Bool) → i < length items → client ≡ get_or items i client → stays ≡ true → (new.peer ≡ client.peer) × (new.waits ≡ client.waits)
      → OnSome outs (work_of_client (left_if stays new) < work_of_client (Some client)) → says client (left_if stays new) → TurnsAt says i items outs true (slice_set items i new)
  turn_stays outs stays lt is stays_so same less said = record {
    client = client;
    left = Some new;
    at = slice_get_read items (length items) i client refl lt is;
    next_is = set_is_replaced items i new lt;
    stays_is = refl;
    same = same;
    less = rw stays_so at less;
    said = rw stays_so at said;
  }

  pub turn_goes : (outs : Option Outs) (stays : Bool) (next : List ClientState) → i < length items → client ≡ get_or items i client → stays ≡ false
      → OnSome outs (work_of_client (left_if stays new) < work_of_client (Some client)) → says client (left_if stays new) → next ≡ client_replaced i None (slice_set items i new)
      → TurnsAt says i items outs false next
  turn_goes outs stays next lt is goes_so less said gone = record {
    client = client;
    left = None;
    at = slice_get_read items (length items) i client refl lt is;
    next_is = gone ∙ set_then_gone items i new;
    stays_is = refl;
    same = tt;
    less = rw goes_so at less;
    said = rw goes_so at said;
  }

  pub tell_stays : (stays : Bool) → i < length items → client ≡ get_or items i client → stays ≡ true → (stays ≡ true → new.waits ≡ false) → (new.buffer ≡ client.buffer) × (new.peer ≡ client.peer) → says client (left_if stays new)
      → TellsAt says i items (slice_set items i new)
  tell_stays stays lt is stays_so told same said = record {
    client = client;
    left = Some new;
    at = slice_get_read items (length items) i client refl lt is;
    next_is = set_is_replaced items i new lt;
    told = told stays_so;
    same = same;
    said = rw stays_so at said;
  }

  pub tell_goes : (stays : Bool) (next : List ClientState) → i < length items → client ≡ get_or items i client → stays ≡ false → says client (left_if stays new) → next ≡ client_replaced i None (slice_set items i new)
      → TellsAt says i items next
  tell_goes stays next lt is goes_so said gone = record {
    client = client;
    left = None;
    at = slice_get_read items (length items) i client refl lt is;
    next_is = gone ∙ set_then_gone items i new;
    told = tt;
    same = tt;
    said = rw goes_so at said;
  }

-- ---- all are to be told

pub wait_step : (init items : List ClientState) (i : ℕ) (d new : ClientState) → items ≡ all_wait (take i init) ++ drop i init → i < length items → new ≡ record (get_or items i d) { waits = true }
    → slice_set items i new ≡ all_wait (take (i + 1) init) ++ drop (i + 1) init
wait_step init items i d new so lt now_is =
    let more : suc i ≡ i + 1 = omega arith in
    subst (λ (n : ℕ). slice_set items i new ≡ all_wait (take n init) ++ drop n init) more
    (rw so (by init i (rw so at lt) (subst (λ (l : List ClientState). new ≡ record (get_or l i d) { waits = true }) so now_is)))
  where
    by : (l : List ClientState) (j : ℕ) → j < length (all_wait (take j l) ++ drop j l) → new ≡ record (get_or (all_wait (take j l) ++ drop j l) j d) { waits = true }
        → slice_set (all_wait (take j l) ++ drop j l) j new ≡ all_wait (take (suc j) l) ++ drop (suc j) l
    by [] zero lt is = absurd (omega arith)
    by [] (suc j) lt is = absurd (omega arith)
    by (y ∷ ys) zero lt is = ap (λ (c : ClientState). c ∷ ys) is
    by (y ∷ ys) (suc j) lt is = ap (λ (l : List ClientState). (record y { waits = true }) ∷ l) (by ys j (omega arith) is)

-- Entries are taken back one after the other.
use Rattle.std.proofs.Common.{◌≡◌, ℕ, suc, ◌+◌, ◌-◌, ◌<◌, ◌≤◌, true, false, List, refl, ap, sym, ◌∙◌, arith, add-one}
use Rattle.el_tables.specs.ChainLists.{ListedBlock}
use Rattle.el_tables.specs.Disconnecting.{last, is_entry_of, take_back_entry, take_back_entries, times}
use Rattle.el_tables.specs.Fits.{IsNumbered}
use Rattle.el_tables.specs.Lists.{Lists}
use Rattle.el_tables.specs.Tables.{HeadCounts}
use Rattle.el_row_formats.specs.Tables as held
use Rattle.el_schema.specs.Rows.{Hold}

-- Of so many entries at most, some were taken back: the rows hold lists of which what is left to take back
-- completes the whole.
pub record IsBack (counts : HeadCounts) (bs : List ListedBlock) (most done tx : ℕ) (l : Lists) (rows : held.Tables) : Type 0 where
  pub now : Lists
  pub hold : Hold counts bs now rows
  pub numbered : IsNumbered now.scripts now.entries
  pub whole : take_back_entries most tx l ≡ take_back_entries (most - done) tx now

pub times_on : {X : Type 0} (n : ℕ) (f : X → X) (x : X) → f (times n f x) ≡ times (n + 1) f x
times_on n f x = let e = add-one n in rw e refl

-- one entry more is taken back
pub entry_on : (most done tx : ℕ) (l n : Lists) → done < most → take_back_entries most tx l ≡ take_back_entries (most - done) tx n → is_entry_of tx (last n.entries) ≡ true
    → take_back_entries most tx l ≡ take_back_entries (most - (done + 1)) tx (take_back_entry n)
entry_on most done tx l n lt so is =
    let e : most - done ≡ suc (most - (done + 1)) = omega arith in
    so ∙ ap (λ (k : ℕ). take_back_entries k tx n) e ∙ go (most - (done + 1))
  where
    go : (k : ℕ) → take_back_entries (suc k) tx n ≡ take_back_entries k tx (take_back_entry n)
    go k = rw is refl

-- no entry more is
pub entry_stop : (most done tx : ℕ) (l n : Lists) → done < most → take_back_entries most tx l ≡ take_back_entries (most - done) tx n → is_entry_of tx (last n.entries) ≡ false
    → n ≡ take_back_entries most tx l
entry_stop most done tx l n lt so is =
    let e : most - done ≡ suc (most - (done + 1)) = omega arith in
    sym (so ∙ ap (λ (k : ℕ). take_back_entries k tx n) e ∙ go (most - (done + 1)))
  where
    go : (k : ℕ) → take_back_entries (suc k) tx n ≡ n
    go k = rw is refl

pub entry_end : (most done tx : ℕ) (l n : Lists) → most ≤ done → take_back_entries most tx l ≡ take_back_entries (most - done) tx n → n ≡ take_back_entries most tx l
entry_end most done tx l n le so = let e : most - done ≡ 0 = omega arith in sym (so ∙ ap (λ (k : ℕ). take_back_entries k tx n) e)

-- How calls on open files join.
use Rattle.std.proofs.Common.{inl, inr, ⊎_elim, ℕ, ◌<◌, ◌≤◌, List, refl, ◌∙◌, ap, arith}
use Rattle.el_outside.specs.Disk.{Image, NothingNew}
use Rattle.el_outside.specs.Moments.{LeftNow, Passes}
use Rattle.el_open_files.specs.Calls.{Lasts, Idle, ChangesFile, Settles}

module _ {D : Type 0} (seen : D → Image) (moment : D → ℕ) (left_since : D → ℕ → Image → Type 0) (is_named : D → ℕ → Type 0) where
  -- what may be left now might have been left since any moment before
  abbrev pub Earlier : D → Type 0
  Earlier a = (t u : ℕ) (c : Image) → t ≤ u → left_since a u c → left_since a t c

  pub lasts_none : (a : D) → Lasts moment left_since is_named a a
  lasts_none a = record {
    time = record { later = omega arith; nothing_else = λ t c le left. inl left; keeps = λ t c le left. left };
    names = λ f named. named;
  }

  -- after calls that left nothing new
  pub lasts_after : (a b d : D) → Earlier a → NothingNew (LeftNow moment left_since a) (LeftNow moment left_since b)
      → Lasts moment left_since is_named a b → Lasts moment left_since is_named b d → Lasts moment left_since is_named a d
  lasts_after a b d earlier crash x y = record {
    time = record {
      later = omega (arith, x.time.later, y.time.later);
      nothing_else = λ t c le left. ⊎_elim
          (λ mid. ⊎_elim (λ past. inl past) (λ now. inl (earlier t (moment a) c le (crash c now))) (x.time.nothing_else t c le mid))
          (λ now. inr now) (y.time.nothing_else t c (omega (arith, le, x.time.later)) left);
      keeps = λ t c le past. y.time.keeps t c (omega (arith, le, x.time.later)) (x.time.keeps t c le past);
    };
    names = λ f named. y.names f (x.names f named);
  }

  -- before calls that leave what was left
  pub lasts_still : (a b d : D) → NothingNew (LeftNow moment left_since d) (LeftNow moment left_since b)
      → Lasts moment left_since is_named a b → Lasts moment left_since is_named b d → Lasts moment left_since is_named a d
  lasts_still a b d still x y = record {
    time = record {
      later = omega (arith, x.time.later, y.time.later);
      nothing_else = λ t c le left. ⊎_elim
          (λ mid. ⊎_elim (λ past. inl past) (λ now. inr (still c now)) (x.time.nothing_else t c le mid))
          (λ now. inr now) (y.time.nothing_else t c (omega (arith, le, x.time.later)) left);
      keeps = λ t c le past. y.time.keeps t c (omega (arith, le, x.time.later)) (x.time.keeps t c le past);
    };
    names = λ f named. y.names f (x.names f named);
  }

  pub idle_none : (a : D) → Idle seen moment left_since is_named a a
  idle_none a = record { same = refl; crash = λ c left. left; lasts = lasts_none a }

  pub idle_more : (a b d : D) → Earlier a → Idle seen moment left_since is_named a b → Idle seen moment left_since is_named b d
      → Idle seen moment left_since is_named a d
  idle_more a b d earlier x y = record {
    same = y.same ∙ x.same;
    crash = λ c left. x.crash c (y.crash c left);
    lasts = lasts_after a b d earlier x.crash x.lasts y.lasts;
  }

  -- a call that did nothing to the file
  pub changes_none : (file : ℕ) (step : List ℕ → List ℕ → Type 0) (a b : D) → ((xs : List ℕ) → step xs xs)
      → Idle seen moment left_since is_named a b → ChangesFile seen moment left_since is_named file step a b
  changes_none file step a b nothing x = record {
    others = λ f ne. ap (λ (all : Image). all f) x.same;
    crash = λ c left. (c, x.crash c left, record { here = nothing (c file); others = λ f ne. refl });
    lasts = x.lasts;
  }

  -- the file changed after calls that did nothing
  pub changes_after : (file : ℕ) (step : List ℕ → List ℕ → Type 0) (a b d : D) → Earlier a
      → Idle seen moment left_since is_named a b → ChangesFile seen moment left_since is_named file step b d
      → ChangesFile seen moment left_since is_named file step a d
  changes_after file step a b d earlier x y = record {
    others = λ f ne. y.others f ne ∙ ap (λ (all : Image). all f) x.same;
    crash = λ c left. let from = y.crash c left in (from.0, x.crash from.0 from.1, from.2);
    lasts = lasts_after a b d earlier x.crash x.lasts y.lasts;
  }

  -- two changes of the file that make one
  pub changes_more : (file : ℕ) (first second step : List ℕ → List ℕ → Type 0) (a b d : D)
      → ((xs ys zs : List ℕ) → first xs ys → second ys zs → step xs zs)
      → NothingNew (LeftNow moment left_since d) (LeftNow moment left_since b)
      → ChangesFile seen moment left_since is_named file first a b → ChangesFile seen moment left_since is_named file second b d
      → ChangesFile seen moment left_since is_named file step a d
  changes_more file first second step a b d makes still x y = record {
    others = λ f ne. y.others f ne ∙ x.others f ne;
    crash = λ c left.
        let late = y.crash c left in
        let early = x.crash late.0 late.1 in (
          early.0,
          early.1,
          record {
            here = makes (early.0 file) (late.0 file) (c file) early.2.here late.2.here;
            others = λ f ne. late.2.others f ne ∙ early.2.others f ne;
          },
        );
    lasts = lasts_still a b d still x.lasts y.lasts;
  }

  pub settles_none : (file : ℕ) (a b : D) → Idle seen moment left_since is_named a b → Settles seen moment left_since is_named file a b
  settles_none file a b x = record { others = λ f ne. ap (λ (all : Image). all f) x.same; crash = x.crash; lasts = x.lasts }

  pub settles_after : (file : ℕ) (a b d : D) → Earlier a → Idle seen moment left_since is_named a b
      → Settles seen moment left_since is_named file b d → Settles seen moment left_since is_named file a d
  settles_after file a b d earlier x y = record {
    others = λ f ne. y.others f ne ∙ ap (λ (all : Image). all f) x.same;
    crash = λ c left. x.crash c (y.crash c left);
    lasts = lasts_after a b d earlier x.crash x.lasts y.lasts;
  }

  -- a request's calls, the first of which moved the clock on
  pub passes : (a b d : D) → Earlier a → moment a < moment b → Idle seen moment left_since is_named a b
      → Lasts moment left_since is_named b d → Passes moment left_since a d
  passes a b d earlier ticks x y = record {
    ticks = omega (arith, ticks, y.time.later);
    time = (lasts_after a b d earlier x.crash x.lasts y).time;
  }

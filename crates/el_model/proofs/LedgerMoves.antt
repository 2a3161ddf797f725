-- What calls leave of a ledger, over all that its type tells.
use Rattle.std.proofs.Common.{inl, refl, ◌∙◌}
use Rattle.el_outside.specs.Moments.{LeavesOnly}
use Rattle.el_outside.proofs.Moments.{below_none, below_joined, joined, still_only, weaker}
use Rattle.el_chain.specs.Chains.{Chain}
use Rattle.el_model.specs.declared.ledger.Ledger as ledger
use Rattle.el_model.specs.Keeping.{Either}
use Rattle.el_model.specs.LedgerCalls.{Asked, CrashLeaves, Moved}

-- the law `leaves_own` of ledgers
abbrev pub LeavesOwn : {G : Type 0} → ledger.Ghosts G → Type 0
LeavesOwn {G} l = (d : G) (chain : Chain) (left : l.Left) → l.tells_crash → l.is_live d → l.stands d chain
    → l.left_since d (l.moment d) left → l.means left chain

module _ {G : Type 0} (l : ledger.Ghosts G) where
  -- no call leaves it as it was
  pub asked_none : (a : G) → Asked l a a
  asked_none a = record {
    stays = record {
      still_live = λ x. x;
      was_live = λ x. x;
      same_height = refl;
      same_tip = refl;
      same_buckets = refl;
      still_stands = λ chain x. x;
      stood = λ chain x. x;
    };
    below = below_none l.moment l.left_since l.tells_crash l.beside a;
  }

  -- and so do two calls that do
  pub asked_on : (a b c : G) → Asked l a b → Asked l b c → Asked l a c
  asked_on a b c s t = record {
    stays = record {
      still_live = λ x. t.stays.still_live (s.stays.still_live x);
      was_live = λ x. s.stays.was_live (t.stays.was_live x);
      same_height = t.stays.same_height ∙ s.stays.same_height;
      same_tip = t.stays.same_tip ∙ s.stays.same_tip;
      same_buckets = t.stays.same_buckets ∙ s.stays.same_buckets;
      still_stands = λ chain x. t.stays.still_stands chain (s.stays.still_stands chain x);
      stood = λ chain x. s.stays.stood chain (t.stays.stood chain x);
    };
    below = below_joined l.moment l.left_since l.tells_crash l.beside a b c s.below t.below;
  }

  -- what a crash leaves of one that was asked alone stands for the chain that it stands for
  pub asked_leaves : (a b : G) → l.is_live a → LeavesOwn l → Asked l a b
      → l.tells_crash → (chain : Chain) → l.stands a chain → LeavesOnly l.moment l.left_since a b (λ c. l.means c chain)
  asked_leaves a b live own q told chain stood =
      still_only l.moment l.left_since a b (λ c. l.means c chain) (q.below.crash told)
      (λ c left. own a chain c told live stood left)

  -- a ledger that was asked alone stands for the chain that it stood for
  pub asked_moved : (a b : G) (chain : Chain) → LeavesOwn l → l.is_live a → Asked l a b → l.stands a chain → Moved l a b chain chain
  asked_moved a b chain own live s stood = record {
    stood = s.stays.still_stands chain stood;
    crash = λ told. weaker l.moment l.left_since a b (λ c. l.means c chain) (Either l.means chain chain) (λ c m. inl m)
        (asked_leaves a b live own s told chain stood);
  }

  -- one that is then moved
  pub asked_then : (a b c : G) (chain next : Chain) → LeavesOwn l → l.is_live a → Asked l a b → l.stands a chain → CrashLeaves l b c chain next → CrashLeaves l a c chain next
  asked_then a b c chain next own live s stood then told =
      joined l.moment l.left_since a b c (Either l.means chain next)
      (weaker l.moment l.left_since a b (λ d. l.means d chain) (Either l.means chain next) (λ d m. inl m)
      (asked_leaves a b live own s told chain stood))
      (then told)

  pub moved_then : (a b c : G) (chain next : Chain) → LeavesOwn l → l.is_live a → Asked l a b → l.stands a chain → Moved l b c chain next → Moved l a c chain next
  moved_then a b c chain next own live s stood then =
      record { stood = then.stood; crash = asked_then a b c chain next own live s stood then.crash }

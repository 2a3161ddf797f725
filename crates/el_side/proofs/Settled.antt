-- Sides that are sure or unsure; and what clients are answered from, as the ledger is asked and the block files grow.
use Rattle.std.proofs.Common.{◌≡◌, Bool, true, false, true≢false, refl, sym, ◌∙◌}
use Rattle.el_outside.specs.Files.{AllGrow}
use Rattle.el_outside.proofs.Traces.{all_grow_more}
use Rattle.el_model.specs.LedgerCalls.{Asked}
use Rattle.el_chain.specs.Chains.{Chain}
use Rattle.el_side.specs.declared.caches.Caches.{Caches}
use Rattle.el_side.specs.declared.holdings.Holdings.{Holdings}
use Rattle.el_side.specs.Caching.{CachesStand}
use Rattle.el_side.specs.Beneath.{Beneath, Ghosts}
use Rattle.el_side.specs.NodeSteps.{IsSettled}
use Rattle.el_side.specs.Side.{Side, IsSure}

-- a side is sure, or it is unsure
pub by_sure : (side : Side) (P : Type 0) → (IsSure side → P) → (side.sure ≡ false → P) → P
by_sure side P of_sure of_unsure = by side.sure refl
  where
    by : (b : Bool) → side.sure ≡ b → P
    by true is = of_sure is
    by false is = of_unsure is

pub not_both : (side : Side) → IsSure side → side.sure ≡ false → ⊥
not_both side sure un = true≢false (sym sure ∙ un)

pub settled_on : {G A : Type 0} (of : Ghosts G A) (was now : Beneath G A) (holdings : Holdings) (caches caches_now : Caches) (side : Side)
    → Asked of.ledger was.ledger now.ledger
    → (of.files.tells → AllGrow (of.files.bytes was.files) (of.files.bytes now.files))
    → ((chain : Chain) → of.ledger.stands was.ledger chain → CachesStand caches chain chain → CachesStand caches_now chain chain)
    → IsSettled of was holdings caches side → IsSettled of now holdings caches_now side
settled_on of was now holdings caches caches_now side asked grows stays s = record {
  stood = λ sure. asked.stays.still_stands side.chain (s.stood sure);
  set = s.set;
  fees = s.fees;
  computed = λ sure. stays side.chain (s.stood sure) (s.computed sure);
  found = s.found;
  told = λ t. all_grow_more side.files (of.files.bytes was.files) (of.files.bytes now.files) (s.told t) (grows t);
}

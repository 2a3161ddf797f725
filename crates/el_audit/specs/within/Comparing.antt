-- What claims are compared with.
use Rattle.std.specs.Prelude.{◌≡◌, ◌↔◌, ◌≤◌, Bool, true, List, Some}
use Rattle.std.specs.List.{AllByRecursion}
use Rattle.indexmap.specs.IndexMap.{IndexMap}
use Rattle.el_base.specs.declared.hash.Hash32.{Hash32}
use Rattle.el_tx.specs.Encoding.{max_money}
use Rattle.el_chain.specs.declared.coin.Coin.{Coin}
use Rattle.el_chain.specs.declared.entry.Entry.{Entry}
use Rattle.el_chain.specs.Chains.{Chain}
use Rattle.el_chain.specs.Coins.{supply}
use Rattle.el_chain.specs.History.{history}
use Rattle.el_model.specs.Queries.{unspent, balance}
use Rattle.el_audit.specs.declared.claim.Claim.{Claim}
use Rattle.el_audit.specs.within.Lists.{list_of}

-- the test is whether two values are one
abbrev pub Decides : {T : Type 0} → (T → T → Bool) → Type 0
Decides {T} eq = (a b : T) → (eq a b ≡ true) ↔ (a ≡ b)

-- the claim that a history and coins make
abbrev pub wanted_claim : Hash32 → List Entry → List Coin → Claim
wanted_claim script entries coins = record {
  script = script;
  history = entries;
  unspent = coins;
  balance = supply coins;
}

-- The lists have the history and the coins that the chain gives of the claim's script hash, and these coins
-- hold no more than all the money that there can be.
pub record IsGivenByChain {S R : Type 0} (chain : Chain) (histories : IndexMap Hash32 (List Entry) S)
    (coins : IndexMap Hash32 (List Coin) R) (claim : Claim) : Type 0 where
  pub history : list_of histories claim.script ≡ Some (history chain claim.script.0)
  pub unspent : list_of coins claim.script ≡ Some (unspent chain claim.script.0)
  pub money : balance chain claim.script.0 ≤ max_money

-- the lists have what the chain gives of each of the claims
abbrev pub AreGiven : {S R : Type 0} → Chain → List Claim → IndexMap Hash32 (List Entry) S
    → IndexMap Hash32 (List Coin) R → Type 0
AreGiven chain claims histories coins = AllByRecursion (IsGivenByChain chain histories coins) claims

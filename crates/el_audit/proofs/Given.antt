-- What lists give of a claim.
use Rattle.std.proofs.Common.{◌≡◌, ℕ, ◌<◌, ◌≤◌, List, [], length, get_or, refl, ap, sym, subst, ◌∙◌}
use Rattle.std.specs.Option.{unwrap_or}
use Rattle.indexmap.specs.IndexMap.{IndexMap}
use Rattle.el_base.specs.declared.hash.Hash32.{Hash32}
use Rattle.el_base.proofs.Lists.{all_at}
use Rattle.el_tx.specs.Encoding.{max_money}
use Rattle.el_chain.specs.declared.coin.Coin.{Coin}
use Rattle.el_chain.specs.declared.entry.Entry.{Entry}
use Rattle.el_chain.specs.Chains.{Chain}
use Rattle.el_chain.specs.Coins.{supply}
use Rattle.el_audit.specs.declared.claim.Claim.{Claim}
use Rattle.el_audit.specs.Claims.{claim_of}
use Rattle.el_audit.specs.within.Lists.{list_of}
use Rattle.el_audit.specs.within.Comparing.{wanted_claim, IsGivenByChain, AreGiven}

given_here : {S R : Type 0} (chain : Chain) (claims : List Claim) (i : ℕ) (c : Claim) (histories : IndexMap Hash32 (List Entry) S) (coins : IndexMap Hash32 (List Coin) R) → i < length claims
    → c ≡ get_or claims i c → AreGiven chain claims histories coins → IsGivenByChain chain histories coins c
given_here chain claims i c histories coins lt is given = subst (IsGivenByChain chain histories coins) (sym is) (all_at (IsGivenByChain chain histories coins) claims i c given lt)

-- the coins that are given hold no more than all the money
pub money_given : {S R : Type 0} (chain : Chain) (claims : List Claim) (i : ℕ) (c : Claim) (histories : IndexMap Hash32 (List Entry) S) (coins : IndexMap Hash32 (List Coin) R) (us : List Coin) → i < length claims
    → c ≡ get_or claims i c → AreGiven chain claims histories coins → us ≡ unwrap_or (list_of coins c.script) [] → supply us ≤ max_money
money_given chain claims i c histories coins us lt is given from =
    let g = given_here chain claims i c histories coins lt is given in
    let same = from ∙ ap (λ l. unwrap_or l []) g.unspent in
    rw same g.money

-- the history and the coins that are given make the claim that is wanted
pub wanted_given : {S R : Type 0} (chain : Chain) (claims : List Claim) (i : ℕ) (c : Claim) (histories : IndexMap Hash32 (List Entry) S) (coins : IndexMap Hash32 (List Coin) R) (hs : List Entry)
    (us : List Coin) → i < length claims → c ≡ get_or claims i c → AreGiven chain claims histories coins → hs ≡ unwrap_or (list_of histories c.script) []
    → us ≡ unwrap_or (list_of coins c.script) [] → wanted_claim c.script hs us ≡ claim_of chain c.script
wanted_given chain claims i c histories coins hs us lt is given from_hs from_us =
    let g = given_here chain claims i c histories coins lt is given in
    let entries = from_hs ∙ ap (λ l. unwrap_or l []) g.history in
    let values = from_us ∙ ap (λ l. unwrap_or l []) g.unspent in
    rw (entries, values) refl

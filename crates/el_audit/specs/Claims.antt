-- What a chain gives of a script hash, and which script hashes it has.
use Rattle.std.specs.Prelude.{◌≡◌, Bool}
use Rattle.std.specs.List.{list_any}
use Rattle.el_base.specs.declared.hash.Hash32.{Hash32}
use Rattle.el_chain.specs.declared.placed.Placed.{Placed}
use Rattle.el_chain.specs.Chains.{Chain}
use Rattle.el_chain.specs.History.{history, funds}
use Rattle.el_model.specs.Queries.{unspent, balance}
use Rattle.el_audit.specs.declared.claim.Claim.{Claim}

-- what the chain gives of the script hash: its history, its coins, and what these hold
abbrev pub claim_of : Chain → Hash32 → Claim
claim_of chain s = record {
  script = s;
  history = history chain s.0;
  unspent = unspent chain s.0;
  balance = balance chain s.0;
}

-- the claim is what the chain gives of its script hash
abbrev pub IsRight : Chain → Claim → Type 0
IsRight chain c = c ≡ claim_of chain c.script

-- whether an output of the chain has the script hash
abbrev pub is_paid_in : Chain → Hash32 → Bool
is_paid_in chain s = list_any (λ (b : Placed). list_any (funds s.0) b.block.txs) chain

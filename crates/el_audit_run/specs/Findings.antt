-- What an audit finds of an index.
use Rattle.std.specs.Prelude.{◌≡◌, ℕ, suc, ◌+◌, ◌<◌, ◌≤◌, List, [], ◌∷◌, ◌++◌, length, map, sum_by, Option, None, Some, ⊤}
use Rattle.std.specs.List.{list_any}
use Rattle.std.specs.List.Sorted.{IsSorted}
use Rattle.std.specs.Ordering.{nat_cmp}
use Rattle.std.specs.Cmp.Lexicographic.{slice_cmp}
use Rattle.el_base.specs.declared.hash.Hash32.{Hash32}
use Rattle.el_block.specs.Blocks.{AllDiffer}
use Rattle.el_chain.specs.declared.moves.MoveFault.{MoveFault}
use Rattle.el_chain.specs.declared.moves.Plan.{Plan}
use Rattle.el_chain.specs.declared.node.Node.{Node}
use Rattle.el_chain.specs.declared.placed.Placed.{Placed}
use Rattle.el_chain.specs.Chains.{Chain}
use Rattle.el_chain.specs.Headers.{IsPath, same_hash}
use Rattle.el_chain.specs.Moves.{IsRefused, Moves}
use Rattle.el_lines.specs.NodeAnswers.{bad_refused, move_refused}
use Rattle.el_lines.specs.declared.node_answer.Flaw.{Flaw}
use Rattle.el_lines.specs.declared.node_answer.NodeAnswer.{NodeAnswer}
use Rattle.el_lines.specs.declared.node_answer.NodeAnswer.TheVariants as say
use Rattle.el_lines.specs.declared.node_answer.NodeRefusal.TheVariants as refusal
use Rattle.el_audit.specs.Claims.{claim_of, is_paid_in}
use Rattle.el_audit.specs.Reports.{IsReport}
use Rattle.el_audit.specs.declared.claim.Claim.{Claim}
use Rattle.el_audit.specs.declared.claim.Report.TheVariants as report
use Rattle.el_audit_run.specs.declared.bytes.TheConstants.{MAX_AUDIT_BYTES}
use Rattle.el_audit_run.specs.declared.finding.Finding.{Finding}
use Rattle.el_audit_run.specs.declared.finding.Finding.TheVariants as finding

-- how many bytes the blocks of a path have
abbrev pub path_bytes : List Node → ℕ
path_bytes path = sum_by (λ (n : Node). n.place.len) path

-- how many transactions the blocks of a chain have
abbrev pub tx_count : Chain → ℕ
tx_count chain = sum_by (λ (b : Placed). length b.block.txs) chain

-- the move that takes nothing back, and puts in the blocks of these nodes
abbrev pub putting : List Node → Plan
putting nodes = record { back = 0; forward = nodes }

-- The first block of the path that can't be put after those before it, and why: what is said of a move that
-- puts in this block alone. `stood` says which bytes stood at a node's place.
pub record IsBadBlock (stood : Node → List ℕ → Type 0) (path : List Node) (e : MoveFault) : Type 0 where
  pub front : List Node
  pub node : Node
  pub after : List Node
  pub whole : path ≡ front ++ node ∷ after
  pub blocks : Chain
  pub before : Moves stood [] (putting front) blocks
  pub refused : IsRefused stood blocks (putting (node ∷ [])) e

-- what a node is told of a block that isn't as it should be: its flaw, or that it has changed
abbrev pub block_refused : Hash32 → Option Flaw → NodeAnswer
block_refused h None = say.Refused (refusal.Changed h)
block_refused h (Some flaw) = bad_refused h flaw

-- The claims are of each script hash of the chain's outputs, once, in the order of their bytes. Where the
-- index stands for some chain, they are what that chain gives.
pub record AreAnswers (stands : Chain → Type 0) (chain : Chain) (claims : List Claim) : Type 0 where
  pub each : (s : Hash32) → list_any (same_hash s) (map (λ (c : Claim). c.script) claims)
      ≡ is_paid_in chain s
  pub once : AllDiffer (map (λ (c : Claim). c.script) claims)
  pub sorted : IsSorted (λ (a b : Hash32). slice_cmp nat_cmp a.0 b.0) (map (λ (c : Claim). c.script) claims)
  pub told : (own : Chain) → stands own
      → claims ≡ map (claim_of own) (map (λ (c : Claim). c.script) claims)

-- what is found where the index's claims are compared with what the chain gives
abbrev pub IsCompared : (Chain → Type 0) → Chain → Finding → Type 0
IsCompared stands chain (finding.Same height txs scripts) =
    (claims : List Claim) × AreAnswers stands chain claims × IsReport chain claims (report.Same scripts)
    × (suc height ≡ length chain) × (txs ≡ tx_count chain)
IsCompared stands chain (finding.Differs script kind at) =
    (claims : List Claim) × AreAnswers stands chain claims
    × IsReport chain claims (report.Differs script kind at)
IsCompared stands chain other = ⊥

-- The path of found headers to the index's last block, whose hash is `tip`.
pub record IsTipPath (tip : Option Hash32) (tree path : List Node) : Type 0 where
  pub hash : Hash32
  pub is_tip : tip ≡ Some hash
  pub is_path : IsPath tree hash path

-- the blocks of such a path are audited: they aren't too large
abbrev pub IsAudited : Option Hash32 → List Node → (List Node → Type 0) → Type 0
IsAudited tip tree P = (path : List Node) × IsTipPath tip tree path × (path_bytes path ≤ MAX_AUDIT_BYTES)
    × P path

-- What an audit finds of an index whose last block has this hash, over the nodes of a scan. `stands` says for
-- which chains the index stands.
abbrev pub IsFinding : (Chain → Type 0) → Option Hash32 → List Node → (Node → List ℕ → Type 0) → Finding
    → Type 0
IsFinding stands tip tree stood finding.Empty = tip ≡ None
IsFinding stands tip tree stood (finding.NoPath hash) =
    (tip ≡ Some hash) × ((path : List Node) → IsPath tree hash path → ⊥)
IsFinding stands tip tree stood (finding.TooLarge bytes) =
    (path : List Node) × IsTipPath tip tree path × (bytes ≡ path_bytes path) × (MAX_AUDIT_BYTES < bytes)
IsFinding stands tip tree stood (finding.BadBlock block flaw) =
    IsAudited tip tree (λ path. (e : MoveFault) × IsBadBlock stood path e
    × (move_refused e ≡ Some (block_refused block flaw)))
IsFinding stands tip tree stood (finding.Differs script kind at) =
    IsAudited tip tree (λ path. (chain : Chain) × Moves stood [] (putting path) chain
    × IsCompared stands chain (finding.Differs script kind at))
IsFinding stands tip tree stood (finding.Same height txs scripts) =
    IsAudited tip tree (λ path. (chain : Chain) × Moves stood [] (putting path) chain
    × IsCompared stands chain (finding.Same height txs scripts))

-- no difference was found
abbrev pub IsNoDifference : Finding → Type 0
IsNoDifference finding.Empty = ⊤
IsNoDifference (finding.NoPath hash) = ⊥
IsNoDifference (finding.TooLarge bytes) = ⊤
IsNoDifference (finding.BadBlock block flaw) = ⊥
IsNoDifference (finding.Differs script kind at) = ⊥
IsNoDifference (finding.Same height txs scripts) = ⊤

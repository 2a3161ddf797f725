-- What the server's parts do with the node's lines, and from what they answer.
use Rattle.std.specs.Prelude.{◌≡◌, ◌≤◌, List, Result, Err, OnOk}
use Rattle.el_base.specs.declared.hash.Hash32.{Hash32}
use Rattle.el_chain.specs.Chains.{Chain}
use Rattle.el_outside.specs.Counts.{CountsOnly}
use Rattle.el_side.specs.Deeds.{Deed}
use Rattle.el_outside.specs.Files.{AllGrow}
use Rattle.el_lines.specs.NodeAnswers.{text_of}
use Rattle.el_lines.specs.declared.node_answer.NodeAnswer.{NodeAnswer}
use Rattle.el_model.specs.LedgerCalls.{KeepsBeside}
use Rattle.el_side.specs.Beneath.{Beneath, Ghosts}
use Rattle.el_side.specs.NodeSteps.{Leads}
use Rattle.el_side.specs.Side.{Side}
use Rattle.el_world.specs.World.{reply_to}
use Rattle.el_model.specs.declared.fault.QueryFault.{QueryFault}
use Rattle.el_model.specs.declared.fault.QueryFault.TheVariants as fault
use Rattle.el_core.specs.State.{Serving, beneath_of}
use Rattle.el_core.specs.Turn.{outs_of}
use Rattle.el_core.specs.within.Touching.{CoversAll}
use Rattle.el_core.specs.declared.out.Outs.{Outs}

-- The node is answered, and the server led on from the side. What the step touched is among the touched ones,
-- as far as clients subscribe to it.
pub record Answered {G A : Type 0} (of : Ghosts G A) (leads : NodeAnswer → List Deed → Side → Type 0)
    (was now : Serving G A) (side : Side) (start : Chain) (outs : Outs) : Type 0 where
  pub answer : NodeAnswer
  pub moved : List Hash32
  pub changed : List Hash32
  pub sends : outs_of outs ≡ reply_to 0 (text_of answer)
  pub led : Leads of leads side start (record {
    was = beneath_of was;
    now = beneath_of now;
    answer = answer;
    found = now.server.holdings.tree;
    ahead = now.server.ahead;
    moved = moved;
    changed = changed;
    holdings = now.server.holdings;
    caches = now.server.caches;
  })
  pub covers : CoversAll was.server.clients was.server.touched moved changed now.server.touched

-- What each turn of the node keeps, whatever the ledger stands for: block files only grow, no count falls,
-- and the files beside the ledger's own stay.
pub record NodeKeeps {G A : Type 0} (of : Ghosts G A) (was now : Beneath G A)
    (result : Result Outs QueryFault) : Type 0 where
  pub live : OnOk result (of.ledger.is_live now.ledger)
  pub still_live : result ≡ Err fault.Memory → of.ledger.is_live now.ledger
  pub keeps : of.files.tells → AllGrow (of.files.bytes was.files) (of.files.bytes now.files)
  pub archive_more : of.files.faults was.files ≤ of.files.faults now.files
  pub disk_rose :
      CountsOnly (of.ledger.faults was.ledger) (of.ledger.faults now.ledger) fault.DiskFailed result
  pub beside : KeepsBeside of.ledger was.ledger now.ledger

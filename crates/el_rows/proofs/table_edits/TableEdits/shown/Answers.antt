use Rattle.std.proofs.Common.{◌≡◌, ◌+◌, ◌++◌, ◌-◌, ℕ, List, arith, subst, sym}
use Rattle.std.specs.List.{range_with_len}
use Rattle.std.proofs.lemmas.Result.{IfOk-weaker}
use Rattle.el_rows.proofs.ShownLemmas.{AreShownTo, changed_to, range_to, shown_all}
use Rattle.el_rows.proofs.table_edits.TableEdits.shown.Goals as goal
use Rattle.el_rows.proofs.table_edits.TableEdits.shown.Goals.{After-new}

shown_to : (c : After-new) (v : List ℕ) → v ≡ c.in_ok-rows.rows.items ++ range_with_len c.args.base (c.args.count - c.args.base) → AreShownTo c.args.base c.args.count c.args.self.now (c.args.base + (c.args.count - c.args.base)) v
shown_to c v is = subst (λ (rows : List ℕ). AreShownTo c.args.base c.args.count c.args.self.now (c.args.base + (c.args.count - c.args.base)) rows) (sym is)
    (range_to c.args.base c.args.count c.args.self.now c.requires.below c.in_ok-rows.rows.items
    (changed_to c.args.base c.args.count c.args.self.now c.requires.below c.in_ok-rows.rows.items c.in_ok-rows.ensures.rising c.in_ok-rows.ensures.shown) c.requires.room
    (c.args.count - c.args.base) (omega arith))

pub returns-clause-rising : goal.returns-clause-rising
returns-clause-rising c = IfOk-weaker c.new.result _ _ (λ v is. (shown_to (goal.at.returns-clause-rising c).After-new v is).rising) c.new.ensures

pub returns-clause-shown : goal.returns-clause-shown
returns-clause-shown c = IfOk-weaker c.new.result _ _ (λ v is. shown_all c.args.base c.args.count c.args.self.now (c.args.base + (c.args.count - c.args.base)) v (shown_to (goal.at.returns-clause-shown c).After-new v is) (omega arith)) c.new.ensures

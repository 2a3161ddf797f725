use Rattle.std.proofs.Common.{◌<◌, length, refl, arith}
use Rattle.std.proofs.lemmas.Option.{slice_get_read, slice_get_within}
use Rattle.el_headers.proofs.Paths.{climb_start, climb_above, climb_more, climb_end}
use Rattle.el_headers.proofs.path.climb.Goals as goal

pub loop-step-init : goal.loop-step-init
loop-step-init c =
    climb_start c.args.table.now.nodes.items c.args.table.now.heights.items c.args.number c.args.height c.new-path.result.items c.new-path.ensures.items c.requires.height

pub parent_of-at-requires-clause-above : goal.parent_of-at-requires-clause-above
parent_of-at-requires-clause-above c =
    climb_above c.args.table.now.nodes.items c.args.table.now.heights.items c.args.number c.loop-step.at c.args.height c.loop-step.step c.loop-step.path.items c.loop-step.invariant
    (let t = c.loop-step-test.true in omega arith)

pub loop-step-preserved : goal.loop-step-preserved
loop-step-preserved c =
    let table = c.requires.table in
    let lt = slice_get_within c.args.table.now.heights.items c.loop-step.at _ c.loop-step.invariant.height_is in
    let count = table.heights.count in
    let within : c.loop-step.at < length c.args.table.now.nodes.items = omega arith in
    let here = slice_get_read c.args.table.now.nodes.items (length c.args.table.now.nodes.items) c.loop-step.at c.index.result.now refl within c.index.ensures in
    climb_more c.args.table.now.nodes.items c.args.table.now.heights.items c.args.number c.loop-step.at c.args.height c.loop-step.step c.parent_of-at.result c.loop-step.path.items
    c.push.new.self.items c.index.result.now c.loop-step.invariant (let t = c.loop-step-test.true in omega arith) here c.in_ok-push.ensures.items c.parent_of-at.ensures

pub index-requires-2 : goal.index-requires-2
index-requires-2 c =
    let table = c.requires.table in
    let lt = slice_get_within c.args.table.now.heights.items c.loop-step.at _ c.loop-step.invariant.height_is in
    let count = table.heights.count in
    let long = c.args.table.now.nodes.ok.0 in
    omega arith

pub returns : goal.returns
returns c =
    let table = c.requires.table in
    let lt = slice_get_within c.args.table.now.heights.items c.loop-step.at _ c.loop-step.invariant.height_is in
    let count = table.heights.count in
    let within : c.loop-step.at < length c.args.table.now.nodes.items = omega arith in
    let here = slice_get_read c.args.table.now.nodes.items (length c.args.table.now.nodes.items) c.loop-step.at c.index-2.result.now refl within c.index-2.ensures in
    record {
      path = climb_end c.args.table.now.nodes.items c.args.table.now.heights.items c.args.number c.loop-step.at c.args.height c.args.first c.loop-step.step c.loop-step.path.items
          c.push-2.new.self.items c.reverse.new.self.items c.index-2.result.now table.heights c.loop-step.invariant c.requires.first
          (let t = c.loop-step-test.false in let k = c.loop-step.auto.step-end in omega arith) here c.in_ok-push-2.ensures.items c.reverse.ensures.items;
    }

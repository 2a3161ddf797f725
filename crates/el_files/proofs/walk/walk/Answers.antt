use Rattle.std.proofs.Common.{arith, ◌-◌}
use Rattle.std.proofs.lemmas.List.{take_rest}
use Rattle.el_files.specs.within.Finding.{IsHeadIn}
use Rattle.el_files.proofs.Appends.{only_more}
use Rattle.el_files.proofs.Heading.{in_piece}
use Rattle.el_files.proofs.Walks.{walked_byte, walked_record}
use Rattle.el_files.proofs.walk.walk.Goals as goal

pub loop-passed-preserved-in-Some : goal.loop-passed-preserved-in-Some
loop-passed-preserved-in-Some c = record {
  walked = λ bytes all is.
      walked_record c.args.magic c.args.file c.args.at c.loop-passed.passed c.args.left c.args.piece.now _ bytes c.args.found.now.items c.loop-passed.found.items
      c.push.new.self.items c.in-Some.node (c.loop-passed.invariant.walked bytes all is) c.requires.front all is c.loop-passed-test.true
      (take_rest c.args.piece.now c.loop-passed.passed) c.in-Some.ensures.is c.in_ok-push-in-Some.ensures.items;
  nodes = only_more (IsHeadIn c.args.magic c.args.file c.args.at c.args.piece.now) c.args.found.now.items c.loop-passed.found.items c.push.new.self.items c.in-Some.node
      c.loop-passed.invariant.nodes c.in_ok-push-in-Some.ensures.items
      (in_piece c.args.magic c.args.piece.now _ c.args.file c.args.at c.loop-passed.passed (c.args.left - c.loop-passed.passed) c.in-Some.node c.in-Some.ensures.node
      c.loop-passed-test.true (take_rest c.args.piece.now c.loop-passed.passed) c.in-Some.ensures.is);
  within = omega (arith, c.in-Some.ensures.within);
}

pub loop-passed-preserved : goal.loop-passed-preserved
loop-passed-preserved c = record {
  walked = λ bytes all is.
      walked_byte c.args.magic c.args.file c.args.at c.loop-passed.passed c.args.left c.args.piece.now _ bytes c.args.found.now.items c.loop-passed.found.items
      (c.loop-passed.invariant.walked bytes all is) c.requires.front all is c.loop-passed-test.true
      (take_rest c.args.piece.now c.loop-passed.passed) c.in-None.ensures.is;
  nodes = c.loop-passed.invariant.nodes;
  within = omega arith;
}

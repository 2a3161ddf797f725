use Rattle.std.proofs.Common.{◌≡◌, ◌++◌, map, take}
use Rattle.el_subs.specs.Notices.{script_line}
use Rattle.el_subs.proofs.notices.add_script_lines.Given as goal

abbrev pub invariant-loop-s : goal.invariant-loop-s
invariant-loop-s l = l.lines.items ≡ l.fn.lines.items ++ map script_line (take l.s-index l.news)

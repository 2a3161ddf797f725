use Rattle.std.proofs.Common.{sym}
use Rattle.std.proofs.lemmas.List.{take-append-drop}
use Rattle.el_tx.proofs.header.hash.Goals as goal

pub returns : goal.returns
returns c = let parts = c.in-Some.ensures.cases in rw (parts.0, parts.1) (sym (take-append-drop 32 c.args.bytes.now))

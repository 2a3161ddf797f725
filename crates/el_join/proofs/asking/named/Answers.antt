use Rattle.std.proofs.lemmas.Result.{IfOk-weaker}
use Rattle.el_join.proofs.Asked.{named_by}
use Rattle.el_join.proofs.asking.named.Goals as goal

pub returns-clause-named : goal.returns-clause-named
returns-clause-named g c = λ chain kept over stood.
    IfOk-weaker c.output_or_coin.result _ _
    (λ found is. named_by c.args.table.now chain kept c.args.outpoint.now c.output_in.result found over c.output_in.ensures is)
    (c.output_or_coin.ensures.found chain stood)

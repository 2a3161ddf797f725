use Rattle.el_coins.proofs.CoinLists.{laid}
use Rattle.el_coins.proofs.coins.lay_over.Goals as goal

pub returns-clause-laid : goal.returns-clause-laid
returns-clause-laid c = laid c.args.base.now.map c.append.new.self c.args.changes.map c.len-len.ensures.unique c.in_ok-append.ensures.inserts

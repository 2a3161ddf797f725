use Rattle.el_kept.proofs.Renamed.{when_ok, renamed_standing, renamed_right}
use Rattle.el_kept.proofs.putting.rename.Goals as goal

pub returns-clause-standing : goal.returns-clause-standing
returns-clause-standing c =
    renamed_standing c.args.kept.now c.insert.new.self.entries c.swap_remove.new.self.entries c.args.txid.now c.args.name
    c.requires.right c.requires.dropped c.requires.there c.requires.new
    (when_ok c.insert.result c.unwrap.result c.unwrap.ensures c.insert.ensures.entries) c.swap_remove.ensures.entries

pub returns-clause-right : goal.returns-clause-right
returns-clause-right c =
    renamed_right c.args.kept.now c.insert.new.self.entries c.swap_remove.new.self.entries c.args.txid.now c.args.name
    c.requires.right c.requires.there c.requires.new
    (when_ok c.insert.result c.unwrap.result c.unwrap.ensures c.insert.ensures.entries) c.swap_remove.ensures.entries

use Rattle.std.proofs.Common.{◌∙◌, ap, sym}
use Rattle.el_kept.specs.Tables.{undropped}
use Rattle.el_kept.proofs.Renamed.{removed_standing, removed_right, all_stand}
use Rattle.el_kept.proofs.putting.give_way.Goals as goal

pub returns-then-contains_key-clause-standing : goal.returns-then-contains_key-clause-standing
returns-then-contains_key-clause-standing c =
    ap undropped c.shift_remove.ensures.entries
    ∙ removed_standing c.args.txid.now c.args.kept.now.entries c.requires.right c.requires.dropped

pub returns-then-contains_key-clause-right : goal.returns-then-contains_key-clause-right
returns-then-contains_key-clause-right c =
    let is = c.shift_remove.ensures.entries in
    rw is (removed_right c.args.txid.now c.args.kept.now.entries c.requires.right)

pub returns-then-len-count-clause-free : goal.returns-then-len-count-clause-free
returns-then-len-count-clause-free c =
    all_stand c.args.txid.now c.args.kept.now.entries c.requires.right
    (sym c.len.ensures.len ∙ c.if-len-count.true ∙ c.requires.count) c.requires.dropped

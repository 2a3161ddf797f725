use Rattle.std.proofs.Common.{◌≡◌, rules, IfOk, codes}
use Rattle.std.proofs.Common.{subst}
use Rattle.serde_json.specs.Data.{Data, array, item, no_items}
use Rattle.el_methods.specs.Results.{shown_hash, told}
use Rattle.el_subs.specs.Notices.{line_of, notification}
use Rattle.el_subs.proofs.notices.script_line.Goals as goal

pub returns : goal.returns
returns c =
    let is : c.into_answer.result ≡ array (item (shown_hash c.args.s.now) (item (told c.args.status) no_items)) = search rules in
    subst (λ (d : Data). IfOk c.notification_line.result (λ line. line ≡ line_of (notification (codes "blockchain.scripthash.subscribe") d)))
    is c.notification_line.ensures

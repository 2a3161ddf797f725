use Rattle.std.proofs.Common.{◌∙◌, sym, subst, Result}
use Rattle.serde_json.specs.Data.{Data}
use Rattle.el_methods.specs.Outcomes.{IsAnswer}
use Rattle.el_calls.specs.declared.refusal.Refusal.{Refusal}
use Rattle.el_methods.proofs.ManyHeaders.{count_is, plain_headers}
use Rattle.el_methods.proofs.blocks.block_headers.Goals as goal

pub returns-then-cp_height-eq0-clause-answer : goal.returns-then-cp_height-eq0-clause-answer
returns-then-cp_height-eq0-clause-answer g c = λ chain stands kept.
    let top = c.height-top.ensures ∙ g.met.G.Ledger.height_is c.args.ledger.now chain stands in
    let so = count_is chain c.height-top.result c.args.start_height c.args.count c.header_count-n.result top c.header_count-n.ensures in
    let P : Result Data Refusal → Type 0 = λ wanted. IsAnswer wanted c.headers_plain.result in
    subst P (sym (plain_headers chain c.args.start_height c.args.count c.args.cp_height c.header_count-n.result so c.if-cp_height-eq0.true))
    (c.headers_plain.ensures.answer chain stands)

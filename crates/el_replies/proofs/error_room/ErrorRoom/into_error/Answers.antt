use Rattle.std.proofs.Common.{◌≡◌, ◌∙◌, ap, List, ℕ, [], ◌++◌}
use Rattle.std.specs.Prelude.{codes}
use Rattle.el_replies.specs.within.Errors.{error_start, error_text}
use Rattle.el_replies.proofs.ErrorTexts.{then}
use Rattle.el_replies.proofs.error_room.ErrorRoom.into_error.Goals as goal

pub returns-clause-text : goal.returns-clause-text
unfolding error_text
returns-clause-text c =
    let start : c.put_start.new.line.items ≡ error_start c.args.refusal =
    c.put_start.ensures.items ∙ ap (λ (x : List ℕ). x ++ error_start c.args.refusal) c.self.invariant.0 in
    let id : c.extend_reserved.new.list.items ≡ c.put_start.new.line.items ++ c.args.self =
    (let a = c.extend_reserved.ensures.items in let b = c.as_slice.ensures.value in let v = c.self.view_is in cc) in
    let begun = c.put_start.new.line.items in
    let more = c.extend_reserved.new.list.items in
    let all = c.extend_reserved-2.new.list.items in
    let last = codes ",\"jsonrpc\":\"2.0\"}" in
    then [] begun all (error_start c.args.refusal) (c.args.self ++ last) start
    (then begun more all c.args.self last id c.extend_reserved-2.ensures.items)

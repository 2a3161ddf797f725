use Rattle.std.proofs.Common.{◌≡◌, ◌∙◌, ap, List, ℕ, ℤ, ◌++◌, to_z, of_z, w64}
use Rattle.std.specs.Prelude.{codes}
use Rattle.std.specs.Fmt.{signed_decimal}
use Rattle.el_calls.specs.Refusals.{code_of, message_of}
use Rattle.el_replies.specs.within.Errors.{error_start}
use Rattle.el_replies.proofs.ErrorTexts.{then, short_start, same_code}
use Rattle.el_replies.proofs.error_room.put_start.Goals as goal

pub returns-clause-items : goal.returns-clause-items
unfolding error_start
returns-clause-items c =
    let digits : c.as_bytes.result.now ≡ signed_decimal (code_of c.args.refusal) =
    c.as_bytes.ensures.value ∙ c.format.ensures.text
    ∙ ap (λ (z : ℤ). signed_decimal (to_z w64 (of_z w64 z))) c.code.ensures
    ∙ ap signed_decimal (same_code c.args.refusal) in
    let message : c.as_bytes-2.result.now ≡ message_of c.args.refusal = c.as_bytes-2.ensures.value ∙ c.message.ensures in
    let second = c.extend_reserved-2.ensures.items ∙ ap (λ (x : List ℕ). c.extend_reserved.new.list.items ++ x) digits in
    let fourth = c.extend_reserved-4.ensures.items ∙ ap (λ (x : List ℕ). c.extend_reserved-3.new.list.items ++ x) message in
    let first = c.extend_reserved.new.list.items in
    let third = c.extend_reserved-3.new.list.items in
    let all = c.extend_reserved-5.new.list.items in
    let digits_of = signed_decimal (code_of c.args.refusal) in
    let word = codes ",\"message\":\"" in
    let text = message_of c.args.refusal in
    let last = codes "\"},\"id\":" in
    then c.args.line.now.items first all (codes "{\"error\":{\"code\":") (digits_of ++ (word ++ (text ++ last))) c.extend_reserved.ensures.items
    (then first c.extend_reserved-2.new.list.items all digits_of (word ++ (text ++ last)) second
    (then c.extend_reserved-2.new.list.items third all word (text ++ last) c.extend_reserved-3.ensures.items
    (then third c.extend_reserved-4.new.list.items all text last fourth c.extend_reserved-5.ensures.items)))

pub returns-clause-short : goal.returns-clause-short
returns-clause-short c = short_start c.args.refusal

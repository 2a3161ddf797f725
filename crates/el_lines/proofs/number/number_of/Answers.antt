use Rattle.std.proofs.Common.{◌≡◌, ◌+◌, get_or, true, rules, arith}
use Rattle.std.specs.Char.{is_ascii_digit}
use Rattle.el_lines.proofs.Numbers.{next_value, digits_more, front_value}
use Rattle.el_lines.proofs.number.number_of.Goals as goal

pub returns-then-more-from : goal.returns-then-more-from
returns-then-more-from c = λ n shows.
    let text = c.args.text.now in
    let i = c.loop-byte.byte-index in
    let digit : is_ascii_digit (get_or text i 0) ≡ true = search rules in
    let next = next_value text i c.loop-byte.number c.loop-byte-test.true digit c.loop-byte.invariant.value in
    let front = front_value text (i + 1) in
    let value = shows.value in
    let below = shows.below in omega arith

pub loop-byte-preserved : goal.loop-byte-preserved
loop-byte-preserved c =
    let text = c.args.text.now in
    let i = c.loop-byte.byte-index in
    let digit : is_ascii_digit (get_or text i 0) ≡ true = search rules in
    let next = next_value text i c.loop-byte.number c.loop-byte-test.true digit c.loop-byte.invariant.value in
    record {
      digits = digits_more text i c.loop-byte-test.true c.loop-byte.invariant.digits digit;
      value = omega arith;
      below = search rules;
    }

use Rattle.el_lines.proofs.Numbers.{around_blank, has_blank}
use Rattle.el_lines.proofs.node_line.place_of.Goals as goal

pub returns-in_default : goal.returns-in_default
returns-in_default c = λ file place shows. has_blank c.args.text.now file place c.in_default.ensures shows

pub returns-in_default-number_of : goal.returns-in_default-number_of
returns-in_default-number_of c = λ file place shows.
    let two = around_blank c.args.text.now c.in-Some.blank file place c.in-Some.ensures shows in
    c.in_default-number_of.ensures file (rw c.bytes_before.ensures two.0)

pub returns-in_default-number_of-2 : goal.returns-in_default-number_of-2
returns-in_default-number_of-2 c = λ file place shows.
    let two = around_blank c.args.text.now c.in-Some.blank file place c.in-Some.ensures shows in
    c.in_default-number_of-2.ensures place (rw c.bytes_from.ensures two.1)

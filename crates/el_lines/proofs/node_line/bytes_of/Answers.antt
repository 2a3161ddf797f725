use Rattle.std.proofs.Common.{rules}
use Rattle.hex.proofs.HexLemmas.{decode_of-ok, decode_of-digits}
use Rattle.el_lines.proofs.node_line.bytes_of.Goals as goal

pub returns-then-not-is_hex_text-clause-refused : goal.returns-then-not-is_hex_text-clause-refused
returns-then-not-is_hex_text-clause-refused c = λ bytes shows.
    let ok = decode_of-ok c.args.text.now bytes shows.digits in
    let holds = c.is_hex_text.ensures.1 (shows.some, ok.0, ok.1) in search rules

pub returns-in-Err-clause-refused : goal.returns-in-Err-clause-refused
returns-in-Err-clause-refused c =
    let holds = c.is_hex_text.ensures.0 (search rules) in
    let read = decode_of-digits c.args.text.now holds.1 holds.2 in
    (read.0, record { some = holds.0; digits = read.1 })

use Rattle.std.proofs.Common.{◌≡◌, ap, false, length, rules}
use Rattle.std.specs.Str.{bytes_eq}
use Rattle.std.proofs.lemmas.Slice.Eq.{bytes_eq-Decides}
use Rattle.el_base.specs.declared.hash.Hash32.{Hash32}
use Rattle.el_files.proofs.Readings.{other_tx, no_tx, of_length}
use Rattle.el_files.proofs.reading.compare_tx.Goals as goal

pub returns-else-eq-clause-changed : goal.returns-else-eq-clause-changed
returns-else-eq-clause-changed c =
    let test : false ≡ bytes_eq c.in-Some.id.0 c.args.wanted.0 = c.if-eq.ensures in
    let differs = rw (← test) at (bytes_eq-Decides c.in-Some.id.0 c.args.wanted.0) in
    let encoded = rw c.in-Some.is at c.in_ok-found.ensures.encoded in
    let only = rw c.in-Some.is at c.in_ok-found.ensures.only in
    let long : length c.args.bytes.now ≡ c.args.len = search rules in
    of_length c.args.len c.args.wanted c.args.bytes.now _ long
    (other_tx c.in-Some.id c.args.wanted c.args.bytes.now encoded (λ e. absurd (let k = differs.1 (ap (λ (h : Hash32). h.0) e) in cc)) only)

pub returns-in-None-clause-changed : goal.returns-in-None-clause-changed
returns-in-None-clause-changed c =
    let long : length c.args.bytes.now ≡ c.args.len = search rules in
    of_length c.args.len c.args.wanted c.args.bytes.now _ long
    (no_tx c.args.wanted c.args.bytes.now c.in_ok-found.found c.in-None.is c.in_ok-found.ensures.only)

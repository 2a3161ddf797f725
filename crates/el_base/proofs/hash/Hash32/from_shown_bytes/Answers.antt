use Rattle.std.proofs.Common.{◌≡◌, length, rules}
use Rattle.el_base.proofs.ShownLemmas.{refused, not_decoded}
use Rattle.el_base.proofs.hash.Hash32.from_shown_bytes.Goals as goal

pub returns-in-Some-clause-fault : goal.returns-in-Some-clause-fault
returns-in-Some-clause-fault c =
    let size : length c.args.text.now ≡ 64 = search rules in
    let r = refused c.args.text.now c.in-Err.fault size (not_decoded _ _ _ size c.in-Err.ensures.value) in
    let same : r.0 ≡ c.in-Some.place = cc in
    (size, rw same at r.2)

pub returns-in-None-clause-fault : goal.returns-in-None-clause-fault
returns-in-None-clause-fault c =
    let size : length c.args.text.now ≡ 64 = search rules in
    let r = refused c.args.text.now c.in-Err.fault size (not_decoded _ _ _ size c.in-Err.ensures.value) in
    absurd (let e = r.1 in cc)

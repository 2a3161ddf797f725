use Rattle.std.proofs.Common.{◌∙◌, sym, ap, append-nil, Some, [], length}
use Rattle.el_files.proofs.Readings.{same_tx}
use Rattle.el_tx.specs.Hashing.{txid}
use Rattle.el_files.proofs.reading.txid_in.Goals as goal

pub returns-then-size-bytes-clause-only : goal.returns-then-size-bytes-clause-only
returns-then-size-bytes-clause-only c = λ id t.
    let again = same_tx c.in-Ok.tx c.in-Ok.size t.tx (length c.args.bytes.now)
    (c.in-Ok.ensures.only (λ e. absurd (cc)) c.args.bytes.now [] t.tx t.encoded (sym (append-nil c.args.bytes.now))) in
    ap Some (c.in_ok-id-in-Ok.ensures ∙ ap txid again.0 ∙ t.is)

pub returns-in-Ok-clause-only : goal.returns-in-Ok-clause-only
returns-in-Ok-clause-only c = λ id t.
    let again = same_tx c.in-Ok.tx c.in-Ok.size t.tx (length c.args.bytes.now)
    (c.in-Ok.ensures.only (λ e. absurd (cc)) c.args.bytes.now [] t.tx t.encoded (sym (append-nil c.args.bytes.now))) in
    absurd (c.if-size-bytes.false again.1)

pub returns : goal.returns
returns c = record {
  encoded = tt;
  only = λ id t.
      let again = c.in-Err.ensures.only (λ e. c.in_default.not-Memory (cc)) c.args.bytes.now [] t.tx t.encoded (sym (append-nil c.args.bytes.now)) in
      absurd (cc);
}

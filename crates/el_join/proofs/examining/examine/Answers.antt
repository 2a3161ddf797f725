use Rattle.std.proofs.Common.{refl, length, inr, ◌∙◌, ap, None, Some, List}
use Rattle.std.proofs.lemmas.Result.{err_from_is_err_and}
use Rattle.el_chain.proofs.CoinSteps.{err_passed}
use Rattle.el_mempool.specs.declared.held.Source.{Source}
use Rattle.el_join.specs.within.Tables.{room_by}
use Rattle.el_join.proofs.Refusing.{Refused, coins_refused, all_is, kept_is}
use Rattle.el_join.proofs.examining.examine.Goals as goal

pub returns-in_err-taken-clause-refused : goal.returns-in_err-taken-clause-refused
returns-in_err-taken-clause-refused g c = λ chain kept over stood.
    err_passed c.from_residual-in_err-taken.result (Refused c.args.limits.now chain kept c.args.bytes.now) c.in_err-taken.field-0.0
    (err_from_is_err_and c.from_residual-in_err-taken.result c.from_residual-in_err-taken.ensures.1)
    (coins_refused c.args.limits.now chain kept c.args.bytes.now c.in_ok-tx.tx c.in_err-taken.field-0.0 c.in_ok-refusal.field-0 c.in_ok-tx.ensures.read (c.in_ok-refusal.ensures.first chain kept over stood) c.in_default.is
    (c.in_err-taken.ensures.first chain kept over (c.in_ok-refusal.ensures.quiet.stays.still_stands chain stood)))

pub returns-in-Some-lack_of-clause-refused : goal.returns-in-Some-lack_of-clause-refused
returns-in-Some-lack_of-clause-refused g c = λ chain kept over stood.
    let then = c.in_ok-refusal.ensures.quiet.stays.still_stands chain stood in
    let room = c.lack_of.ensures.first
    ∙ ap (λ (ss : List Source). room_by c.args.limits.now c.args.table.now.count c.args.table.now.bytes ss c.as_slice-outputs.result.now (length c.args.bytes.now)) c.as_slice-sources.ensures.value in
    inr (inr (inr (
      c.in_ok-tx.tx,
      c.in_ok-tx.ensures.read,
      all_is c.args.table.now c.args.limits.now chain kept c.in_ok-tx.tx c.args.bytes.now c.in_ok-taken.taken.sources.items c.as_slice-outputs.result.now (length c.args.bytes.now)
          c.in_ok-refusal.field-0 c.lack_of.result (Some c.in-Some-lack_of.refusal) over c.in_ok-tx.ensures.read (c.in_ok-refusal.ensures.first chain kept over stood) c.in_default.is
          (c.in_ok-taken.ensures.none chain kept over then) (c.in_ok-taken.ensures.found chain kept over then) c.as_slice-outputs.ensures refl room c.in-Some-lack_of.is,
    )))

pub returns-clause-joins : goal.returns-clause-joins
returns-clause-joins g c = λ chain kept over stood.
    let then = c.in_ok-refusal.ensures.quiet.stays.still_stands chain stood in
    let room = c.lack_of.ensures.first
    ∙ ap (λ (ss : List Source). room_by c.args.limits.now c.args.table.now.count c.args.table.now.bytes ss c.as_slice-outputs.result.now (length c.args.bytes.now)) c.as_slice-sources.ensures.value in
    record {
      tx = c.in_ok-tx.tx;
      encoded = c.in_ok-tx.ensures.read;
      free = all_is c.args.table.now c.args.limits.now chain kept c.in_ok-tx.tx c.args.bytes.now c.in_ok-taken.taken.sources.items c.as_slice-outputs.result.now (length c.args.bytes.now)
          c.in_ok-refusal.field-0 c.lack_of.result None over c.in_ok-tx.ensures.read (c.in_ok-refusal.ensures.first chain kept over stood) c.in_default.is
          (c.in_ok-taken.ensures.none chain kept over then) (c.in_ok-taken.ensures.found chain kept over then) c.as_slice-outputs.ensures refl room c.in_default-lack_of.is;
      is = kept_is c.args.table.now chain kept c.in_ok-tx.tx c.args.bytes.now c.in_ok-id.id c.in_ok-taken.taken.sources.items c.in_ok-tx.tx.outputs c.in_ok-kept.kept over (c.in_ok-taken.ensures.none chain kept over then) c.in_ok-tx.ensures.read c.in_ok-id.ensures
          (c.in_ok-taken.ensures.found chain kept over then) refl (rw c.in_ok-taken.ensures.flag at c.in_ok-kept.ensures);
    }

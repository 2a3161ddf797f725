use Rattle.std.proofs.Common.{refl, ◌∙◌, arith}
use Rattle.std.proofs.lemmas.Result.{err_from_is_err_and}
use Rattle.el_check_chain.proofs.WayLemmas.{counts_on}
use Rattle.el_check_chain.proofs.walking.lead_all.Goals as goal

pub returns-clause-led : goal.returns-clause-led
returns-clause-led g c = λ side stand.
    let one = c.in_ok-to_first.ensures.led side stand in
    let two = c.in_ok-to_other.ensures.led one.last one.stand in
    let three = c.in_ok-back.ensures.led two.last two.stand in record {
      first = one.last;
      side = two.last;
      last = three.last;
      to_first = c.in_ok-to_first.to_first;
      to_side = c.in_ok-to_other.to_other;
      back = c.in_ok-back.back;
      leads_first = one.leads;
      leads_side = two.leads;
      leads_back = three.leads;
      moves_are = refl;
      stood = three.stand.at.stood three.stand.sure;
      between = λ told. (
        c.lead-2.new.ledger,
        (let a = one.later told in let b = two.later told in omega arith),
        three.later told,
        λ left now. g.met.G.Ledger.leaves_own c.lead-2.new.ledger two.last.chain left told
            c.in_ok-to_other.ensures.live (two.stand.at.stood two.stand.sure) now,
      );
    }

pub returns-clause-beside : goal.returns-clause-beside
returns-clause-beside g c = λ told. c.in_ok-back.ensures.beside told ∙ c.in_ok-to_other.ensures.beside told
    ∙ c.in_ok-to_first.ensures.beside told

pub returns-in_err-to_first-clause-cause : goal.returns-in_err-to_first-clause-cause
returns-in_err-to_first-clause-cause g c =
    counts_on _ _ _ c.from_residual.result c.in_err-to_first.field-0.0
    (err_from_is_err_and c.from_residual.result c.from_residual.ensures.1)
    refl c.in_err-to_first.ensures.cause

pub returns-in_err-to_other-clause-cause : goal.returns-in_err-to_other-clause-cause
returns-in_err-to_other-clause-cause g c =
    counts_on _ _ _ c.from_residual-in_err-to_other.result c.in_err-to_other.field-0.0
    (err_from_is_err_and c.from_residual-in_err-to_other.result c.from_residual-in_err-to_other.ensures.1)
    c.in_ok-to_first.ensures.cause.uncounted c.in_err-to_other.ensures.cause

pub returns-in_err-back-clause-cause : goal.returns-in_err-back-clause-cause
returns-in_err-back-clause-cause g c =
    counts_on _ _ _ c.from_residual-in_err-back.result c.in_err-back.field-0.0
    (err_from_is_err_and c.from_residual-in_err-back.result c.from_residual-in_err-back.ensures.1)
    (c.in_ok-to_other.ensures.cause.uncounted ∙ c.in_ok-to_first.ensures.cause.uncounted) c.in_err-back.ensures.cause

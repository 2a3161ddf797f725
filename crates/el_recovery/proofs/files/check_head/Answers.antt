use Rattle.std.proofs.Common.{inl, inr, refl, sym, subst, ◌∙◌, Result, Ok, Err}
use Rattle.std.specs.Prelude.{OnOk, IfOk, IfErr}
use Rattle.std.specs.Int.{w32, from_le_bytes}
use Rattle.el_row_formats.specs.declared.limits.TheConstants.{MIN_HEAD_BITS}
use Rattle.el_pages.specs.declared.layout.TheConstants.{LETTERS}
use Rattle.el_recovery.specs.Checks.{word, bits_told, HasBits}
use Rattle.el_recovery.proofs.Fronts.{fault_is}
use Rattle.el_recovery.proofs.files.check_head.Goals as goal

-- what holds of an answer, since more holds of it
on_ok_from : {T E Q : Type 0} {P : T → Type 0} (r : Result T E) → ((x : T) → P x → Q) → IfOk r P → OnOk r Q
on_ok_from (Ok x) f p = f x p
on_ok_from (Err e) f p = tt

on_ok_all : {T E Q : Type 0} (r : Result T E) → Q → OnOk r Q
on_ok_all (Ok x) q = q
on_ok_all (Err e) q = tt

if_err_from : {T E : Type 0} {P Q : E → Type 0} (r : Result T E) → ((e : E) → P e → Q e) → IfErr r P → IfErr r Q
if_err_from (Ok x) f p = tt
if_err_from (Err e) f p = f e p

pub returns-then-letters-ne-LETTERS-clause-bad : goal.returns-then-letters-ne-LETTERS-clause-bad
returns-then-letters-ne-LETTERS-clause-bad c =
    ((20, LETTERS, word c.args.meta.now 0), fault_is refl refl c.word_at-letters.ensures.word, inl (λ e. c.if-letters-ne-LETTERS.true (c.word_at-letters.ensures.word ∙ e), refl))

pub returns-then-format-ne2-clause-bad : goal.returns-then-format-ne2-clause-bad
returns-then-format-ne2-clause-bad c =
    ((20, 2, word c.args.meta.now 4), fault_is refl refl c.word_at-format.ensures.word, inr (sym c.word_at-letters.ensures.word ∙ c.if-letters-ne-LETTERS.false, inl (λ e. c.if-format-ne2.true (c.word_at-format.ensures.word ∙ e), refl)))

pub returns-then-network-wanted-clause-bad : goal.returns-then-network-wanted-clause-bad
returns-then-network-wanted-clause-bad c = (
  (20, from_le_bytes w32 c.args.magic, word c.args.meta.now 8),
  fault_is refl c.network_of-wanted.ensures.number c.word_at-network.ensures.word,
  inr (
    sym c.word_at-letters.ensures.word ∙ c.if-letters-ne-LETTERS.false,
    inr (
      sym c.word_at-format.ensures.word ∙ c.if-format-ne2.false,
      inl (λ e. c.if-network-wanted.true (c.word_at-network.ensures.word ∙ e ∙ sym c.network_of-wanted.ensures.number), refl),
    ),
  ),
)

pub returns-clause-ok : goal.returns-clause-ok
returns-clause-ok c = on_ok_from c.check_bits.result (λ bits is. record {
  letters = sym c.word_at-letters.ensures.word ∙ c.if-letters-ne-LETTERS.false;
  format = sym c.word_at-format.ensures.word ∙ c.if-format-ne2.false;
  network = sym c.word_at-network.ensures.word ∙ (c.if-network-wanted.false ∙ c.network_of-wanted.ensures.number);
  bits = subst (λ n. HasBits n) is.0 is.1;
}) c.check_bits.ensures.ok

pub returns-clause-bytes : goal.returns-clause-bytes
returns-clause-bytes c = on_ok_all c.check_bits.result (c.word_at-letters.ensures.bytes, c.network_of-wanted.ensures.bytes)

pub returns-clause-bad : goal.returns-clause-bad
returns-clause-bad c = if_err_from c.check_bits.result (λ e bad. (
  (20, MIN_HEAD_BITS, bits_told c.args.meta.now),
  bad.1,
  inr (
    sym c.word_at-letters.ensures.word ∙ c.if-letters-ne-LETTERS.false,
    inr (
      sym c.word_at-format.ensures.word ∙ c.if-format-ne2.false,
      inr (sym c.word_at-network.ensures.word ∙ (c.if-network-wanted.false ∙ c.network_of-wanted.ensures.number), (bad.0, refl)),
    ),
  ),
)) c.check_bits.ensures.bad

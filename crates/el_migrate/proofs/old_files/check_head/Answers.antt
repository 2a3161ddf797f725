use Rattle.std.proofs.Common.{inl, inr, refl, sym, ◌∙◌}
use Rattle.std.specs.Int.{w32, from_le_bytes}
use Rattle.el_pages.specs.declared.layout.TheConstants.{LETTERS}
use Rattle.el_recovery.specs.Checks.{word}
use Rattle.el_recovery.proofs.Fronts.{fault_is}
use Rattle.el_migrate.proofs.old_files.check_head.Goals as goal

pub returns-then-letters-ne-LETTERS-clause-bad : goal.returns-then-letters-ne-LETTERS-clause-bad
returns-then-letters-ne-LETTERS-clause-bad c =
    ((0, LETTERS, word c.args.meta.now 0), fault_is refl refl c.word_at-letters.ensures.word, inl (λ e. c.if-letters-ne-LETTERS.true (c.word_at-letters.ensures.word ∙ e), refl))

pub returns-then-format-ne1-clause-bad : goal.returns-then-format-ne1-clause-bad
returns-then-format-ne1-clause-bad c =
    ((0, 1, word c.args.meta.now 4), fault_is refl refl c.word_at-format.ensures.word, inr (sym c.word_at-letters.ensures.word ∙ c.if-letters-ne-LETTERS.false, inl (λ e. c.if-format-ne1.true (c.word_at-format.ensures.word ∙ e), refl)))

pub returns-then-network-wanted-clause-bad : goal.returns-then-network-wanted-clause-bad
returns-then-network-wanted-clause-bad c = (
  (0, from_le_bytes w32 c.args.magic, word c.args.meta.now 8),
  fault_is refl c.network_of-wanted.ensures.number c.word_at-network.ensures.word,
  inr (
    sym c.word_at-letters.ensures.word ∙ c.if-letters-ne-LETTERS.false,
    inr (
      sym c.word_at-format.ensures.word ∙ c.if-format-ne1.false,
      (λ e. c.if-network-wanted.true (c.word_at-network.ensures.word ∙ e ∙ sym c.network_of-wanted.ensures.number), refl),
    ),
  ),
)

pub returns-clause-ok : goal.returns-clause-ok
returns-clause-ok c = record {
  letters = sym c.word_at-letters.ensures.word ∙ c.if-letters-ne-LETTERS.false;
  format = sym c.word_at-format.ensures.word ∙ c.if-format-ne1.false;
  network = sym c.word_at-network.ensures.word ∙ (c.if-network-wanted.false ∙ c.network_of-wanted.ensures.number);
}

pub returns-clause-bytes : goal.returns-clause-bytes
returns-clause-bytes c = (c.word_at-letters.ensures.bytes, c.network_of-wanted.ensures.bytes)

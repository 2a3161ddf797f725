use Rattle.std.proofs.Common.{◌∙◌}
use Rattle.el_json.proofs.Written.{printed, printed_back}
use Rattle.el_json.proofs.printing.text_by.Goals as goal

pub returns-clause-text : goal.returns-clause-text
returns-clause-text c =
    printed _ _ _ _ _ c.into_inner.ensures.items (c.in_ok-write_value.ensures.before ∙ c.requires.before)
    c.requires.tokens c.in_ok-write_value.ensures.ok c.into_inner.ensures.reads_back c.requires.float

pub returns-clause-reads_back : goal.returns-clause-reads_back
returns-clause-reads_back c =
    printed_back _ _ _ _ _ c.into_inner.ensures.items (c.in_ok-write_value.ensures.before ∙ c.requires.before)
    c.requires.tokens c.in_ok-write_value.ensures.ok c.into_inner.ensures.reads_back c.into_inner.ensures.utf8

use Rattle.std.proofs.Common.{◌∙◌}
use Rattle.el_audit_run.proofs.Texts.{three}
use Rattle.el_audit_run.proofs.line.put_block.Goals as goal

pub returns : goal.returns
returns c = three c.extend-2.result _ _ _ _ _ _ _ _ c.in_ok-put_hash.ensures c.in_ok-extend.ensures.ok (c.as_bytes.ensures.value ∙ c.flaw_word.ensures) c.extend-2.ensures.ok

use Rattle.std.proofs.Common.{[], refl}
use Rattle.el_lines.specs.LineStates.{between_lines}
use Rattle.el_lines.proofs.line_buffer.LineBuffer.new.Goals as goal

pub returns-clause-at : goal.returns-clause-at
returns-clause-at c = between_lines [] refl (rw c.new.ensures.items refl) refl refl

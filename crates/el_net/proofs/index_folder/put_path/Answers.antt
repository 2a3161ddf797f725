use Rattle.std.proofs.Common.{append_assoc}
use Rattle.el_net.proofs.index_folder.put_path.Goals as goal

pub returns-clause-path : goal.returns-clause-path
returns-clause-path c =
    rw (
      c.put_text-3.ensures.text,
      c.put_digit-2.ensures.digit,
      c.put_digit.ensures.digit,
      c.put_text-2.ensures.text,
      c.put_text.ensures.text,
      c.clear.ensures.bytes,
    ) (simp append_assoc)

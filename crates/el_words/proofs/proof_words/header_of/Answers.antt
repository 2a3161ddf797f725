use Rattle.std.proofs.Common.{rules}
use Rattle.el_words.proofs.ProofLemmas.{header_read, header_none}
use Rattle.el_words.proofs.proof_words.header_of.Goals as goal

pub returns-in-Ok : goal.returns-in-Ok
returns-in-Ok c = header_read c.args.text.now _ c.decode_to_slice.result (search rules) c.decode_to_slice.ensures.value c.in-Ok.is

pub returns-in-Err : goal.returns-in-Err
returns-in-Err c = header_none c.args.text.now _ c.decode_to_slice.result _ (search rules) c.decode_to_slice.ensures.value c.in-Err.is

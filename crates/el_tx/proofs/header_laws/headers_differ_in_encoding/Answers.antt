use Rattle.el_tx.proofs.HeaderLemmas.{one_header}
use Rattle.el_tx.proofs.header_laws.headers_differ_in_encoding.Goals as goal

pub returns : goal.returns
returns c = one_header

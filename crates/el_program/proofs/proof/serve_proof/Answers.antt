use Rattle.std.proofs.Common.{refl}
use Rattle.el_outside.proofs.Traces.{goes_none}
use Rattle.el_loop.specs.Traffic.{no_traffic}
use Rattle.el_side.proofs.Deeds.{all_rose_none}
use Rattle.el_words.proofs.ProofLemmas.{one_proof}
use Rattle.el_program.proofs.Audits.{few_hashes, send_end, still_caused}
use Rattle.el_program.proofs.proof.serve_proof.Goals as goal

pub tell-requires : goal.tell-requires
tell-requires g c = few_hashes c.in-Ok-Some.said.branch _ (rw c.in-Ok-Some.field-0-is at c.in-Ok-Some.ensures.found).branch_is

pub returns-in-Ok-Some-clause-ends : goal.returns-in-Ok-Some-clause-ends
returns-in-Ok-Some-clause-ends g c = λ turns of_files of_disk of_relay said is.
    let found = rw c.in-Ok-Some.field-0-is at c.in-Ok-Some.ensures.found in
    rw (one_proof _ c.in-Ok-Some.said said found is) at (c.tell.ensures.ends turns of_files of_disk of_relay)

pub returns-in-Ok-Some-clause-no_index : goal.returns-in-Ok-Some-clause-no_index
returns-in-Ok-Some-clause-no_index g c = (send_end c.tell.result c.tell.ensures.sent).0

pub returns-in-Ok-Some-clause-no_disk : goal.returns-in-Ok-Some-clause-no_disk
returns-in-Ok-Some-clause-no_disk g c = (send_end c.tell.result c.tell.ensures.sent).1

pub returns-in-Ok-Some-clause-lawful : goal.returns-in-Ok-Some-clause-lawful
returns-in-Ok-Some-clause-lawful g c = λ usage. absurd ((send_end c.tell.result c.tell.ensures.sent).2 usage)

pub returns-in-Ok-Some-clause-unserved : goal.returns-in-Ok-Some-clause-unserved
returns-in-Ok-Some-clause-unserved g c = λ unserved. absurd ((send_end c.tell.result c.tell.ensures.sent).3 unserved)

pub returns-in-Ok-Some-clause-refused : goal.returns-in-Ok-Some-clause-refused
returns-in-Ok-Some-clause-refused g c = λ none. absurd (none c.in-Ok-Some.said (rw c.in-Ok-Some.field-0-is at c.in-Ok-Some.ensures.found))

pub returns-in-Ok-None-clause-ends : goal.returns-in-Ok-None-clause-ends
returns-in-Ok-None-clause-ends g c = λ turns of_files of_disk of_relay said is. absurd ((rw c.in-Ok-None.field-0-is at c.in-Ok-None.ensures.none) said is)

pub returns-in-Ok-None-clause-causes : goal.returns-in-Ok-None-clause-causes
returns-in-Ok-None-clause-causes g c = λ turns of_files of_disk of_relay. still_caused turns _ _ _ (λ device e. cc) (λ e. cc)

pub returns-in-Err-clause-ends : goal.returns-in-Err-clause-ends
returns-in-Err-clause-ends g c = λ turns of_files of_disk of_relay said is. (
  no_traffic,
  λ t. goes_none _,
  record { traffic = refl; calls = refl; rose = all_rose_none _ },
)

pub returns-in-Err-clause-causes : goal.returns-in-Err-clause-causes
returns-in-Err-clause-causes g c = λ turns of_files of_disk of_relay. still_caused turns _ _ _ (λ device e. cc) (λ e. cc)

pub returns-in-Err-clause-refused : goal.returns-in-Err-clause-refused
returns-in-Err-clause-refused g c = λ none. absurd (none c.in-Err.ensures.memory.0 c.in-Err.ensures.memory.1)

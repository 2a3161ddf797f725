use Rattle.el_files.proofs.Padding.{records_joined, zeros_add_none}
use Rattle.el_files.proofs.laws.padding_adds_no_records.Goals as goal

pub returns-clause-joined : goal.returns-clause-joined
returns-clause-joined c = λ magic bytes padding file whole. records_joined magic file bytes padding whole

pub returns-clause-zeros : goal.returns-clause-zeros
returns-clause-zeros c = λ magic bytes file n whole. zeros_add_none magic file n bytes whole

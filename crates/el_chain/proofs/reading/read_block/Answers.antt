use Rattle.std.proofs.Common.{◌≡◌, List, ℕ, ◌∙◌, ap, Err}
use Rattle.el_outside.specs.Files.{Grows}
use Rattle.el_outside.specs.Seen.{seen}
use Rattle.std.proofs.lemmas.Result.{err_from_is_err_and}
use Rattle.el_outside.proofs.Traces.{grows_more, grows_by}
use Rattle.el_chain.specs.Records.{block_at, IsOtherBlock}
use Rattle.el_chain.proofs.RecordBytes.{unchanged, changed_on, block_stays, stands_within, record_block}
use Rattle.el_chain.proofs.reading.read_block.Goals as goal

pub returns-in_err-check_block-clause-stays : goal.returns-in_err-check_block-clause-stays
returns-in_err-check_block-clause-stays g c = λ t magic file stands grows.
    let written : List ℕ = g.A.Archive.bytes c.read_part.new.archive c.args.node.now.place.file in
    let now : List ℕ = seen g.A.Archive c.read_part.new.archive c.args.node.now.place.file in
    let stood : Grows file written = grows_more file _ written grows (c.in_ok-body.ensures.only_reads.keeps t c.args.node.now.place.file) in
    let same : block_at c.args.node.now.place now ≡ block_at c.args.node.now.place file =
    block_stays file now c.args.node.now.place (grows_more file written now stood (grows_by written _))
    (stands_within magic file c.args.node.now.place.file c.args.node.now stands) in
    let is : c.as_slice.result.now ≡ block_at c.args.node.now.place file = c.as_slice.ensures.value ∙ c.in_ok-body.ensures.part t ∙ same in
    let block = record_block magic file c.as_slice.result.now c.args.node.now.place.file c.args.node.now stands is c.in_err-check_block.ensures.bytes in
    let p = err_from_is_err_and c.from_residual-in_err-check_block.result c.from_residual-in_err-check_block.ensures.1 in
    unchanged c.in_err-check_block.field-0.0 c.from_residual-in_err-check_block.result (λ wanted found. IsOtherBlock c.args.node.now c.as_slice.result.now found) _
    (p.1 ∙ ap Err p.2) c.in_err-check_block.ensures.changed (λ wanted found other. other.other block)

pub returns-clause-stays : goal.returns-clause-stays
returns-clause-stays g c = λ t magic file stands grows.
    let written : List ℕ = g.A.Archive.bytes c.read_part.new.archive c.args.node.now.place.file in
    let now : List ℕ = seen g.A.Archive c.read_part.new.archive c.args.node.now.place.file in
    let stood : Grows file written = grows_more file _ written grows (c.in_ok-body.ensures.only_reads.keeps t c.args.node.now.place.file) in
    let same : block_at c.args.node.now.place now ≡ block_at c.args.node.now.place file =
    block_stays file now c.args.node.now.place (grows_more file written now stood (grows_by written _))
    (stands_within magic file c.args.node.now.place.file c.args.node.now stands) in
    (c.in_ok-body.ensures.part t ∙ same, tt)

pub returns-in_err-check_block-clause-changed : goal.returns-in_err-check_block-clause-changed
returns-in_err-check_block-clause-changed g c =
    let p = err_from_is_err_and c.from_residual-in_err-check_block.result c.from_residual-in_err-check_block.ensures.1 in
    changed_on c.in_err-check_block.field-0.0 c.from_residual-in_err-check_block.result (λ wanted found. IsOtherBlock c.args.node.now c.as_slice.result.now found) _
    (p.1 ∙ ap Err p.2) c.in_err-check_block.ensures.changed
    (λ wanted found other. (c.as_slice.result.now, λ t. c.as_slice.ensures.value ∙ c.in_ok-body.ensures.part t, other))

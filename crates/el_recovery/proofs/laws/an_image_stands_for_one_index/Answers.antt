use Rattle.std.proofs.Common.{arith}
use Rattle.el_row_formats.proofs.Keys.{few_rows}
use Rattle.el_redo.specs.RedoBody.{head_bytes}
use Rattle.el_pages.specs.declared.layout.TheConstants.{FORMAT_2}
use Rattle.el_pages.proofs.Laid.{limits_2}
use Rattle.el_recovery.proofs.OneIndex.{one_index, heads_long}
use Rattle.el_recovery.proofs.laws.an_image_stands_for_one_index.Goals as goal

pub returns : goal.returns
returns c magic image m n a b small x y =
    one_index FORMAT_2 (λ t. omega (arith, limits_2 t, few_rows t)) (head_bytes magic x.bits) (head_bytes magic y.bits) (heads_long magic x.bits y.bits) image a b small x.shows y.shows

use Rattle.std.proofs.Common.{ap, ◌∙◌, ◌||◌, Bool}
use Rattle.std.specs.List.{list_any}
use Rattle.el_chain.specs.Headers.{same_hash}
use Rattle.el_chain.proofs.TouchLemmas.{any_added, same_turned}
use Rattle.el_kept.proofs.touching.touch.Goals as goal

pub returns : goal.returns
returns c = λ s. any_added s c.args.held.now.script c.args.touched.now c.add.new.self c.in_ok-add.ensures.ok
    ∙ ap (λ (b : Bool). list_any (same_hash s) c.args.touched.now || b) (same_turned s c.args.held.now.script)

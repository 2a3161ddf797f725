use Rattle.std.proofs.Common.{◌∙◌, ap, ◌∷◌, ◌++◌, [], to_z-of_z}
use Rattle.std.proofs.lemmas.Result.{on_ok_weaker}
use Rattle.std.specs.Fmt.{signed_decimal}
use Rattle.json.specs.Token.{number}
use Rattle.el_json.proofs.Written.{of_negative}
use Rattle.el_json.proofs.printing.write_negative.Goals as goal

pub returns-clause-ok : goal.returns-clause-ok
returns-clause-ok c =
    on_ok_weaker c.i64.result (λ e. of_negative c.args.n _ _ c.requires c.ranges.n
    (e ∙ ap (λ z. c.args.out.now.tokens ++ number (signed_decimal z) ∷ []) (to_z-of_z c.ranges.n)))
    c.i64.ensures.ok

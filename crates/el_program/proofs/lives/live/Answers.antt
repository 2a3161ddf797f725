use Rattle.std.proofs.Common.{inl, []}
use Rattle.el_program.proofs.LifeLemmas.{empty_stands}
use Rattle.el_program.proofs.lives.live.Goals as goal

pub returns : goal.returns
returns g c = record {
  whole = λ magic told serves fresh.
      let r = c.live_on.ensures.lived magic [] [] told serves
      (λ image now. inl (empty_stands magic image (fresh image now))) in
      (r.lives, r.over, r.are, r.last, r.others, r.go_on);
}

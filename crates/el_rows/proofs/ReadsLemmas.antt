-- How reads go on.
use Rattle.std.proofs.Common.{◌≡◌, ◌∙◌, sym, refl, subst}
use Rattle.el_outside.proofs.Moments.{below_none, below_joined}
use Rattle.el_rows.specs.declared.rows.Rows as rows
use Rattle.el_rows.specs.Transaction.{WasRead}

module _ {R : Type 0} (G : rows.Ghosts R) where
  -- reads after reads
  pub read_joined : (old mid new : R) → WasRead G old mid → WasRead G mid new → WasRead G old new
  read_joined old mid new first second = record {
    same = second.same ∙ first.same;
    count = second.count ∙ first.count;
    as_many = second.as_many ∙ first.as_many;
    live = second.live;
    below = below_joined G.moment G.left_since G.tells_crash G.beside old mid new first.below second.below;
  }

  -- no reads
  pub read_none : (old : R) → G.is_live old → WasRead G old old
  read_none old live = record {
    same = refl;
    count = refl;
    as_many = refl;
    live = live;
    below = below_none G.moment G.left_since G.tells_crash G.beside old;
  }

  -- and nothing after them
  pub read_same : (old mid new : R) → WasRead G old mid → new ≡ mid → WasRead G old new
  read_same old mid new reads same = subst (λ (r : R). WasRead G old r) (sym same) reads

use Rattle.std.proofs.Common.{List, subst, rules}
use Rattle.std.specs.List.Sorted.{IsPermutation}
use Rattle.std.proofs.lemmas.List.Sorted.{IsNonDecreasingBy-from_sort_by_key}
use Rattle.el_sessions.specs.declared.slots.Place.{Place}
use Rattle.el_sessions.proofs.session.sorted_places.Goals as goal

pub returns : goal.returns
returns c = record {
  same = subst (λ (l : List Place). IsPermutation l c.sort_unstable_by_key.new.self.items) c.in_ok-places.ensures
      c.sort_unstable_by_key.ensures.permutation;
  ordered = IsNonDecreasingBy-from_sort_by_key (λ (p : Place). p.number) _ c.sort_unstable_by_key.ensures.sorted
      (λ a r q k. search rules);
}

-- The row of an output as a coin of a script.
use Rattle.std.proofs.Common.{◌≡◌, ℕ, ◌+◌, ◌-◌, ◌<◌, ◌==◌, true, false, List, [], ◌∷◌, length, drop, min, get_or, refl, ap, sym, ◌∙◌, eq-eqb, ne_eqb, length-drop}
use Rattle.std.proofs.lemmas.Bool.{and_left, and_right}
use Rattle.std.proofs.lemmas.List.{length-take, get_or-take, get_or-drop}
use Rattle.el_base.specs.declared.hash.Hash32.{Hash32}
use Rattle.el_tables.specs.Edits.{no_out}
use Rattle.el_tables.specs.Lists as listed
use Rattle.el_tables.specs.Lists.{ListedTx, ListedOut, is_unspent}
use Rattle.el_tables.specs.Lists.State.{Unspent, Spent, Buried}
use Rattle.el_row_formats.specs.declared.out_row.OutRow.{OutRow}
use Rattle.el_row_formats.specs.declared.out_row.State.TheVariants as out
use Rattle.el_schema.specs.Rows.{out_fields, state_fields}
use Rattle.el_queries.specs.within.Histories.{own_coin, outs_of_tx}

unspent_is : (s : listed.State) → state_fields s ≡ out.Unspent → is_unspent s ≡ true
unspent_is Unspent e = refl
unspent_is (Spent by) e = absurd cc
unspent_is (Buried by) e = absurd cc

gone_is : (s : listed.State) → (state_fields s ≡ out.Unspent → ⊥) → is_unspent s ≡ false
gone_is Unspent h = absurd (h refl)
gone_is (Spent by) h = refl
gone_is (Buried by) h = refl

module _ (script : ℕ) (s : Hash32) (t : ListedTx) (i : ℕ) (x : ListedOut) (row : OutRow) (is : row ≡ out_fields x) where
  -- an output of another script, one that is gone, and a coin
  pub coin_other : (row.script ≡ script → ⊥) → own_coin script s t i x ≡ []
  coin_other h =
      let apart : (x.script == script) ≡ false = ne_eqb x.script script (λ e. h (ap (λ (r : OutRow). r.script) is ∙ e)) in
      let none = and_left (x.script == script) (is_unspent x.state) apart in
      rw none refl

  pub coin_gone : (row.state ≡ out.Unspent → ⊥) → own_coin script s t i x ≡ []
  coin_gone h =
      let gone = gone_is x.state (λ e. h (ap (λ (r : OutRow). r.state) is ∙ e)) in
      let none = and_right (x.script == script) (is_unspent x.state) gone in
      rw none refl

  pub coin_here : row.script ≡ script → row.state ≡ out.Unspent
      → own_coin script s t i x ≡ record { outpoint = record { txid = t.txid; index = i }; value = row.value; script = s; height = t.height } ∷ []
  coin_here own unspent =
      let here = eq-eqb x.script script (sym (ap (λ (r : OutRow). r.script) is) ∙ own) in
      let live = unspent_is x.state (sym (ap (λ (r : OutRow). r.state) is) ∙ unspent) in
      rw (here, live) (ap (λ (v : ℕ). record { outpoint = record { txid = t.txid; index = i }; value = v; script = s; height = t.height } ∷ []) (sym (ap (λ (r : OutRow). r.value) is)))

-- how many outputs of the transaction are there
pub outs_long : (t : ListedTx) (outs : List ListedOut) → length (outs_of_tx t outs) ≡ min t.outs (length outs - t.first_out)
outs_long t outs = length-take t.outs (drop t.first_out outs) ∙ ap (λ (n : ℕ). min t.outs n) (length-drop t.first_out outs)

-- the output with that index
pub out_at : (t : ListedTx) (outs : List ListedOut) (i : ℕ) → i < t.outs → get_or (outs_of_tx t outs) i no_out ≡ get_or outs (t.first_out + i) no_out
out_at t outs i lt = get_or-take t.outs (drop t.first_out outs) i no_out lt ∙ get_or-drop t.first_out outs i no_out

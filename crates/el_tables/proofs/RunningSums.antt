-- What the steps do to the sum of all unspent outputs.
use Rattle.std.proofs.Common.{◌≡◌, ℕ, ◌+◌, true, [], ◌∷◌, ◌++◌, get_or, take, Option, None, Some, refl, ap, ◌∙◌, arith}
use Rattle.el_tables.specs.Lists.{Lists, unspent_at, with_state, unspent_sum, output_number, txid_at, spend_output, bury, replaced, add_output}
use Rattle.el_tables.specs.Lists.State.{Spent, Buried}
use Rattle.el_tables.specs.Edits.{no_out, new_out}
use Rattle.el_tables.proofs.Sums.{all_less, all_more}
use Rattle.el_tables.proofs.OutEdits.{value_is, is_there}

pub spent_less : (l : Lists) (by k : ℕ) → unspent_at k l.outs ≡ true
    → unspent_sum (spend_output by k l).outs + (get_or l.outs k no_out).value ≡ unspent_sum l.outs
spent_less l by k there =
    let less = all_less (Spent by) k l.outs refl there in
    let value = value_is k l.outs in
    omega arith

pub alone_more : (l : Lists) (tx index value script : ℕ) → replaced tx index l ≡ None
    → unspent_sum (add_output tx index value script l).outs ≡ unspent_sum l.outs + value
alone_more l tx index value script none =
    ap (λ (r : Option ℕ). unspent_sum (bury tx r l.outs ++ new_out tx value script ∷ [])) none
    ∙ all_more l.outs (new_out tx value script) refl

pub buries_more : (l : Lists) (tx index value script k : ℕ) → replaced tx index l ≡ Some k
    → unspent_sum (add_output tx index value script l).outs + (get_or l.outs k no_out).value ≡ unspent_sum l.outs + value
buries_more l tx index value script k some =
    let there = is_there l.outs (output_number (record { txid = txid_at tx l.txs; index = index }) (take tx l.txs)) k some in
    let less = all_less (Buried tx) k l.outs refl there in
    let held = value_is k l.outs in
    let more = all_more (with_state (Buried tx) k l.outs) (new_out tx value script) refl in
    let is : unspent_sum (add_output tx index value script l).outs ≡ unspent_sum (with_state (Buried tx) k l.outs ++ new_out tx value script ∷ []) =
    ap (λ (r : Option ℕ). unspent_sum (bury tx r l.outs ++ new_out tx value script ∷ [])) some in
    omega arith

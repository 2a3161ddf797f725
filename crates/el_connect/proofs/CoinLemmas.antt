-- What a coin holds, as a look-up finds it.
use Rattle.std.proofs.Common.{◌≡◌, ◌≢◌, ℕ, take, Option, None, Some, option_and_then, refl, ap, sym, ◌∙◌}
use Rattle.el_base.specs.declared.hash.Hash32.{Hash32}
use Rattle.el_tx.specs.declared.types.Outpoint.{Outpoint}
use Rattle.el_row_formats.specs.declared.out_row.OutRow.{OutRow}
use Rattle.el_row_formats.specs.declared.out_row.State.{State}
use Rattle.el_row_formats.specs.declared.out_row.State.TheVariants as out
use Rattle.el_schema.specs.Rows.{out_fields}
use Rattle.el_tables.specs.Edits.{no_out}
use Rattle.el_tables.specs.Lists.{Lists, output_number, coin_number, if_unspent, replaced, newest_tx}
use Rattle.el_tables.proofs.Found.{none_named}
use Rattle.el_spend.specs.Outputs.{named_among}
use Rattle.el_spend.specs.declared.lookup.NamedOutput.{NamedOutput}
use Rattle.el_spend.proofs.Found.{coin_here, coin_gone_here, coin_nowhere, coin_number_is, coin_number_none}
use Rattle.el_schema.proofs.Rows.{found_at}
use Rattle.el_connect.specs.declared.outputs.Maker.{Maker}
use Rattle.el_connect.specs.within.Parts.{output_amount, coin_amount, IsMaker}

-- an output that was found
pub found_value : (o : Outpoint) (n : ℕ) (l : Lists) (x : NamedOutput) (v : ℕ) → Some x ≡ named_among o n l
    → (x.row.state ≡ out.Unspent → v ≡ x.row.value) → (x.row.state ≢ out.Unspent → v ≡ 0) → v ≡ coin_amount o n l
found_value o n l x v found held gone = by x.row.state refl
  where
    gives : (r : Option ℕ) → coin_number o (take n l.txs) l.outs ≡ r → output_amount r l.outs ≡ coin_amount o n l
    gives r is = ap (λ (q : Option ℕ). output_amount q l.outs) (sym is)

    none : x.row.state ≢ out.Unspent → v ≡ coin_amount o n l
    none isnt =
        gone isnt ∙ gives None (coin_number_none l.outs (output_number o (take n l.txs)) (coin_gone_here l.outs (output_number o (take n l.txs)) x found isnt))

    by : (s : State) → x.row.state ≡ s → v ≡ coin_amount o n l
    by out.Unspent is =
        let coin = coin_number_is l.outs (output_number o (take n l.txs)) x (coin_here l.outs (output_number o (take n l.txs)) x found is) in
        held is ∙ ap (λ (r : OutRow). r.value) (found_at out_fields l.outs x.number no_out x.row coin.1) ∙ gives (Some x.number) coin.0
    by (out.Spent k) is = none (λ same. wrong (sym is ∙ same))
      where
        wrong : out.Spent k ≡ out.Unspent → ⊥
        wrong e = cc
    by (out.Buried k) is = none (λ same. wrong (sym is ∙ same))
      where
        wrong : out.Buried k ≡ out.Unspent → ⊥
        wrong e = cc

-- where none was found
pub none_found : (o : Outpoint) (n : ℕ) (l : Lists) → None ≡ named_among o n l → 0 ≡ coin_amount o n l
none_found o n l found =
    ap (λ (q : Option ℕ). output_amount q l.outs) (sym (coin_number_none l.outs (output_number o (take n l.txs)) (coin_nowhere l.outs (output_number o (take n l.txs)) found)))

-- where no transaction before has the txid
pub none_older : (o : Outpoint) (n : ℕ) (l : Lists) → newest_tx o.txid (take n l.txs) ≡ None → 0 ≡ coin_amount o n l
none_older o n l none =
    ap (λ (q : Option ℕ). output_amount (option_and_then (if_unspent l.outs) q) l.outs) (sym (none_named o (take n l.txs) none))

-- the coin that an output replaces is that of its outpoint
pub replaced_value : (m : Maker) (index : ℕ) (l : Lists) → IsMaker m l
    → coin_amount (record { txid = m.txid; index = index }) m.number l ≡ output_amount (replaced m.number index l) l.outs
replaced_value m index l is =
    ap (λ (h : Hash32). coin_amount (record { txid = h; index = index }) m.number l) (sym is.txid)

use Rattle.std.proofs.Common.{◌≡◌, ◌≤◌, None, Err, get_or, length, ap, arith, sym, subst}
use Rattle.std.proofs.lemmas.Result.{IfOk-weaker, err_from_is_err_and}
use Rattle.el_base.specs.declared.hash.Hash32.{Hash32}
use Rattle.el_chain.proofs.CoinSteps.{err_passed}
use Rattle.el_chain.specs.Chains.{zero_hash}
use Rattle.el_chain.specs.declared.fault.ConnectFault.{ConnectFault}
use Rattle.el_row_formats.specs.Tables as held
use Rattle.el_rows.specs.Transaction.{with_edits}
use Rattle.el_row_formats.specs.declared.table.Table.TheVariants as table
use Rattle.el_tables.specs.Connecting.{script_of_output}
use Rattle.el_tables.specs.Lists.{add_entry}
use Rattle.el_schema.specs.Rows.{Hold}
use Rattle.el_script.specs.Touches.{touch_full}
use Rattle.el_connect.specs.within.Parts.{HasRoomFor, Reached}
use Rattle.el_connect.proofs.TouchLemmas.{coin_refused, entered, hash_named, hash_past, number_refused, room_touched}
use Rattle.el_connect.proofs.inputs.touch_coin.Goals as goal

pub returns-then-script-count-clause-touched : goal.returns-then-script-count-clause-touched
returns-then-script-count-clause-touched g c counts bs l sum told reached =
    let by = c.args.by in
    let shown = with_edits {G = g.R.Rows} c.args.t.now in
    let after = with_edits {G = g.R.Rows} c.touch_number.new.t in
    let s = get_or l.scripts c.in_ok-script.script zero_hash in
    let hash = hash_named l (get_or l.ins c.args.n 0) c.in_ok-script.script (c.in_ok-script.ensures.script counts bs l told reached.hold) in
    let hold = subst (λ (T : held.Tables). Hold counts bs l T) (sym c.coin_script.ensures.read.tables) reached.hold in
    IfOk-weaker c.touch_number.result (λ x. Hold counts bs (add_entry s by l) after) (λ x. Reached counts bs (add_entry (script_of_output (get_or l.ins c.args.n 0) l) by l) after sum)
    (λ x held. subst (λ (h : Hash32). Reached counts bs (add_entry h by l) after sum) hash (entered counts bs l shown after sum s by reached held))
    (c.touch_number.ensures.lists counts bs l told hold reached.fits)

pub returns-then-script-count-clause-room : goal.returns-then-script-count-clause-room
returns-then-script-count-clause-room g c counts bs l sum k told reached room =
    let by = c.args.by in
    let s = get_or l.scripts c.in_ok-script.script zero_hash in
    let hash = hash_named l (get_or l.ins c.args.n 0) c.in_ok-script.script (c.in_ok-script.ensures.script counts bs l told reached.hold) in
    let hold = subst (λ (T : held.Tables). Hold counts bs l T) (sym c.coin_script.ensures.read.tables) reached.hold in
    IfOk-weaker c.touch_number.result (λ x. touch_full s by l ≡ None) (λ x. HasRoomFor (add_entry (script_of_output (get_or l.ins c.args.n 0) l) by l) 0 k)
    (λ x none. subst (λ (h : Hash32). HasRoomFor (add_entry h by l) 0 k) hash (room_touched s by k l room none))
    (c.touch_number.ensures.room counts bs l told hold reached.fits)

pub returns-then-script-count-clause-refused : goal.returns-then-script-count-clause-refused
returns-then-script-count-clause-refused g c counts bs l sum told reached few =
    let rows = with_edits {G = g.R.Rows} c.coin_script.new.t in
    let s = get_or l.scripts c.in_ok-script.script zero_hash in
    let hash = hash_named l (get_or l.ins c.args.n 0) c.in_ok-script.script (c.in_ok-script.ensures.script counts bs l told reached.hold) in
    let hold = subst (λ (T : held.Tables). Hold counts bs l T) (sym c.coin_script.ensures.read.tables) reached.hold in
    number_refused c.touch_number.result s (script_of_output (get_or l.ins c.args.n 0) l) c.args.by (length (rows table.Entries)) l hash few
    (c.touch_number.ensures.full counts bs l told hold reached.fits) c.touch_number.ensures.fault

pub returns-in_err-touch-clause-refused : goal.returns-in_err-touch-clause-refused
returns-in_err-touch-clause-refused g c counts bs l sum told reached few =
    let e = c.in_err-touch.field-0.0 in
    let rows = with_edits {G = g.R.Rows} c.coin_script.new.t in
    let hold = subst (λ (T : held.Tables). Hold counts bs l T) (sym c.coin_script.ensures.read.tables) reached.hold in
    let past : length (rows table.Scripts) ≤ c.in_ok-script.script = omega (arith, c.count.ensures.count, c.if-script-count.false) in
    let hash = hash_past counts bs l rows (get_or l.ins c.args.n 0) c.in_ok-script.script hold past (c.in_ok-script.ensures.script counts bs l told reached.hold) in
    err_passed c.from_residual-in_err-touch.result _ e (err_from_is_err_and c.from_residual-in_err-touch.result c.from_residual-in_err-touch.ensures.1)
    (coin_refused zero_hash (script_of_output (get_or l.ins c.args.n 0) l) c.args.by (length (rows table.Scripts)) (length (rows table.Entries)) l e hash few
    (λ t rows is. c.in_err-touch.ensures.full counts bs l told hold reached.fits reached.script_heads t rows (ap (λ (f : ConnectFault). Err f) is))
    c.in_err-touch.ensures.fault)

pub returns-clause-touched : goal.returns-clause-touched
returns-clause-touched g c counts bs l sum told reached =
    let rows = with_edits {G = g.R.Rows} c.coin_script.new.t in
    let hold = subst (λ (T : held.Tables). Hold counts bs l T) (sym c.coin_script.ensures.read.tables) reached.hold in
    let past : length (rows table.Scripts) ≤ c.in_ok-script.script = omega (arith, c.count.ensures.count, c.if-script-count.false) in
    let hash = hash_past counts bs l rows (get_or l.ins c.args.n 0) c.in_ok-script.script hold past (c.in_ok-script.ensures.script counts bs l told reached.hold) in
    subst (λ (h : Hash32). Reached counts bs (add_entry h c.args.by l) (with_edits {G = g.R.Rows} c.touch.new.t) sum) hash
    (entered counts bs l (with_edits {G = g.R.Rows} c.args.t.now) (with_edits {G = g.R.Rows} c.touch.new.t) sum zero_hash c.args.by reached
    (c.in_ok-touch.ensures.lists counts bs l told hold reached.fits reached.script_heads))

pub returns-clause-room : goal.returns-clause-room
returns-clause-room g c counts bs l sum k told reached room =
    let rows = with_edits {G = g.R.Rows} c.coin_script.new.t in
    let hold = subst (λ (T : held.Tables). Hold counts bs l T) (sym c.coin_script.ensures.read.tables) reached.hold in
    let past : length (rows table.Scripts) ≤ c.in_ok-script.script = omega (arith, c.count.ensures.count, c.if-script-count.false) in
    let hash = hash_past counts bs l rows (get_or l.ins c.args.n 0) c.in_ok-script.script hold past (c.in_ok-script.ensures.script counts bs l told reached.hold) in
    subst (λ (h : Hash32). HasRoomFor (add_entry h c.args.by l) 0 k) hash
    (room_touched zero_hash c.args.by k l room (c.in_ok-touch.ensures.room counts bs l told hold reached.fits reached.script_heads))

use Rattle.std.proofs.Common.{rules, List, ◌≡◌, ◌∙◌, ◌+◌, ℕ, Err, None, Some, [], ◌∷◌, sym, ap, subst, length, length-append, arith}
use Rattle.el_base.specs.declared.hash.Hash32.{Hash32}
use Rattle.el_chain.specs.declared.fault.ConnectFault.{ConnectFault}
use Rattle.el_chain.specs.declared.fault.ConnectFault.TheVariants as connect
use Rattle.el_row_formats.specs.Tables.{Tables}
use Rattle.el_rows.specs.Transaction.{with_edits}
use Rattle.el_row_formats.specs.declared.table.Table.TheVariants as table
use Rattle.el_tables.specs.Lists.{add_entry}
use Rattle.el_tables.proofs.Scripts.{number_next}
use Rattle.el_schema.specs.Rows.{Hold}
use Rattle.el_script.specs.Touches.{touch_full}
use Rattle.el_script.specs.within.RowSteps.{ScriptMore, ThreeStay, IsScriptFault}
use Rattle.el_script.proofs.ScriptSteps.{script_grows, many_scripts}
use Rattle.el_script.proofs.Causes.{newest_hash, newest_none, newest_some, room_left, full_new}
use Rattle.el_script.proofs.touching.touch.Goals as goal

pub returns-in_ok-add_script-in-None-clause-lists : goal.returns-in_ok-add_script-in-None-clause-lists
returns-in_ok-add_script-in-None-clause-lists g c counts bs l told hold fits some =
    let shown = with_edits {G = g.R.Rows} c.args.t.now in
    let after = with_edits {G = g.R.Rows} c.add_script.new.t in
    let same = c.find.ensures.read.tables in
    let s = c.args.s.now in
    let next = c.in-Ok.found.head in
    let fresh = newest_none s l.scripts fits.numbered.once (sym (c.in-Ok.ensures.newest counts bs l told hold some) ∙ c.in-None.is) in
    let more = subst (λ (T : Tables). ScriptMore s next c.args.tx T after) same c.in_ok-add_script-in-None.ensures.added in
    let others = subst (λ (T : Tables). ThreeStay T after) same c.add_script.ensures.others in
    script_grows counts bs l shown hold after others s next c.args.tx fits some fresh more (c.in-Ok.ensures.head counts bs l told hold some)

pub returns-in_ok-add_script-in-None-clause-number : goal.returns-in_ok-add_script-in-None-clause-number
returns-in_ok-add_script-in-None-clause-number g c counts bs l told hold fits some =
    let shown = with_edits {G = g.R.Rows} c.args.t.now in
    let s = c.args.s.now in
    let fresh = newest_none s l.scripts fits.numbered.once (sym (c.in-Ok.ensures.newest counts bs l told hold some) ∙ c.in-None.is) in
    c.count-count.ensures.count ∙ ap (λ (T : Tables). length (T table.Scripts)) c.find.ensures.read.tables ∙ many_scripts counts bs l shown hold ∙ sym (number_next s l.scripts fresh)

pub returns-in_ok-add_script-in-None-clause-room : goal.returns-in_ok-add_script-in-None-clause-room
returns-in_ok-add_script-in-None-clause-room g c counts bs l told hold fits some =
    let after = with_edits {G = g.R.Rows} c.add_script.new.t in
    let before = with_edits {G = g.R.Rows} c.find.new.t in
    let more = c.in_ok-add_script-in-None.ensures.added in
    let few_scripts = more.few_scripts in
    let few_entries = more.few_entries in
    let scripts : length (after table.Scripts) ≡ length (before table.Scripts) + 1 = ap (λ (rows : List (List ℕ)). length rows) more.scripts ∙ length-append (before table.Scripts) (_ ∷ []) in
    let entries : length (after table.Entries) ≡ length (before table.Entries) + 1 = ap (λ (rows : List (List ℕ)). length rows) more.entries ∙ length-append (before table.Entries) (_ ∷ []) in
    room_left counts bs c.args.s.now c.args.tx l after (returns-in_ok-add_script-in-None-clause-lists g c counts bs l told hold fits some) (omega arith) (omega arith)

pub returns-in_ok-touch_number-in-Some-clause-lists : goal.returns-in_ok-touch_number-in-Some-clause-lists
returns-in_ok-touch_number-in-Some-clause-lists g c counts bs l told hold fits some =
    let hash = newest_hash c.args.s.now l.scripts c.in-Some.script fits.numbered.once (sym (c.in-Ok.ensures.newest counts bs l told hold some) ∙ c.in-Some.is) in
    let before = subst (λ (T : Tables). Hold counts bs l T) (sym c.find.ensures.read.tables) hold in
    subst (λ (h : Hash32). Hold counts bs (add_entry h c.args.tx l) (with_edits {G = g.R.Rows} c.touch_number.new.t)) hash (c.in_ok-touch_number-in-Some.ensures.lists counts bs l told before fits)

pub returns-in_ok-touch_number-in-Some-clause-number : goal.returns-in_ok-touch_number-in-Some-clause-number
returns-in_ok-touch_number-in-Some-clause-number g c counts bs l told hold fits some =
    (newest_some c.args.s.now l.scripts c.in-Some.script fits.numbered.once (sym (c.in-Ok.ensures.newest counts bs l told hold some) ∙ c.in-Some.is)).1

pub returns-in_ok-touch_number-in-Some-clause-room : goal.returns-in_ok-touch_number-in-Some-clause-room
returns-in_ok-touch_number-in-Some-clause-room g c counts bs l told hold fits some =
    let hash = newest_hash c.args.s.now l.scripts c.in-Some.script fits.numbered.once (sym (c.in-Ok.ensures.newest counts bs l told hold some) ∙ c.in-Some.is) in
    let before = subst (λ (T : Tables). Hold counts bs l T) (sym c.find.ensures.read.tables) hold in
    subst (λ (h : Hash32). touch_full h c.args.tx l ≡ None) hash (c.in_ok-touch_number-in-Some.ensures.room counts bs l told before fits)

pub returns-in_err-add_script-in-None-clause-full : goal.returns-in_err-add_script-in-None-clause-full
returns-in_err-add_script-in-None-clause-full g c counts bs l told hold fits some t rows is =
    let shown = with_edits {G = g.R.Rows} c.args.t.now in
    let e = c.in_err-add_script-in-None.field-0.0 in
    let e_is : e ≡ connect.Full t rows = search (rules, is) in
    let s = c.args.s.now in
    let fresh = newest_none s l.scripts fits.numbered.once (sym (c.in-Ok.ensures.newest counts bs l told hold some) ∙ c.in-None.is) in
    full_new counts bs s c.args.tx l shown e t rows hold fits fresh (subst (λ (T : Tables). IsScriptFault T e) c.find.ensures.read.tables c.in_err-add_script-in-None.ensures.fault) e_is

pub returns-in_err-touch_number-in-Some-clause-full : goal.returns-in_err-touch_number-in-Some-clause-full
returns-in_err-touch_number-in-Some-clause-full g c counts bs l told hold fits some t rows is =
    let e = c.in_err-touch_number-in-Some.field-0.0 in
    let e_is : e ≡ connect.Full t rows = search (rules, is) in
    let hash = newest_hash c.args.s.now l.scripts c.in-Some.script fits.numbered.once (sym (c.in-Ok.ensures.newest counts bs l told hold some) ∙ c.in-Some.is) in
    let before = subst (λ (T : Tables). Hold counts bs l T) (sym c.find.ensures.read.tables) hold in
    subst (λ (h : Hash32). touch_full h c.args.tx l ≡ Some (connect.Full t rows)) hash
    (c.in_err-touch_number-in-Some.ensures.full counts bs l told before fits t rows (ap (λ (f : ConnectFault). Err f) e_is))

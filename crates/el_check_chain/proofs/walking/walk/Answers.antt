use Rattle.std.proofs.Common.{◌∷◌, List, ℕ, Option, [], refl, ap, ◌∙◌}
use Rattle.std.proofs.lemmas.Result.{err_from_is_err_and}
use Rattle.std.specs.Prelude.{unwrap_or, length}
use Rattle.el_fakes.specs.Archives.{SteadyFiles}
use Rattle.el_side.specs.Beneath.{ghosts}
use Rattle.el_side.specs.declared.holdings.Holdings.{Holdings}
use Rattle.el_check_chain.specs.Checked.{steady}
use Rattle.el_check_chain.proofs.Counting.{height_counted}
use Rattle.el_check_chain.proofs.WayLemmas.{counts_on, starts}
use Rattle.el_check_chain.proofs.Walks.{has_walked}
use Rattle.el_check_chain.proofs.walking.walk.Goals as goal

pub returns-clause-walked : goal.returns-clause-walked
returns-clause-walked g c = λ stood.
    let scan = c.in_ok-tree.ensures.scanned tt in
    let held : Holdings = record { tree = c.in_ok-tree.tree; magic = c.magic-magic.result; pool = c.new-pool.result; fees = c.new-fees.result } in
    let begun = starts (ghosts g.G.Ledger steady) c.args.ledger.now c.scanned_tree.new.archive [] held c.new-caches.result stood (c.new-caches.ensures [])
    c.new-pool.ensures.entries c.new-fees.ensures c.new-pool.ensures.limits in
    has_walked g.G.Ledger c.args.count c.in_ok-archive.archive c.scanned_tree.new.archive c.lead_all.new.archive
    c.magic-magic.result c.in_ok-tree.tree scan.0
    (record { first = c.in_ok-file.field-0.first_tip; other = c.in_ok-file.field-0.side_tip })
    c.args.ledger.now c.lead_all.new.ledger c.asked_balance.new.ledger c.in_ok-moves.moves _
    (ap (λ (a : SteadyFiles). a.files) c.in_ok-archive.ensures ∙ ap (λ (f : List ℕ). f ∷ []) c.in_ok-file.ensures.file)
    c.magic-magic.ensures c.in_ok-file.ensures.first c.in_ok-file.ensures.side (c.in_ok-tree.ensures.keeps tt) scan.1 scan.2
    (c.in_ok-moves.ensures.led _ begun) c.in_ok-balance.ensures.asked refl
    (c.len-bytes.ensures ∙ ap (λ (f : List ℕ). length f) c.in_ok-file.ensures.file)
    (λ chain s. c.unwrap_or.ensures ∙ ap (λ (h : Option ℕ). unwrap_or h 0)
    (c.height.ensures ∙ g.met.G.Ledger.height_is c.asked_balance.new.ledger chain s) ∙ height_counted chain)
    (λ chain s. c.in_ok-balance.ensures.balance chain s)

pub returns-in_err-moves-clause-cause : goal.returns-in_err-moves-clause-cause
returns-in_err-moves-clause-cause g c =
    counts_on _ _ _ c.from_residual-in_err-moves.result c.in_err-moves.field-0.0
    (err_from_is_err_and c.from_residual-in_err-moves.result c.from_residual-in_err-moves.ensures.1)
    refl c.in_err-moves.ensures.cause

pub returns-in_err-balance-clause-cause : goal.returns-in_err-balance-clause-cause
returns-in_err-balance-clause-cause g c =
    counts_on _ _ _ c.from_residual-in_err-balance.result c.in_err-balance.field-0.0
    (err_from_is_err_and c.from_residual-in_err-balance.result c.from_residual-in_err-balance.ensures.1)
    c.in_ok-moves.ensures.cause.uncounted c.in_err-balance.ensures.cause

use Rattle.std.proofs.Common.{◌≡◌, ℕ, List, ◌+◌, ◌-◌, ◌≤◌, length, take, drop, arith, refl, ap, ◌∙◌, rules, inl, inr, length-drop}
use Rattle.std.proofs.lemmas.List.{length-take-le}
use Rattle.el_outside.specs.Seen.{seen}
use Rattle.el_files.specs.Scanning.{IsFoundIn, up_to}
use Rattle.el_files.proofs.Appends.{only_weaker}
use Rattle.el_files.proofs.Heading.{read_in}
use Rattle.el_files.proofs.Walks.{walked_none}
use Rattle.el_files.proofs.Scans.{length_up_to, piece_of, piece_ends}
use Rattle.el_files.proofs.scanning.scan_piece.Goals as goal

pub returns-in_err-count-clause-walked : goal.returns-in_err-count-clause-walked
returns-in_err-count-clause-walked g c = λ t. (0, walked_none _ _ _ _ _, search rules)

pub returns-in_err-passed-clause-walked : goal.returns-in_err-passed-clause-walked
returns-in_err-passed-clause-walked g c = λ t.
    let bytes : List ℕ = seen g.A.Archive c.read_piece.new.archive c.args.file in
    let rest : length (drop c.args.at (up_to c.args.size bytes)) ≡ c.args.size - c.args.at =
    length-drop c.args.at (up_to c.args.size bytes) ∙ ap (λ (n : ℕ). n - c.args.at) (length_up_to c.args.size bytes) in
    let room : c.in_ok-count.count ≤ length c.read_piece.new.buffer = search (rules, arith) in
    let long = length-take-le c.in_ok-count.count c.read_piece.new.buffer room in
    let w = c.in_err-passed.ensures.walked (drop c.args.at (up_to c.args.size bytes)) rest
    (piece_of _ c.read_piece.new.buffer bytes c.in_ok-count.count c.min-wanted.result c.args.at c.args.size refl long (c.in_ok-count.ensures.count t) (omega arith) (c.in_ok-count.ensures.filled t)) in
    (w.0, w.1, search rules)

pub returns-then-count-wanted-clause-walked : goal.returns-then-count-wanted-clause-walked
returns-then-count-wanted-clause-walked g c = λ t.
    let bytes : List ℕ = seen g.A.Archive c.read_piece.new.archive c.args.file in
    let rest : length (drop c.args.at (up_to c.args.size bytes)) ≡ c.args.size - c.args.at =
    length-drop c.args.at (up_to c.args.size bytes) ∙ ap (λ (n : ℕ). n - c.args.at) (length_up_to c.args.size bytes) in
    let room : c.in_ok-count.count ≤ length c.read_piece.new.buffer = search (rules, arith) in
    let long = length-take-le c.in_ok-count.count c.read_piece.new.buffer room in
    let w = c.in_ok-passed.ensures.walked (drop c.args.at (up_to c.args.size bytes)) rest
    (piece_of _ c.read_piece.new.buffer bytes c.in_ok-count.count c.min-wanted.result c.args.at c.args.size refl long (c.in_ok-count.ensures.count t) (omega arith) (c.in_ok-count.ensures.filled t)) in
    let on : c.in_ok-passed.passed ≡ w.0 = w.2 in (
      w.0,
      w.1,
      inr (
        refl,
        piece_ends c.in_ok-count.count c.min-wanted.result c.args.at w.0 bytes (c.in_ok-count.ensures.count t) (omega arith)
            (let far = c.in_ok-passed.ensures.far in omega (arith, far, long, on)),
      ),
    )

pub returns-clause-walked : goal.returns-clause-walked
returns-clause-walked g c = λ t.
    let bytes : List ℕ = seen g.A.Archive c.read_piece.new.archive c.args.file in
    let rest : length (drop c.args.at (up_to c.args.size bytes)) ≡ c.args.size - c.args.at =
    length-drop c.args.at (up_to c.args.size bytes) ∙ ap (λ (n : ℕ). n - c.args.at) (length_up_to c.args.size bytes) in
    let room : c.in_ok-count.count ≤ length c.read_piece.new.buffer = search (rules, arith) in
    let long = length-take-le c.in_ok-count.count c.read_piece.new.buffer room in
    let w = c.in_ok-passed.ensures.walked (drop c.args.at (up_to c.args.size bytes)) rest
    (piece_of _ c.read_piece.new.buffer bytes c.in_ok-count.count c.min-wanted.result c.args.at c.args.size refl long (c.in_ok-count.ensures.count t) (omega arith) (c.in_ok-count.ensures.filled t)) in
    let goes : c.args.at + c.in_ok-passed.passed ≡ c.args.at + w.0 = let e : c.in_ok-passed.passed ≡ w.0 = w.2 in omega arith in
    (w.0, w.1, inl goes)

pub returns-in_err-passed-clause-nodes : goal.returns-in_err-passed-clause-nodes
returns-in_err-passed-clause-nodes g c =
    only_weaker _ (IsFoundIn g.A.Archive.gave c.args.magic c.args.file) _ _
    (read_in g.A.Archive.gave c.args.magic _ _ c.args.file c.args.at c.in_ok-count.ensures.given refl) c.in_err-passed.ensures.nodes

pub returns-then-count-wanted-clause-nodes : goal.returns-then-count-wanted-clause-nodes
returns-then-count-wanted-clause-nodes g c =
    only_weaker _ (IsFoundIn g.A.Archive.gave c.args.magic c.args.file) _ _
    (read_in g.A.Archive.gave c.args.magic _ _ c.args.file c.args.at c.in_ok-count.ensures.given refl) c.in_ok-passed.ensures.nodes

pub returns-clause-nodes : goal.returns-clause-nodes
returns-clause-nodes g c =
    only_weaker _ (IsFoundIn g.A.Archive.gave c.args.magic c.args.file) _ _
    (read_in g.A.Archive.gave c.args.magic _ _ c.args.file c.args.at c.in_ok-count.ensures.given refl) c.in_ok-passed.ensures.nodes

-- One move more, and what a crash then leaves.
use Rattle.std.proofs.Common.{◌≡◌, ◌<◌, ◌+◌, ℕ, List, [], ◌∷◌, ◌++◌, inl, inr, ⊎_elim, Some, get_or, take, length, ap, sym, ◌∙◌, refl, arith, subst, length-append}
use Rattle.std.proofs.lemmas.List.{take_more, get_or_default}
use Rattle.std.proofs.lemmas.Option.{slice_get-get_or}
use Rattle.std.proofs.Common.{◌≤◌, ◌⊎◌, ◌≢◌, drop}
use Rattle.std.specs.Prelude.{Option, None}
use Rattle.el_base.specs.declared.hash.Hash32.{Hash32}
use Rattle.el_base.proofs.Lists.{left_at}
use Rattle.el_chain.specs.Chains.{tip, zero_hash}
use Rattle.el_chain.specs.Moves.{IsPlan, FitsChain, InFlight, IsRefused, StoodAt, shorter, last_hash}
use Rattle.el_chain.specs.declared.node.Node.{Node}
use Rattle.el_laws.specs.Going.{FollowOn, AreMovesOf}
use Rattle.std.proofs.Common.{◌-◌}
use Rattle.el_outside.specs.Moments.{LeavesOnly}
use Rattle.el_outside.specs.declared.archive.Archive as block_files
use Rattle.el_outside.proofs.Moments.{started, joined, weaker}
use Rattle.std.proofs.lemmas.List.{take_all, take-append-le}
use Rattle.el_chain.specs.Chains.{Chain}
use Rattle.el_model.specs.Queries.{height_of, tip_of}
use Rattle.el_model.specs.Keeping.{Either}
use Rattle.el_laws.specs.Going.{Told, MoveLeads, IsSafe, WasSafe, none, at, refused}
use Rattle.el_chain.specs.declared.moves.Plan.{Plan}
use Rattle.el_chain.specs.declared.moves.MoveFault.{MoveFault}
use Rattle.el_laws.specs.declared.going.Mark.{Mark}
use Rattle.el_laws.specs.declared.going.Mark.TheVariants as mark
use Rattle.el_chain.proofs.MoveSteps.{last_any}

module _ {A : Type 0} (of_files : block_files.Ghosts A) (start : Chain) (plans : List Plan) (n : ℕ) (sent : List Mark) (acked : Chain) (p d : Plan) (lt : n < length plans) (is : p ≡ get_or plans n d) (told : Told of_files start (take n plans) sent acked) where
  here : get_or plans n d ∷ [] ≡ p ∷ []
  here = ap (λ (q : Plan). q ∷ []) (sym is)

  one_more : take n plans ++ p ∷ [] ≡ take (n + 1) plans
  one_more = ap (λ (l : List Plan). take n plans ++ l) (sym here) ∙ sym (take_more plans n d lt)

  pub told_at : (next : Chain) (top : Option Hash32) (height : Option ℕ) (more : List Mark) → MoveLeads of_files p acked next → top ≡ tip_of next → height ≡ height_of next → more ≡ sent ++ mark.At top height ∷ [] → Told of_files start (take (n + 1) plans) more next
  told_at next top height more moves is_top is_height is_more =
      rw (is_more, is_top, is_height) (subst (λ (l : List Plan). Told of_files start l (sent ++ mark.At (tip_of next) (height_of next) ∷ []) next) one_more (at (take n plans) sent acked p next told moves))

  pub told_refused : (e : MoveFault) (before after : ℕ → List ℕ) (more : List Mark) → IsRefused (StoodAt of_files before after) acked p e → more ≡ sent ++ mark.Refused e ∷ [] → Told of_files start (take (n + 1) plans) more acked
  told_refused e before after more why is_more = rw is_more (subst (λ (l : List Plan). Told of_files start l (sent ++ mark.Refused e ∷ []) acked) one_more (refused (take n plans) sent acked p e before after told why))

  -- where nothing was sent of the move
  pub safe_in_flight : {C : Type 0} (tells_crash : Type 0) (means : C → Chain → Type 0) (left : C → Type 0) (next : Chain) (same : List Mark) → length sent ≡ n → same ≡ sent → ((next ≡ acked) ⊎ MoveLeads of_files p acked next)
      → (tells_crash → (c : C) → left c → Either means acked next c) → IsSafe of_files tells_crash means left plans start same
  safe_in_flight tells_crash means left next same size is_same flies leaves = rw is_same (record {
    acked = acked;
    flight = next;
    told = rw size told;
    is_flight = rw size (⊎_elim (λ e. inl e) (λ moves. inr (p, slice_get-get_or plans n d lt ∙ ap Some (sym is), moves)) flies);
    leaves = leaves;
  })

  -- where its device failed
  pub failed_flies : {S C : Type 0} (tells_crash : Type 0) (means : C → Chain → Type 0) (moment : S → ℕ) (left_since : S → ℕ → C → Type 0) (old new : S)
      → ((t u : ℕ) (c : C) → t ≤ u → left_since new u c → left_since new t c) → length sent ≡ n
      → (next : Chain) × ((next ≡ acked) ⊎ MoveLeads of_files p acked next) × (tells_crash → LeavesOnly moment left_since old new (Either means acked next))
      → IsSafe of_files tells_crash means (left_since new (moment new)) plans start sent
  failed_flies tells_crash means moment left_since old new earlier size failed =
      safe_in_flight tells_crash means (left_since new (moment new)) failed.0 sent size refl failed.1
      (λ t c left. let run = failed.2 t in run.each c (earlier (moment old) (moment new) c run.later left))

  -- one call more, at whose end perhaps more was sent
  pub ever_more : {S C : Type 0} (means : C → Chain → Type 0) (moment : S → ℕ) (left_since : S → ℕ → C → Type 0) (old mid new : S) (more added : List Mark) (next : Chain)
      → length sent ≡ n → more ≡ sent ++ added → ((next ≡ acked) ⊎ MoveLeads of_files p acked next)
      → LeavesOnly moment left_since old mid (WasSafe of_files means plans start sent) → LeavesOnly moment left_since mid new (Either means acked next)
      → LeavesOnly moment left_since old new (WasSafe of_files means plans start more)
  ever_more means moment left_since old mid new more added next size is_more flies run call =
      let P = WasSafe of_files means plans start more in
      joined moment left_since old mid new P
      (weaker moment left_since old mid (WasSafe of_files means plans start sent) P still run)
      (weaker moment left_since mid new (Either means acked next) P now call)
    where
      front : (k : ℕ) → k ≤ length sent → take k sent ≡ take k more
      front k le = sym (ap (λ (l : List Mark). take k l) is_more ∙ take-append-le k sent added le)

      fewer : length sent ≤ length more
      fewer = let e : length more ≡ length sent + length added = ap length is_more ∙ length-append sent added in omega (arith, e)

      still : (c : _) → WasSafe of_files means plans start sent c → WasSafe of_files means plans start more c
      still c was = (was.0, was.1, was.2, (let e : was.0 ≤ length more = omega (arith, was.3, fewer) in e), rw (← front was.0 was.3) was.4, was.5, was.6)

      now : (c : _) → Either means acked next c → WasSafe of_files means plans start more c
      now c either = (
        n,
        acked,
        next,
        (let e : n ≤ length more = omega (arith, size, fewer) in e),
        rw (← front n (let e : n ≤ length sent = omega (arith, size) in e), take_all n sent (let e : length sent ≤ n = omega (arith, size) in e)) told,
        ⊎_elim (λ e. inl e) (λ moves. inr (p, slice_get-get_or plans n d lt ∙ ap Some (sym is), moves)) flies,
        either,
      )

-- where nothing is in flight
pub safe_at_rest : {A C : Type 0} (of_files : block_files.Ghosts A) (tells_crash : Type 0) (means : C → Chain → Type 0) (left : C → Type 0) (plans : List Plan) (start : Chain) (n : ℕ) (sent same : List Mark) (acked : Chain) → length sent ≡ n → same ≡ sent → Told of_files start (take n plans) sent acked
    → (tells_crash → (c : C) → left c → means c acked) → IsSafe of_files tells_crash means left plans start same
safe_at_rest of_files tells_crash means left plans start n sent same acked size is_same told leaves = rw is_same (record {
  acked = acked;
  flight = acked;
  told = rw size told;
  is_flight = inl refl;
  leaves = λ t c l. inl (leaves t c l);
})

pub none_told : {A : Type 0} (of_files : block_files.Ghosts A) (start : Chain) (sent : List Mark) → sent ≡ [] → Told of_files start [] sent start
none_told of_files start sent is = rw is none

pub one_each_more : (sent more : List Mark) (m : Mark) (n : ℕ) → length sent ≡ n → more ≡ sent ++ m ∷ [] → length more ≡ n + 1
one_each_more sent more m n size is = ap length is ∙ length-append sent (m ∷ []) ∙ ap (λ k. k + 1) size

-- before the first move
pub ever_begins : {A S C : Type 0} (of_files : block_files.Ghosts A) (means : C → Chain → Type 0) (moment : S → ℕ) (left_since : S → ℕ → C → Type 0) (plans : List Plan) (old : S) (start : Chain) (sent : List Mark) → sent ≡ []
    → ((c : C) → left_since old (moment old) c → means c start) → LeavesOnly moment left_since old old (WasSafe of_files means plans start sent)
ever_begins of_files means moment left_since plans old start sent is own = rw is (started moment left_since old (WasSafe of_files means plans start [])
    (λ c left. (0, start, start, omega arith, none, inl refl, inl (own c left))))

-- where a call was refused
pub refused_either : {S C : Type 0} (means : C → Chain → Type 0) (moment : S → ℕ) (left_since : S → ℕ → C → Type 0) (old new : S) (chain : Chain) → LeavesOnly moment left_since old new (λ c. means c chain)
    → LeavesOnly moment left_since old new (Either means chain chain)
refused_either means moment left_since old new chain run = weaker moment left_since old new (λ c. means c chain) (Either means chain chain) (λ c m. inl m) run

-- with nothing to take back the chain is whole
shorter_none : (back : ℕ) (chain : Chain) → back ≡ 0 → shorter back chain ≡ chain
shorter_none back chain h = ap (λ n. take n chain) (let e : length chain - back ≡ length chain = omega (arith, h) in e) ∙ take_all (length chain) chain (omega arith)

-- what the next move is
pub record Follows (stands : Chain → Type 0) (plans : List Plan) (i : ℕ) (p : Plan) : Type 0 where
  pub plan : IsPlan p
  pub fits : (chain : Chain) → stands chain → FitsChain p chain
  pub last : p.forward ≡ [] → drop (i + 1) plans ≡ []
  pub rest : FollowOn (last_hash zero_hash p.forward) (drop (i + 1) plans)

pub follows : (stands : Chain → Type 0) (plans : List Plan) (i : ℕ) (p d : Plan) → AreMovesOf stands (drop i plans) → i < length plans → p ≡ get_or plans i d → Follows stands plans i p
follows stands plans i p d h lt is' =
    let is : p ≡ get_or plans i p = is' ∙ get_or_default plans i d p lt in
    let all = rw (left_at plans i p lt is) at h in
    record { plan = all.0; fits = all.1; last = all.2; rest = all.3 }

-- each chain with a tip has that hash
tip_named : (chain : Chain) (h : Hash32) → tip_of chain ≡ Some h → tip chain ≡ h
tip_named [] h is = absurd (let e : None ≡ Some h = is in cc)
tip_named (b ∷ bs) h is = cc

-- moves that follow on are moves of each chain with that tip
next_moves : (stands : Chain → Type 0) (before : Hash32) (ps : List Plan) → ((chain : Chain) → stands chain → tip_of chain ≡ Some before) → FollowOn before ps → AreMovesOf stands ps
next_moves stands before [] tips h = tt
next_moves stands before (p ∷ ps) tips h = (
  h.0,
  (λ chain stood.
      let none = shorter_none p.back chain h.1 in
      let hash = tip_named chain before (tips chain stood) in
      record { within = omega (arith, h.1); linked = rw (none, hash) h.3 }),
  (λ e. absurd (h.2 e)),
  rw (last_any zero_hash before p.forward h.2) h.4,
)

-- after the next move the others are moves of what it leaves
pub move_on : (old new : Chain → Type 0) (after : Option Hash32) (plans : List Plan) (i : ℕ) (p : Plan) → Follows old plans i p → (p.forward ≢ [] → after ≡ Some (last_hash zero_hash p.forward))
    → ((chain : Chain) → new chain → after ≡ tip_of chain) → AreMovesOf new (drop (i + 1) plans)
move_on old new after plans i p h last tips = by p.forward refl
  where
    by : (ns : List Node) → p.forward ≡ ns → AreMovesOf new (drop (i + 1) plans)
    by [] is = rw (h.last is) tt
    by (n ∷ ns) is =
        let some : p.forward ≢ [] = λ e. (let bad : n ∷ ns ≡ [] = sym is ∙ e in cc) in
        next_moves new (last_hash zero_hash p.forward) (drop (i + 1) plans) (λ chain stood. sym (tips chain stood) ∙ last some) h.rest

-- what a move has in flight, by what the block files have
pub in_flight : {A : Type 0} (of_files : block_files.Ghosts A) (before after : ℕ → List ℕ) (chain : Chain) (p : Plan) (next : Chain) → InFlight (StoodAt of_files before after) chain p next
    → (next ≡ chain) ⊎ MoveLeads of_files p chain next
in_flight of_files before after chain p next h = ⊎_elim (λ e. inl e) (λ m. inr (before, after, m.0, m.1, m.2)) h

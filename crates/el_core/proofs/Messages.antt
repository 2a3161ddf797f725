-- Messages to one client.
use Rattle.std.proofs.Common.{◌≡◌, ℕ, List, [], ◌∷◌, ◌++◌, length, map, refl, ap, ◌∙◌, sym, arith}
use Rattle.el_outside.specs.Trace.{Message}
use Rattle.el_core.specs.Turn.{messages_of}

map_more : {A B : Type 0} (f : A → B) (xs : List A) (x : A) → map f (xs ++ x ∷ []) ≡ map f xs ++ f x ∷ []
map_more f [] x = refl
map_more {A} {B} f (y ∷ ys) x = ap (λ (l : List B). f y ∷ l) (map_more f ys x)

-- texts as messages to the client
abbrev pub to_peer : ℕ → List (List ℕ) → List Message
to_peer p texts = map (λ (t : List ℕ). record { peer = p; text = t }) texts

pub one_more_message : (p : ℕ) (sends : List (ℕ × List ℕ)) (texts : List (List ℕ)) (t : List ℕ) → messages_of sends ≡ to_peer p texts → messages_of (sends ++ (p, t) ∷ []) ≡ to_peer p (texts ++ t ∷ [])
one_more_message p sends texts t same =
    map_more {B = Message} (λ (s : ℕ × List ℕ). record { peer = s.0; text = s.1 }) sends (p, t)
    ∙ ap (λ (ms : List Message). ms ++ record { peer = p; text = t } ∷ []) same
    ∙ sym (map_more {B = Message} (λ (u : List ℕ). record { peer = p; text = u }) texts t)

pub nothing_left : {X : Type 0} (l : List X) → length l ≡ 0 → l ≡ []
nothing_left [] h = refl
nothing_left (x ∷ xs) h = absurd (omega arith)

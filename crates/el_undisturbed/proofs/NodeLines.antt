-- What the node is answered: an answer that tells of no failure is no line that tells of one.
use Rattle.std.proofs.Common.{◌≡◌, ◌≢◌, ℕ, ◌==◌, ◌+◌, ◌*◌, Bool, true, false, not, ◌&&◌, if◌then◌else◌, List, [], ◌∷◌, Option, None, Some, refl, sym, ap, ◌∙◌, true≢false, eq-eqb}
use Rattle.std.specs.Prelude.{option_map}
use Rattle.el_base.specs.declared.hash.Hash32.{Hash32}
use Rattle.el_outside.specs.Trace.{Message}
use Rattle.el_chain.specs.declared.node.Node.{Node}
use Rattle.el_chain.specs.Headers.{is_known, is_second}
use Rattle.el_chain.specs.declared.moves.MoveFault.{MoveFault}
use Rattle.el_chain.specs.declared.moves.MoveFault.TheVariants as stop
use Rattle.el_mempool.specs.declared.fault.PoolFault.{PoolFault}
use Rattle.el_mempool.specs.declared.fault.PoolFault.TheVariants as unkept
use Rattle.el_lines.specs.NodeAnswers.{text_of, at_text, refusal_text, bad_text, bad_refused, block_flaw, connect_flaw, move_refused, pool_refused}
use Rattle.el_lines.specs.declared.node_answer.NodeAnswer.{NodeAnswer}
use Rattle.el_lines.specs.declared.node_answer.NodeAnswer.TheVariants as say
use Rattle.el_lines.specs.declared.node_answer.NodeRefusal.{NodeRefusal}
use Rattle.el_lines.specs.declared.node_answer.NodeRefusal.TheVariants as refusal
use Rattle.el_lines.specs.declared.node_answer.Flaw.{Flaw}
use Rattle.el_side.specs.Side.{found_answer}
use Rattle.el_undisturbed.specs.Undisturbed.{TellsNoFailure}

-- the refusal tells of no failure
abbrev pub IsOwnRefusal : NodeRefusal → Type 0
IsOwnRefusal refusal.Archive = ⊥
IsOwnRefusal (refusal.Changed h) = ⊥
IsOwnRefusal other = Unit {0}

-- the answer tells of no failure
abbrev pub IsOwnAnswer : NodeAnswer → Type 0
IsOwnAnswer (say.Refused why) = IsOwnRefusal why
IsOwnAnswer other = Unit {0}

-- ---- texts

first_byte : List ℕ → ℕ
first_byte [] = 0
first_byte (b ∷ bs) = b

-- what begins the word after `refused `
second_word : List ℕ → ℕ
second_word (a ∷ b ∷ c ∷ d ∷ e ∷ f ∷ g ∷ h ∷ i ∷ j ∷ rest) = i * 1000 + j
second_word other = 0

word : NodeRefusal → ℕ
word refusal.Line = 108105
word refusal.Long = 108111
word refusal.Place = 112108
word (refusal.Genesis h) = 103101
word (refusal.Unknown h) = 117110
word (refusal.Unconnected h) = 117110
word (refusal.Deep n) = 100101
word refusal.Archive = 97114
word (refusal.Changed h) = 99104
word (refusal.Bad h f) = 98097
word refusal.Form = 102111
word refusal.Coinbase = 99111
word (refusal.Confirmed id) = 99111
word (refusal.Known id) = 107110
word (refusal.Missing id index) = 109105
word (refusal.Conflict id) = 99111
word (refusal.Overspends taken given) = 111118
word (refusal.Full count bytes) = 102117
word (refusal.Absent id) = 97098

words : (why : NodeRefusal) → second_word (refusal_text why) ≡ word why
unfolding refusal_text bad_text second_word word
words refusal.Line = refl
words refusal.Long = refl
words refusal.Place = refl
words (refusal.Genesis h) = refl
words (refusal.Unknown h) = refl
words (refusal.Unconnected h) = refl
words (refusal.Deep n) = refl
words refusal.Archive = refl
words (refusal.Changed h) = refl
words (refusal.Bad h f) = refl
words refusal.Form = refl
words refusal.Coinbase = refl
words (refusal.Confirmed id) = refl
words (refusal.Known id) = refl
words (refusal.Missing id index) = refl
words (refusal.Conflict id) = refl
words (refusal.Overspends taken given) = refl
words (refusal.Full count bytes) = refl
words (refusal.Absent id) = refl

-- the words of the two that tell of a failure
abbrev AreOthers : ℕ → Type 0
AreOthers n = ((n == 97114) ≡ false) × ((n == 99104) ≡ false)

other_words : (why : NodeRefusal) → IsOwnRefusal why → AreOthers (word why)
unfolding word
other_words refusal.Line own = (refl, refl)
other_words refusal.Long own = (refl, refl)
other_words refusal.Place own = (refl, refl)
other_words (refusal.Genesis h) own = (refl, refl)
other_words (refusal.Unknown h) own = (refl, refl)
other_words (refusal.Unconnected h) own = (refl, refl)
other_words (refusal.Deep n) own = (refl, refl)
other_words refusal.Archive own = absurd own
other_words (refusal.Changed h) own = absurd own
other_words (refusal.Bad h f) own = (refl, refl)
other_words refusal.Form own = (refl, refl)
other_words refusal.Coinbase own = (refl, refl)
other_words (refusal.Confirmed id) own = (refl, refl)
other_words (refusal.Known id) own = (refl, refl)
other_words (refusal.Missing id index) own = (refl, refl)
other_words (refusal.Conflict id) own = (refl, refl)
other_words (refusal.Overspends taken given) own = (refl, refl)
other_words (refusal.Full count bytes) own = (refl, refl)
other_words (refusal.Absent id) own = (refl, refl)

failed_words : (word refusal.Archive ≡ 97114) × ((h : Hash32) → word (refusal.Changed h) ≡ 99104)
unfolding word
failed_words = (refl, λ h. refl)

refused_begins : (why : NodeRefusal) → first_byte (refusal_text why) ≡ 114
unfolding refusal_text bad_text first_byte
refused_begins refusal.Line = refl
refused_begins refusal.Long = refl
refused_begins refusal.Place = refl
refused_begins (refusal.Genesis h) = refl
refused_begins (refusal.Unknown h) = refl
refused_begins (refusal.Unconnected h) = refl
refused_begins (refusal.Deep n) = refl
refused_begins refusal.Archive = refl
refused_begins (refusal.Changed h) = refl
refused_begins (refusal.Bad h f) = refl
refused_begins refusal.Form = refl
refused_begins refusal.Coinbase = refl
refused_begins (refusal.Confirmed id) = refl
refused_begins (refusal.Known id) = refl
refused_begins (refusal.Missing id index) = refl
refused_begins (refusal.Conflict id) = refl
refused_begins (refusal.Overspends taken given) = refl
refused_begins (refusal.Full count bytes) = refl
refused_begins (refusal.Absent id) = refl

refused_text : (why : NodeRefusal) → text_of (say.Refused why) ≡ refusal_text why
unfolding text_of
refused_text why = refl

block_begins : (h : Hash32) → first_byte (text_of (say.Block h)) ≡ 98
unfolding text_of first_byte
block_begins h = refl

tx_begins : (h : Hash32) → first_byte (text_of (say.Tx h)) ≡ 116
unfolding text_of first_byte
tx_begins h = refl

gone_begins : (h : Hash32) → first_byte (text_of (say.Gone h)) ≡ 103
unfolding text_of first_byte
gone_begins h = refl

at_begins : (h : Option Hash32) (n : Option ℕ) → (first_byte (text_of (say.At h n)) == 114) ≡ false
unfolding text_of at_text first_byte
at_begins (Some h) (Some n) = refl
at_begins (Some h) None = refl
at_begins None n = refl

-- a text that begins with another byte than a refusal
not_refused : (text : List ℕ) (why : NodeRefusal) → (first_byte text == 114) ≡ false → text ≢ text_of (say.Refused why)
not_refused text why differs e =
    let same : first_byte text ≡ 114 = ap first_byte (e ∙ refused_text why) ∙ refused_begins why in
    true≢false (sym (eq-eqb (first_byte text) 114 same) ∙ differs)

-- a refusal with another word
not_with : (why other : NodeRefusal) (n : ℕ) → word other ≡ n → (word why == n) ≡ false → text_of (say.Refused why) ≢ text_of (say.Refused other)
not_with why other n is differs e =
    let same : word why ≡ n = sym (words why) ∙ ap second_word (sym (refused_text why) ∙ e ∙ refused_text other) ∙ words other ∙ is in
    true≢false (sym (eq-eqb (word why) n same) ∙ differs)

-- a line with this text
no_failure : (text : List ℕ) → (text ≢ text_of (say.Refused refusal.Archive)) → ((h : Hash32) → text ≢ text_of (say.Refused (refusal.Changed h)))
    → TellsNoFailure (record { peer = 0; text = text })
no_failure text archive changed = record {
  archive = λ e. archive (ap (λ (m : Message). m.text) e);
  changed = λ h e. changed h (ap (λ (m : Message). m.text) e);
}

begins_otherwise : (text : List ℕ) → (first_byte text == 114) ≡ false → TellsNoFailure (record { peer = 0; text = text })
begins_otherwise text differs = no_failure text (not_refused text refusal.Archive differs) (λ h. not_refused text (refusal.Changed h) differs)

pub own_line : (answer : NodeAnswer) → IsOwnAnswer answer → TellsNoFailure (record { peer = 0; text = text_of answer })
own_line (say.Block h) own = begins_otherwise _ (ap (λ (n : ℕ). n == 114) (block_begins h))
own_line (say.At h n) own = begins_otherwise _ (at_begins h n)
own_line (say.Tx h) own = begins_otherwise _ (ap (λ (n : ℕ). n == 114) (tx_begins h))
own_line (say.Gone h) own = begins_otherwise _ (ap (λ (n : ℕ). n == 114) (gone_begins h))
own_line (say.Refused why) own =
    let others = other_words why own in
    no_failure _ (not_with why refusal.Archive 97114 failed_words.0 others.0) (λ h. not_with why (refusal.Changed h) 99104 (failed_words.1 h) others.1)

-- a message to a client
pub of_client : (m : Message) → m.peer ≢ 0 → TellsNoFailure m
of_client m client = record {
  archive = λ e. client (ap (λ (x : Message). x.peer) e);
  changed = λ h e. client (ap (λ (x : Message). x.peer) e);
}

-- ---- refusals

some_is : {x y : NodeAnswer} → Some x ≡ Some y → y ≡ x
some_is e = cc

of_flaw : (h : Hash32) (found : Option Flaw) (answer : NodeAnswer) → option_map (bad_refused h) found ≡ Some answer → IsOwnAnswer answer
of_flaw h None answer is = absurd cc
of_flaw h (Some f) answer is = rw (some_is is) tt

-- of a move, unless the block files have changed
pub of_move : (e : MoveFault) (answer : NodeAnswer) → move_refused e ≡ Some answer
    → ((wanted : Hash32) (found : Option Hash32) → e ≡ stop.Changed wanted found → ⊥) → IsOwnAnswer answer
of_move (stop.Changed wanted found) answer is same = absurd (same wanted found refl)
of_move (stop.BadBlock h f) answer is same = of_flaw h (block_flaw f) answer is
of_move (stop.Refused h f) answer is same = of_flaw h (connect_flaw f) answer is
of_move stop.DiskFailed answer is same = absurd cc
of_move stop.ArchiveFailed answer is same = absurd cc
of_move stop.Memory answer is same = absurd cc

pub of_pool : (id : Hash32) (e : PoolFault) (answer : NodeAnswer) → pool_refused id e ≡ Some answer → IsOwnAnswer answer
of_pool id unkept.Bad answer is = rw (some_is is) tt
of_pool id unkept.CoinbaseForm answer is = rw (some_is is) tt
of_pool id unkept.Confirmed answer is = rw (some_is is) tt
of_pool id unkept.Known answer is = rw (some_is is) tt
of_pool id (unkept.Missing outpoint) answer is = rw (some_is is) tt
of_pool id (unkept.Conflict outpoint kept) answer is = rw (some_is is) tt
of_pool id (unkept.Overspends taken given) answer is = rw (some_is is) tt
of_pool id (unkept.Full count bytes) answer is = rw (some_is is) tt
of_pool id unkept.DiskFailed answer is = absurd cc
of_pool id unkept.Memory answer is = absurd cc

pub of_found : (known : List Node) (found : Option Node) → IsOwnAnswer (found_answer known found)
of_found known None = tt
of_found known (Some n) = by (not (is_known known n.hash) && is_second known n)
  where
    by : (b : Bool) → IsOwnAnswer (if b then say.Refused (refusal.Genesis n.hash) else say.Block n.hash)
    by true = tt
    by false = tt

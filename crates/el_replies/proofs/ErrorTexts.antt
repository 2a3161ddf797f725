-- The text of a reply with an error.
use Rattle.std.proofs.Common.{◌≡◌, ◌∙◌, sym, ap, subst, ℕ, ◌≤◌, Bool, false, List, [], ◌∷◌, ◌++◌, length, refl}
use Rattle.std.proofs.Common.{append_assoc, arith, to_z, of_z, w64}
use Rattle.std.specs.Prelude.{option_map, OnOk, MatchOption, Option, None, Some, Result, Ok, Err}
use Rattle.std.specs.Fmt.{digits}
use Rattle.serde_json.specs.Data.{Data}
use Rattle.serde_json.specs.Written.{compact_text}
use Rattle.serde_json.proofs.OnLiterals.{serde_json_on_literals}
use Rattle.el_calls.specs.Refusals.{code_of}
use Rattle.el_calls.specs.declared.refusal.Refusal.{Refusal}
use Rattle.el_calls.specs.declared.refusal.Refusal.TheVariants as refusal
use Rattle.el_replies.specs.Envelopes.{reply_value}
use Rattle.el_replies.specs.Batches.{Replies, reply_appended, noted, with_reply, is_closing}
use Rattle.el_replies.specs.LineReplies.{message, message_to, reply_to, says}
use Rattle.el_replies.specs.declared.line.LineReply.{LineReply}
use Rattle.el_replies.specs.within.Errors.{error_start, error_text}

-- pieces that are added one after the other
pub then : (l m n a r : List ℕ) → m ≡ l ++ a → n ≡ m ++ r → n ≡ l ++ (a ++ r)
then l m n a r first next = next ∙ ap (λ (x : List ℕ). x ++ r) first ∙ append_assoc l a r

pub short_start : (r : Refusal) → length (error_start r) ≤ 96
unfolding error_start digits
short_start refusal.Parse = omega arith
short_start refusal.Invalid = omega arith
short_start refusal.UnknownMethod = omega arith
short_start refusal.InvalidParams = omega arith
short_start refusal.BatchTooLarge = omega arith
short_start refusal.NoBlocks = omega arith
short_start refusal.NoSuchHeight = omega arith
short_start refusal.BadCheckpoint = omega arith
short_start refusal.HistoryTooLarge = omega arith
short_start refusal.TooManySubscriptions = omega arith
short_start refusal.VerboseNotServed = omega arith
short_start refusal.NoSuchTransaction = omega arith
short_start refusal.NotInThatBlock = omega arith
short_start refusal.NoSuchPosition = omega arith
short_start refusal.VersionAgreed = omega arith
short_start refusal.VersionNotShared = omega arith
short_start refusal.NotTransaction = omega arith
short_start refusal.CoinbaseNotRelayed = omega arith
short_start refusal.RefusedByRelay = omega arith
short_start refusal.NoRelay = omega arith
short_start refusal.DiskFailed = omega arith
short_start refusal.ArchiveFailed = omega arith
short_start refusal.ArchiveChanged = omega arith
short_start refusal.RelayFailed = omega arith

-- a code has 64 bits
pub same_code : (r : Refusal) → to_z w64 (of_z w64 (code_of r)) ≡ code_of r
same_code refusal.Parse = refl
same_code refusal.Invalid = refl
same_code refusal.UnknownMethod = refl
same_code refusal.InvalidParams = refl
same_code refusal.BatchTooLarge = refl
same_code refusal.NoBlocks = refl
same_code refusal.NoSuchHeight = refl
same_code refusal.BadCheckpoint = refl
same_code refusal.HistoryTooLarge = refl
same_code refusal.TooManySubscriptions = refl
same_code refusal.VerboseNotServed = refl
same_code refusal.NoSuchTransaction = refl
same_code refusal.NotInThatBlock = refl
same_code refusal.NoSuchPosition = refl
same_code refusal.VersionAgreed = refl
same_code refusal.VersionNotShared = refl
same_code refusal.NotTransaction = refl
same_code refusal.CoinbaseNotRelayed = refl
same_code refusal.RefusedByRelay = refl
same_code refusal.NoRelay = refl
same_code refusal.DiskFailed = refl
same_code refusal.ArchiveFailed = refl
same_code refusal.ArchiveChanged = refl
same_code refusal.RelayFailed = refl

-- it is the compact text of the reply
pub error_printed : (id : Data) (r : Refusal) → error_text (compact_text id) r ≡ compact_text (reply_value id (Err r))
unfolding error_start error_text digits serde_json_on_literals
error_printed id refusal.Parse = refl
error_printed id refusal.Invalid = refl
error_printed id refusal.UnknownMethod = refl
error_printed id refusal.InvalidParams = refl
error_printed id refusal.BatchTooLarge = refl
error_printed id refusal.NoBlocks = refl
error_printed id refusal.NoSuchHeight = refl
error_printed id refusal.BadCheckpoint = refl
error_printed id refusal.HistoryTooLarge = refl
error_printed id refusal.TooManySubscriptions = refl
error_printed id refusal.VerboseNotServed = refl
error_printed id refusal.NoSuchTransaction = refl
error_printed id refusal.NotInThatBlock = refl
error_printed id refusal.NoSuchPosition = refl
error_printed id refusal.VersionAgreed = refl
error_printed id refusal.VersionNotShared = refl
error_printed id refusal.NotTransaction = refl
error_printed id refusal.CoinbaseNotRelayed = refl
error_printed id refusal.RefusedByRelay = refl
error_printed id refusal.NoRelay = refl
error_printed id refusal.DiskFailed = refl
error_printed id refusal.ArchiveFailed = refl
error_printed id refusal.ArchiveChanged = refl
error_printed id refusal.RelayFailed = refl

-- what is added to a batch, and the message, are those of the reply
added_error : (id : Option Data) (room : Option (List ℕ)) (r : Refusal) (b c d : Replies)
    → room ≡ option_map compact_text id → c ≡ noted (Err r) b
    → MatchOption room (d ≡ c) (λ i. d ≡ reply_appended (error_text i r) c) → d ≡ with_reply id (Err r) b
added_error None room r b c d is noted_is m = rw is at m ∙ noted_is
added_error (Some id) room r b c d is noted_is m =
    let put : d ≡ reply_appended (error_text (compact_text id) r) c = rw is at m in
    put ∙ ap (λ (text : List ℕ). reply_appended text c) (error_printed id r)
    ∙ ap (reply_appended (compact_text (reply_value id (Err r)))) noted_is

pub with_error : (id : Option Data) (room : Option (List ℕ)) (answered : Result Data Refusal) (r : Refusal)
    (b c d : Replies) → answered ≡ Err r → room ≡ option_map compact_text id → c ≡ noted answered b
    → MatchOption room (d ≡ c) (λ i. d ≡ reply_appended (error_text i r) c) → d ≡ with_reply id answered b
with_error id room answered r b c d e is noted_is m =
    subst (λ (a : Result Data Refusal). d ≡ with_reply id a b) (sym e)
    (added_error id room r b c d is (subst (λ (a : Result Data Refusal). c ≡ noted a b) e noted_is) m)

added_result : (id : Option Data) (found : Data) (b c d : Replies) → c ≡ noted (Ok found) b
    → MatchOption id (d ≡ c) (λ i. d ≡ reply_appended (compact_text (reply_value i (Ok found))) c)
    → d ≡ with_reply id (Ok found) b
added_result None found b c d noted_is m = m ∙ noted_is
added_result (Some id) found b c d noted_is m =
    m ∙ ap (reply_appended (compact_text (reply_value id (Ok found)))) noted_is

pub with_result : {T E : Type 0} (result : Result T E) (id : Option Data) (answered : Result Data Refusal)
    (found : Data) (b c d : Replies) → answered ≡ Ok found → c ≡ noted answered b
    → OnOk result (MatchOption id (d ≡ c) (λ i. d ≡ reply_appended (compact_text (reply_value i (Ok found))) c))
    → OnOk result (d ≡ with_reply id answered b)
with_result (Ok x) id answered found b c d e noted_is m =
    subst (λ (a : Result Data Refusal). d ≡ with_reply id a b) (sym e)
    (added_result id found b c d (subst (λ (a : Result Data Refusal). c ≡ noted a b) e noted_is) m)
with_result (Err x) id answered found b c d e noted_is m = tt

refused_message : (id : Option Data) (room : Option (List ℕ)) (r : Refusal)
    → room ≡ option_map compact_text id
    → option_map (λ (i : List ℕ). error_text i r ++ 10 ∷ []) room ≡ message_to id (Err r)
refused_message None room r is = rw is refl
refused_message (Some id) room r is =
    rw is (ap (λ (text : List ℕ). Some (text ++ 10 ∷ [])) (error_printed id r))

pub error_reply : (id : Option Data) (room : Option (List ℕ)) (answered : Result Data Refusal) (r : Refusal)
    (text : Option (List ℕ)) (closes : Bool) → answered ≡ Err r → room ≡ option_map compact_text id
    → text ≡ option_map (λ (i : List ℕ). error_text i r ++ 10 ∷ []) room → closes ≡ is_closing answered
    → ◌≡◌ {A = LineReply} (record { text = text; closes = closes }) (reply_to id answered)
error_reply id room answered r text closes e is text_is closes_is =
    let said : text ≡ message_to id answered =
    text_is ∙ refused_message id room r is ∙ ap (message_to id) (sym e) in
    rw (said, closes_is) refl

pub says_error : (id : Data) (room : List ℕ) (r : Refusal) (text : Option (List ℕ)) → room ≡ compact_text id
    → text ≡ Some (error_text room r ++ 10 ∷ [])
    → ◌≡◌ {A = LineReply} (record { text = text; closes = false }) (says (message id (Err r)))
says_error id room r text is text_is =
    let said : text ≡ Some (message id (Err r)) =
    text_is ∙ ap (λ (i : List ℕ). Some (error_text i r ++ 10 ∷ [])) is
    ∙ ap (λ (t : List ℕ). Some (t ++ 10 ∷ [])) (error_printed id r) in
    rw said refl

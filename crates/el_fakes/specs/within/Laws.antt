-- Why the devices in memory keep the laws of their traits. No contract speaks of these lemmas.
use Rattle.std.specs.Prelude.{◌≡◌, ℕ, ◌-◌, ◌<◌, ◌≤◌, ◌==◌, if◌then◌else◌, List, [], ◌∷◌, ◌++◌, false, length, take, replicate, IsTrue, refl}
use Rattle.std.specs.List.{list_any}
use Rattle.std.proofs.Common.{ap, arith, ◌∙◌}
use Rattle.std.proofs.lemmas.List.{get_or_past, take_all}
use Rattle.std.proofs.lemmas.Bool.{ne_eqb, le-ltb, or_from, not_from_false, and_from}
use Rattle.el_outside.specs.Trace.{ArrivalWithBytes, opened, brought, closed, quiet, ended, Closing, Trace, opens, leaves, is_new}
use Rattle.el_fakes.specs.Archives.{ArchiveState, file_bytes, bytes_now, size_ahead, padded_size, padding_now}
use Rattle.el_fakes.specs.Greatest.{number, greatest_arrived, greatest_closed, greatest_peer}

-- a file that isn't there has no bytes
pub none_at : (files : List (List ℕ)) (file : ℕ) → length files ≤ file → file_bytes files file ≡ []
none_at files file after = get_or_past files file [] after

-- the front of no bytes is no bytes
none_of_none : (n : ℕ) (xs : List ℕ) → xs ≡ [] → take n xs ≡ []
none_of_none n xs is = ap (take n) is ∙ take_all n [] (omega arith)

-- a file that isn't there has no bytes now
bytes_none : (archive : ArchiveState) (file : ℕ) → length archive.files ≤ file → bytes_now archive file ≡ []
bytes_none archive file after =
    none_of_none _ (file_bytes archive.files file) (none_at archive.files file after)

-- the size of a file that isn't there has no padding in it
pub size_none : (archive : ArchiveState) (file : ℕ) → length archive.files ≤ file
    → padded_size archive file ≡ length (bytes_now archive file)
size_none archive file after =
    ap (λ b. if b then size_ahead archive.calls file archive.rooms (length (bytes_now archive file))
    else length (bytes_now archive file)) (le-ltb file (length archive.files) after)

-- no bytes pad a file that isn't there
pub padding_none : (archive : ArchiveState) (file : ℕ) → length archive.files ≤ file
    → padding_now archive file ≡ []
padding_none archive file after =
    ap (λ n. replicate (n - length (bytes_now archive file)) 0) (size_none archive file after)
    ∙ ap (λ n. replicate n 0)
    (let e : length (bytes_now archive file) - length (bytes_now archive file) ≡ 0 = omega arith in e)

-- nothing is read of a file that isn't there: it has neither bytes nor padding
pub none_now : (archive : ArchiveState) (file : ℕ) → length archive.files ≤ file
    → bytes_now archive file ++ padding_now archive file ≡ []
none_now archive file after =
    ap (λ bytes. bytes ++ padding_now archive file) (bytes_none archive file after)
    ∙ padding_none archive file after

-- the same of block files that have no padding
pub none_after_none : (files : List (List ℕ)) (file : ℕ) → length files ≤ file
    → file_bytes files file ++ [] ≡ []
none_after_none files file after = ap (λ bytes. bytes ++ []) (none_at files file after)

-- a peer with a greater number doesn't come with this arrival
opens_above : (c : ArrivalWithBytes) (p : ℕ) → number c < p → opens p c ≡ false
opens_above (opened q) p above = ne_eqb p q (λ same. omega arith)
opens_above (brought q bytes) p above = refl
opens_above (closed q) p above = refl
opens_above quiet p above = refl
opens_above ended p above = refl

-- a peer with a greater number doesn't leave with this arrival
leaves_above : (c : ArrivalWithBytes) (p : ℕ) → number c < p → leaves p c ≡ false
leaves_above (opened q) p above = refl
leaves_above (brought q bytes) p above = refl
leaves_above (closed q) p above = ne_eqb p q (λ same. omega arith)
leaves_above quiet p above = refl
leaves_above ended p above = refl

-- nobody with a greater number came
pub none_opens : (cs : List ArrivalWithBytes) (p : ℕ)
    → greatest_arrived cs < p → list_any (opens p) cs ≡ false
none_opens [] p above = refl
none_opens (c ∷ cs) p above = or_from _ _ (opens_above c p (omega arith)) (none_opens cs p (omega arith))

-- nobody with a greater number left
pub none_leaves : (cs : List ArrivalWithBytes) (p : ℕ)
    → greatest_arrived cs < p → list_any (leaves p) cs ≡ false
none_leaves [] p above = refl
none_leaves (c ∷ cs) p above = or_from _ _ (leaves_above c p (omega arith)) (none_leaves cs p (omega arith))

-- nobody with a greater number was closed
pub none_closed : (cs : List Closing) (p : ℕ)
    → greatest_closed cs < p → list_any (λ (c : Closing). p == c.peer) cs ≡ false
none_closed [] p above = refl
none_closed (c ∷ cs) p above =
    or_from _ _ (ne_eqb p c.peer (λ same. omega arith)) (none_closed cs p (omega arith))

-- a number above the greatest in the trace is new
pub greatest_is_last : (trace : Trace) (p : ℕ) → greatest_peer trace < p → IsTrue (is_new trace p)
greatest_is_last trace p above =
    and_from _ _ (not_from_false _ (none_opens trace.arrivals p (omega arith)))
    (and_from _ _ (not_from_false _ (none_leaves trace.arrivals p (omega arith)))
    (not_from_false _ (none_closed trace.closings p (omega arith))))

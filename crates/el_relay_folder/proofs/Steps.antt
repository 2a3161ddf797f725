-- Steps of a folder of transactions that wait, one after the other.
use Rattle.std.proofs.Common.{◌≡◌, ⊎_elim, inl, inr, ℕ, ◌+◌, ◌-◌, ◌≤◌, true, false, List, [], ◌∷◌, ◌++◌, length, take, drop, Contains, refl, sym, ap, subst, ◌∙◌, append_assoc, arith, length-take, length-drop}
use Rattle.std.proofs.lemmas.List.{take-take, drop-take, take-append-drop, take_all}
use Rattle.std.proofs.lemmas.List.Elements.{Contains-push}
use Rattle.hex.specs.Hex.{encode_lower}
use Rattle.el_base.specs.declared.hash.Hash32.{Hash32}
use Rattle.el_tx.specs.declared.types.Tx.{Tx}
use Rattle.el_tx.specs.Encoding.{Encodes}
use Rattle.el_tx.specs.Hashing.{txid}
use Rattle.el_relay_folder.specs.Outboxes.{TxFile, Draft, empty_draft, with_more_text, durable, Files, HasFile, PutsNone, PutsOnly, PutsWhole}

-- nothing was done
pub none_same : (a : Files) → PutsNone a a
none_same a = record { put = refl; last = λ file there. there }

-- nothing was put, and then nothing
pub none_then : (a b c : Files) → PutsNone a b → PutsNone b c → PutsNone a c
none_then a b c one two = record { put = two.put ∙ one.put; last = λ file there. two.last file (one.last file there) }

-- nothing was put, not even this
pub only_of_none : (file : TxFile) (a b : Files) → PutsNone a b → PutsOnly file a b
only_of_none file a b none = record { put = inl none.put; last = none.last }

-- nothing was put, and then this
pub none_then_only : (file : TxFile) (a b c : Files) → PutsNone a b → PutsOnly file b c → PutsOnly file a c
none_then_only file a b c one two = record {
  put = ⊎_elim (λ same. inl (same ∙ one.put)) (λ more. inr (more ∙ ap (λ (xs : List TxFile). xs ++ file ∷ []) one.put)) two.put;
  last = λ f there. two.last f (one.last f there);
}

-- a file was written, and then put
pub written_then_put : (d : Draft) (id : Hash32) (text : List ℕ) (a b c e : Files) → d ≡ durable (with_more_text (empty_draft id) text)
    → PutsNone a b → PutsNone b c → (d.is_synced ≡ true → PutsOnly d.file c e) → PutsOnly (record { txid = id; text = text }) a e
written_then_put d id text a b c e is one two only =
    none_then_only (record { txid = id; text = text }) a c e (none_then a b c one two)
    (subst (λ (f : TxFile). PutsOnly f c e) (ap (λ (x : Draft). x.file) is) (only (ap (λ (x : Draft). x.is_synced) is)))

-- this was put, and then nothing
pub only_then_none : (file : TxFile) (a b c : Files) → PutsOnly file a b → PutsNone b c → PutsOnly file a c
only_then_none file a b c one two = record {
  put = ⊎_elim (λ same. inl (two.put ∙ same)) (λ more. inr (two.put ∙ more)) one.put;
  last = λ f there. two.last f (one.last f there);
}

-- a file that was put last is there
pub put_last : (file : TxFile) (before after : List TxFile) → after ≡ before ++ file ∷ [] → HasFile after file.txid
put_last file before after is = (file, subst (λ (xs : List TxFile). Contains xs file) (sym is) (Contains-push before file), refl)

-- what is there stays there
pub has_along : (id : Hash32) (before after : List TxFile) → after ≡ before → HasFile before id → HasFile after id
has_along id before after is there = subst (λ (xs : List TxFile). HasFile xs id) (sym is) there

-- nothing was put, not even what the bytes are
pub whole_of_none : (bytes : List ℕ) (a : Files) → PutsWhole bytes a a
whole_of_none bytes a = record { put = inl refl; last = λ file there. there }

-- what was put is what the bytes are
pub whole_of_only : (bytes : List ℕ) (id : Hash32) (text : List ℕ) (a b : Files)
    → ((t : Tx) × Encodes bytes t × (id ≡ txid t)) → text ≡ encode_lower bytes
    → PutsOnly (record { txid = id; text = text }) a b → PutsWhole bytes a b
whole_of_only bytes id text a b encoded is_text only = record {
  put = ⊎_elim (λ same. inl same)
      (λ more. inr (
        record { txid = id; text = text },
        record { tx = encoded.0; encoded = encoded.1; is_txid = encoded.2; is_text = is_text },
        more,
      )) only.put;
  last = only.last;
}

-- a front and what comes next
grown : (text : List ℕ) (done n : ℕ) → take done text ++ take n (drop done text) ≡ take (done + n) text
grown text done n =
    ap (λ (x : List ℕ). x ++ take n (drop done text)) (sym (take-take done (done + n) text (omega arith)))
    ∙ ap (λ (x : List ℕ). take done (take (done + n) text) ++ x) (sym (drop-take done n text))
    ∙ take-append-drop done (take (done + n) text)

-- A file has a front of the text after what it had: whatever is added to it, it is as if the front and that had
-- been added at once.
abbrev pub HasFront : Draft → Draft → List ℕ → Type 0
HasFront before now front = (t : List ℕ) → with_more_text now t ≡ with_more_text before (front ++ t)

-- what was written of the rest
rest_of : (text : List ℕ) (done n : ℕ) → n ≤ length text - done → take n (take (length text - done) (drop done text)) ≡ take n (drop done text)
rest_of text done n le = take-take n (length text - done) (drop done text) le

-- how much of the text is left
pub length_rest : (done : ℕ) (text : List ℕ) → length (take (length text - done) (drop done text)) ≡ length text - done
length_rest done text = omega (arith, length-take (length text - done) (drop done text), length-drop done text)

-- nothing was written
pub front_kept : (b d e : Draft) (text : List ℕ) (done : ℕ) → e ≡ d → HasFront b d (take done text) → HasFront b e (take done text)
front_kept b d e text done is before t = ap (λ (x : Draft). with_more_text x t) is ∙ before t

-- nothing was written yet
pub front_none : (b : Draft) (text : List ℕ) → HasFront b b (take 0 text)
front_none b text t = refl

-- more of the text was written
pub front_more : (b d e : Draft) (text : List ℕ) (done n : ℕ) → HasFront b d (take done text)
    → n ≤ length text - done → e ≡ with_more_text d (take n (take (length text - done) (drop done text))) → HasFront b e (take (done + n) text)
front_more b d e text done n before le is t =
    let next : List ℕ = take n (drop done text) in
    ap (λ (x : Draft). with_more_text x t) (is ∙ ap (with_more_text d) (rest_of text done n le))
    ∙ ap (λ (x : List ℕ). record { file = record { txid = d.file.txid; text = x }; is_synced = false }) (append_assoc d.file.text next t)
    ∙ before (next ++ t)
    ∙ ap (with_more_text b) (sym (append_assoc (take done text) next t) ∙ ap (λ (x : List ℕ). x ++ t) (grown text done n))

-- the rest of the text was written
pub front_all : (b d e : Draft) (text : List ℕ) (done n : ℕ) → done ≤ length text → HasFront b d (take done text)
    → n ≡ length text - done → e ≡ with_more_text d (take n (take (length text - done) (drop done text))) → e ≡ with_more_text b text
front_all b d e text done n within before all is =
    is ∙ ap (with_more_text d) (rest_of text done n (omega (arith, all)))
    ∙ before (take n (drop done text))
    ∙ ap (with_more_text b) (grown text done n ∙ take_all (done + n) text (omega (arith, all, within)))

-- The words of a proof say one thing, and their texts are read hash by hash.
use Rattle.std.proofs.Common.{◌≡◌, ◌∙◌, ℕ, ◌^◌, ◌<◌, ◌≤◌, ◌==◌, Bool, true, false, not, List, [], ◌∷◌, ◌++◌, length, drop, slice_index_or, reverse, codes, get_or, Result, Ok, Err, refl, sym, ap, ap₂, subst, true≢false, arith, eqb-true, length-append, append_assoc, append-nil}
use Rattle.std.proofs.lemmas.List.{reverse-reverse, nil_from_length}
use Rattle.std.specs.Str.Parse.{digits_value}
use Rattle.std.specs.Prelude.{IfErr, MatchResult, String}
use Rattle.std.specs.Global.{Global}
use Rattle.std.specs.String.{string_bytes}
use Rattle.hex.specs.Hex.{decode_sized}
use Rattle.hex.specs.declared.error.FromHexError.{FromHexError}
use Rattle.hex.proofs.HexLemmas.{decode_of-same, decode_sized-twice}
use Rattle.el_base.specs.Shown.{Shows}
use Rattle.el_base.specs.declared.hash.Hash32.{Hash32}
use Rattle.el_base.proofs.Lists.{same_cut}
use Rattle.el_lines.specs.NodeLines.{ShowsNumber}
use Rattle.el_words.specs.Options.{Word}
use Rattle.el_words.specs.Words.{texts}
use Rattle.el_words.specs.Proofs.{ShowsHeader, ShowsHashes, ShowsBranch, SayProof}
use Rattle.el_words.specs.within.Hashes.{BeginsWithHash, ReadsHashes}
use Rattle.el_words.specs.declared.words.ProofWords.{ProofWords}

-- ---- one thing

hash_one : (text : Word) (a b : Hash32) → Shows text a.0 → Shows text b.0 → a ≡ b
hash_one text a b h k =
    let turned : reverse a.0 ≡ reverse b.0 = decode_of-same text (reverse a.0) (reverse b.0) h.digits k.digits in
    let same : a.0 ≡ b.0 = sym (reverse-reverse a.0) ∙ ap reverse turned ∙ reverse-reverse b.0 in
    same_hash a b same
  where
    same_hash : (x y : Hash32) → x.0 ≡ y.0 → x ≡ y
    same_hash x y e = ap (λ (bytes : List ℕ). record { 0 = bytes }) e

hashes_one : (text : Word) (hs ks : List Hash32) → ShowsHashes text hs → ShowsHashes text ks → hs ≡ ks
hashes_one text [] ks a b = absurd a
hashes_one text (x ∷ hs) [] a b = absurd b
hashes_one text (x ∷ []) (y ∷ []) a b = ap (λ (z : Hash32). z ∷ []) (hash_one text x y a b)
hashes_one text (x ∷ []) (y ∷ z ∷ s) a b =
    let e = ap length b.2 in
    let l = length-append b.0 (44 ∷ b.1) in
    let n = a.size in
    let m = b.3.size in
    absurd (omega (arith, e, l, n, m))
hashes_one text (x ∷ w ∷ r) (y ∷ []) a b =
    let e = ap length a.2 in
    let l = length-append a.0 (44 ∷ a.1) in
    let n = b.size in
    let m = a.3.size in
    absurd (omega (arith, e, l, n, m))
hashes_one text (x ∷ w ∷ r) (y ∷ z ∷ s) a b =
    let cut = same_cut a.0 (44 ∷ a.1) b.0 (44 ∷ b.1) (a.3.size ∙ sym b.3.size) (sym a.2 ∙ b.2) in
    let rests : a.1 ≡ b.1 = ap (λ (l : Word). drop 1 l) cut.1 in
    ap₂ (λ (h : Hash32) (l : List Hash32). h ∷ l) (hash_one b.0 x y (subst (λ (t : Word). Shows t x.0) cut.0 a.3) b.3)
    (hashes_one b.1 (w ∷ r) (z ∷ s) (subst (λ (t : Word). ShowsHashes t (w ∷ r)) rests a.4) b.4)

hashes_long : (text : Word) (hs : List Hash32) → ShowsHashes text hs → 64 ≤ length text
hashes_long text [] a = absurd a
hashes_long text (x ∷ []) a = let n = a.size in omega (arith, n)
hashes_long text (x ∷ w ∷ r) a =
    let e = ap length a.2 in
    let l = length-append a.0 (44 ∷ a.1) in
    let m = a.3.size in
    omega (arith, e, l, m)

-- `-` shows no hash
pub no_hashes : (text : Word) (hs : List Hash32) → text ≡ codes "-" → ShowsHashes text hs → ⊥
no_hashes text hs is a = let long = hashes_long text hs a in let short = ap length is in omega (arith, long, short)

branch_one : (text : Word) (hs ks : List Hash32) → ShowsBranch text hs → ShowsBranch text ks → hs ≡ ks
branch_one text [] [] a b = refl
branch_one text [] (k ∷ ks) a b = absurd (no_hashes text (k ∷ ks) a b.0)
branch_one text (h ∷ hs) [] a b = absurd (no_hashes text (h ∷ hs) b a.0)
branch_one text (h ∷ hs) (k ∷ ks) a b = hashes_one text (h ∷ hs) (k ∷ ks) a.0 b.0

said_are : (h i : List ℕ) (t u : Hash32) (p q : ℕ) (b c : List Hash32) → h ≡ i → t ≡ u → p ≡ q → b ≡ c
    → ◌≡◌ {A = ProofWords} (record { header = h; txid = t; pos = p; branch = b }) (record { header = i; txid = u; pos = q; branch = c })
said_are h i t u p q b c e1 e2 e3 e4 = rw (e1, e2, e3, e4) refl

pub one_proof : (words : List Word) (one other : ProofWords) → SayProof words one → SayProof words other → one ≡ other
one_proof words one other a b =
    let here = a.words_are in
    let there = b.words_are in
    let headers : a.header_text ≡ b.header_text = cc in
    let txids : a.txid_text ≡ b.txid_text = cc in
    let places : a.pos_text ≡ b.pos_text = cc in
    let branches : a.branch_text ≡ b.branch_text = cc in
    said_are one.header other.header one.txid other.txid one.pos other.pos one.branch other.branch
    (decode_of-same b.header_text one.header other.header (subst (λ (t : Word). ShowsHeader t one.header) headers a.header_is).digits b.header_is.digits)
    (hash_one b.txid_text one.txid other.txid (subst (λ (t : Word). Shows t one.txid.0) txids a.txid_is) b.txid_is)
    (a.pos_is.value ∙ ap (digits_value 10) places ∙ sym b.pos_is.value)
    (branch_one b.branch_text one.branch other.branch (subst (λ (t : Word). ShowsBranch t one.branch) branches a.branch_is) b.branch_is)

-- ---- hash by hash

-- a text that shows hashes begins with the first of them
pub begins : (text : Word) (h : Hash32) (hs : List Hash32) → ShowsHashes text (h ∷ hs) → (more : Word) × BeginsWithHash text h more
begins text h [] a = ([], record { first = text; whole = sym (append-nil text); shown = a })
begins text h (k ∷ more) a = (44 ∷ a.1, record { first = a.0; whole = a.2; shown = a.3 })

-- what was read of a text, and what is left of it
pub record IsReading (text : Word) (hashes : List Hash32) (rest : Word) : Type 0 where
  pub back : (more : List Hash32) → ShowsHashes rest more → ShowsHashes text (hashes ++ more)
  pub only : (list : List Hash32) → ShowsHashes text list → (more : List Hash32) × (list ≡ hashes ++ more) × ShowsHashes rest more

pub reading_begins : (text : Word) (hashes : List Hash32) → hashes ≡ [] → IsReading text hashes text
reading_begins text hashes none = record {
  back = λ more shown. rw none shown;
  only = λ list shown. (list, rw none refl, shown);
}

-- the text that is left is a hash and a comma, and then more
pub reading_more : (text rest after more : Word) (hashes new : List Hash32) (hash : Hash32) → IsReading text hashes rest → BeginsWithHash rest hash after → after ≡ 44 ∷ more
    → new ≡ hashes ++ hash ∷ [] → IsReading text new more
reading_more text rest after more hashes new hash reading begun comma push = record {
  back = λ list shown. back list shown;
  only = λ list shown. only list (reading.only list shown);
}
  where
    whole : rest ≡ begun.first ++ 44 ∷ more
    whole = begun.whole ∙ ap (λ (l : Word). begun.first ++ l) comma

    joined : (list : List Hash32) → hashes ++ hash ∷ list ≡ new ++ list
    joined list = sym (append_assoc hashes (hash ∷ []) list) ∙ ap (λ (l : List Hash32). l ++ list) (sym push)

    back : (list : List Hash32) → ShowsHashes more list → ShowsHashes text (new ++ list)
    back [] shown = absurd shown
    back (k ∷ ks) shown = subst (ShowsHashes text) (joined (k ∷ ks)) (reading.back (hash ∷ k ∷ ks) (begun.first, more, whole, begun.shown, shown))

    only : (list : List Hash32) → (left : List Hash32) × (list ≡ hashes ++ left) × ShowsHashes rest left → (left : List Hash32) × (list ≡ new ++ left) × ShowsHashes more left
    only list ([], is, shown) = absurd shown
    only list (x ∷ [], is, shown) =
        let e = ap length whole in
        let l = length-append begun.first (44 ∷ more) in
        let n = shown.size in
        let m = begun.shown.size in
        absurd (omega (arith, e, l, n, m))
    only list (x ∷ y ∷ s, is, shown) =
        let cut = same_cut shown.0 (44 ∷ shown.1) begun.first (44 ∷ more) (shown.3.size ∙ sym begun.shown.size) (sym shown.2 ∙ whole) in
        let rests : shown.1 ≡ more = ap (λ (l : Word). drop 1 l) cut.1 in
        let same : x ≡ hash = hash_one begun.first x hash (subst (λ (t : Word). Shows t x.0) cut.0 shown.3) begun.shown in (
          y ∷ s,
          is ∙ ap (λ (h : Hash32). hashes ++ h ∷ y ∷ s) same ∙ joined (y ∷ s),
          subst (λ (t : Word). ShowsHashes t (y ∷ s)) rests shown.4,
        )

-- it is a hash alone
pub reading_ends : (text rest after : Word) (hashes new : List Hash32) (hash : Hash32) (n : ℕ) → IsReading text hashes rest → BeginsWithHash rest hash after → after ≡ []
    → new ≡ hashes ++ hash ∷ [] → length hashes ≡ n → n < 32 → ReadsHashes text new
reading_ends text rest after hashes new hash n reading begun none push count few =
    let whole : begun.first ≡ rest = sym (append-nil begun.first) ∙ sym (begun.whole ∙ ap (λ (l : Word). begun.first ++ l) none) in
    let l = length-append hashes (hash ∷ []) in
    let e = ap length push in
    record {
      shown = subst (ShowsHashes text) (sym push) (reading.back (hash ∷ []) (subst (λ (t : Word). Shows t hash.0) whole begun.shown));
      few = omega (arith, l, e, count, few);
    }

-- it begins with no hash
pub none_begins : (text rest : Word) (hashes : List Hash32) → IsReading text hashes rest → ((hash : Hash32) (more : Word) → BeginsWithHash rest hash more → ⊥)
    → (list : List Hash32) → ReadsHashes text list → ⊥
none_begins text rest hashes reading none list h = by (reading.only list h.shown)
  where
    by : (more : List Hash32) × (list ≡ hashes ++ more) × ShowsHashes rest more → ⊥
    by ([], is, shown) = absurd shown
    by (x ∷ xs, is, shown) = let b = begins rest x xs shown in none x b.0 b.1

-- after the hash stands something else than a comma
pub none_follows : (text rest after : Word) (hashes : List Hash32) (hash : Hash32) → IsReading text hashes rest → BeginsWithHash rest hash after → (after ≡ [] → ⊥)
    → ((more : Word) → after ≡ 44 ∷ more → ⊥) → (list : List Hash32) → ReadsHashes text list → ⊥
none_follows text rest after hashes hash reading begun some other list h = by (reading.only list h.shown)
  where
    by : (more : List Hash32) × (list ≡ hashes ++ more) × ShowsHashes rest more → ⊥
    by ([], is, shown) = absurd shown
    by (x ∷ [], is, shown) =
        let e = ap length begun.whole in
        let l = length-append begun.first after in
        let n = shown.size in
        let m = begun.shown.size in
        some (nil_from_length after (omega (arith, e, l, n, m)))
    by (x ∷ y ∷ s, is, shown) =
        let cut = same_cut begun.first after shown.0 (44 ∷ shown.1) (begun.shown.size ∙ sym shown.3.size) (sym begun.whole ∙ shown.2) in
        other shown.1 cut.1

-- after 32 hashes and a comma
pub too_many : (text rest : Word) (hashes : List Hash32) → IsReading text hashes rest → 32 ≤ length hashes → (list : List Hash32) → ReadsHashes text list → ⊥
too_many text rest hashes reading many list h = by (reading.only list h.shown)
  where
    by : (more : List Hash32) × (list ≡ hashes ++ more) × ShowsHashes rest more → ⊥
    by ([], is, shown) = absurd shown
    by (x ∷ xs, is, shown) =
        let e = ap length is in
        let l = length-append hashes (x ∷ xs) in
        let few = h.few in
        omega (arith, e, l, few, many)

-- a text that is too short begins with no hash
pub too_short : (text : Word) (hash : Hash32) (more : Word) → length text < 64 → BeginsWithHash text hash more → ⊥
too_short text hash more short b =
    let e = ap length b.whole in
    let l = length-append b.first more in
    let n = b.shown.size in
    omega (arith, e, l, n, short)

-- nor does one whose first 64 bytes show none
pub none_first : (text front back : Word) → text ≡ front ++ back → length front ≡ 64 → ((hash : List ℕ) → Shows front hash → ⊥) → (hash : Hash32) (more : Word) → BeginsWithHash text hash more → ⊥
none_first text front back whole size none hash more b =
    let cut = same_cut b.first more front back (b.shown.size ∙ sym size) (sym b.whole ∙ whole) in
    none hash.0 (subst (λ (t : Word). Shows t hash.0) cut.0 b.shown)

-- ---- branches

pub branch_found : (text : Word) (list : List Hash32) → ReadsHashes text list → ShowsBranch text list
branch_found text [] h = absurd h.shown
branch_found text (x ∷ xs) h = (h.shown, h.few)

pub branch_none : (text : Word) (list : List Hash32) → (text ≡ codes "-" → ⊥) → ((hs : List Hash32) → ReadsHashes text hs → ⊥) → ShowsBranch text list → ⊥
branch_none text [] other none h = other h
branch_none text (x ∷ xs) other none h = none (x ∷ xs) (record { shown = h.0; few = h.1 })

-- ---- headers

-- what 160 hex digits are decoded to
pub header_read : (text header : List ℕ) (r : Result Unit FromHexError) → length text ≡ 160 → MatchResult (decode_sized text 80) (λ bytes. (r ≡ Ok tt) × (header ≡ bytes)) (λ e. r ≡ Err e) → r ≡ Ok tt
    → ShowsHeader text header
header_read text header r size read ok = by (decode_sized text 80) refl read
  where
    by : (d : Result (List ℕ) FromHexError) → decode_sized text 80 ≡ d → MatchResult d (λ bytes. (r ≡ Ok tt) × (header ≡ bytes)) (λ e. r ≡ Err e) → ShowsHeader text header
    by (Ok bytes) e h = record { size = size; digits = sym (decode_sized-twice text 80 size) ∙ e ∙ ap Ok (sym h.1) }
    by (Err fault) e h = absurd (let bad = sym h ∙ ok in cc)

pub header_none : (text header : List ℕ) (r : Result Unit FromHexError) (fault : FromHexError) → length text ≡ 160
    → MatchResult (decode_sized text 80) (λ bytes. (r ≡ Ok tt) × (header ≡ bytes)) (λ e. r ≡ Err e) → r ≡ Err fault → (other : List ℕ) → ShowsHeader text other → ⊥
header_none text header r fault size read bad other shown = by (decode_sized text 80) refl read
  where
    by : (d : Result (List ℕ) FromHexError) → decode_sized text 80 ≡ d → MatchResult d (λ bytes. (r ≡ Ok tt) × (header ≡ bytes)) (λ e. r ≡ Err e) → ⊥
    by (Ok bytes) e h = let no = sym h.0 ∙ bad in cc
    by (Err f) e h = let no = sym e ∙ decode_sized-twice text 80 size ∙ shown.digits in cc

-- ---- words

-- a list of five words
pub five_words : (ws : List (String Global)) (a b c d e : String Global) → 5 ≤ length ws → length ws < 6 → a ≡ get_or ws 0 a → b ≡ get_or ws 1 b → c ≡ get_or ws 2 c → d ≡ get_or ws 3 d
    → e ≡ get_or ws 4 e → texts ws ≡ string_bytes a ∷ string_bytes b ∷ string_bytes c ∷ string_bytes d ∷ string_bytes e ∷ []
five_words [] a b c d e least most ia ib ic id ie = absurd (omega arith)
five_words (v ∷ []) a b c d e least most ia ib ic id ie = absurd (omega arith)
five_words (v ∷ w ∷ []) a b c d e least most ia ib ic id ie = absurd (omega arith)
five_words (v ∷ w ∷ x ∷ []) a b c d e least most ia ib ic id ie = absurd (omega arith)
five_words (v ∷ w ∷ x ∷ y ∷ []) a b c d e least most ia ib ic id ie = absurd (omega arith)
five_words (v ∷ w ∷ x ∷ y ∷ z ∷ []) a b c d e least most ia ib ic id ie = rw (ia, ib, ic, id, ie) refl
five_words (v ∷ w ∷ x ∷ y ∷ z ∷ t ∷ more) a b c d e least most ia ib ic id ie = absurd (omega arith)

pub same_five : (a a' b b' c c' d d' e e' : Word) → a ≡ a' → b ≡ b' → c ≡ c' → d ≡ d' → e ≡ e' → a ∷ b ∷ c ∷ d ∷ e ∷ [] ≡ a' ∷ b' ∷ c' ∷ d' ∷ e' ∷ []
same_five a a' b b' c c' d d' e e' ia ib ic id ie = rw (ia, ib, ic, id, ie) refl

-- what five words say, word by word
pub parts_of : (words : List Word) (a b c d e : Word) (said : ProofWords) → words ≡ a ∷ b ∷ c ∷ d ∷ e ∷ [] → SayProof words said
    → ShowsHeader b said.header × Shows c said.txid.0 × ShowsNumber d 10 (10 ^ 10) said.pos × ShowsBranch e said.branch
parts_of words a b c d e said is h =
    let same = sym h.words_are ∙ is in
    let headers : h.header_text ≡ b = ap (λ (l : List Word). slice_index_or l 1 []) same in
    let txids : h.txid_text ≡ c = ap (λ (l : List Word). slice_index_or l 2 []) same in
    let places : h.pos_text ≡ d = ap (λ (l : List Word). slice_index_or l 3 []) same in
    let branches : h.branch_text ≡ e = ap (λ (l : List Word). slice_index_or l 4 []) same in (
      subst (λ (t : Word). ShowsHeader t said.header) headers h.header_is,
      subst (λ (t : Word). Shows t said.txid.0) txids h.txid_is,
      subst (λ (t : Word). ShowsNumber t 10 (10 ^ 10) said.pos) places h.pos_is,
      subst (λ (t : Word). ShowsBranch t said.branch) branches h.branch_is,
    )

-- a text that isn't empty
pub not_empty : (text : Word) (b : Bool) → b ≡ (length text == 0) → b ≡ false → text ≡ [] → ⊥
not_empty text b is none e = true≢false (sym (is ∙ ap (λ (l : Word). length l == 0) e) ∙ none)

-- one that is
pub is_empty_list : (text : Word) (b : Bool) → b ≡ (length text == 0) → b ≡ true → text ≡ []
is_empty_list text b is some = nil_from_length text (eqb-true (length text) 0 (sym is ∙ some))

-- what is not other is the same
pub not_other : (same other : Bool) → other ≡ not same → other ≡ false → same ≡ true
not_other true other is untrue = refl
not_other false other is untrue = absurd cc

-- whatever the error is
pub any_err : {T E P : Type 0} (r : Result T E) → P → IfErr r (λ e. P)
any_err (Ok x) p = tt
any_err (Err e) p = p

-- Fields at the front of bytes, and headers by their encoding.
use Rattle.std.proofs.Common.{◌≡◌, ℕ, ◌<◌, ◌≤◌, ◌^◌, List, [], ◌++◌, length, take, drop, ℤ, pos, negsuc, ◌≤ℤ◌, ◌<ℤ◌, refl, sym, ap, ◌∙◌, arith, append_assoc, append-nil, take_all, length-append}
use Rattle.std.specs.Prelude.{FitsSigned}
use Rattle.std.specs.Int.{w32, from_le_bytes, to_le_bytes, cast_unsigned, cast_signed}
use Rattle.std.proofs.lemmas.Int.{to_z-of_z, of_z-to_z, ints}
use Rattle.std.proofs.lemmas.Nat.{le_bytes_4, from_le_bytes-to_le_bytes_4}
use Rattle.std.proofs.lemmas.List.{take_at, drop_at, take-append-drop, length-take-le, nil_from_length}
use Rattle.std.proofs.Math.Facts.{Fits-of_z, Fits-lt-pow}
use Rattle.el_base.specs.Left.{AreBytes}
use Rattle.el_base.proofs.ByteLemmas.{front_bytes, below_4, number_again}
use Rattle.el_base.proofs.Lists.{same_cut}
use Rattle.el_tx.specs.Headers.{header_encoding, header_of, number_from, IsHeader}
use Rattle.el_tx.specs.declared.types.Header.{Header}

-- four bytes at the front encode the number that is read from them
pub number_in_front : (bytes : List ℕ) (n : ℕ) → 4 ≤ length bytes → AreBytes bytes → n ≡ from_le_bytes w32 (take 4 bytes)
    → bytes ≡ to_le_bytes w32 n ++ drop 4 bytes
number_in_front bytes n long fits is =
    let text : to_le_bytes w32 n ≡ take 4 bytes = le_bytes_4 (take 4 bytes) n (length-take-le 4 bytes long) (front_bytes 4 bytes fits) is in
    sym (take-append-drop 4 bytes) ∙ ap (λ (t : List ℕ). t ++ drop 4 bytes) (sym text)

-- the same of a number with a sign
pub signed_in_front : (bytes : List ℕ) (z : ℤ) → 4 ≤ length bytes → AreBytes bytes → z ≡ cast_signed w32 (from_le_bytes w32 (take 4 bytes))
    → bytes ≡ to_le_bytes w32 (cast_unsigned w32 (cast_signed w32 (cast_unsigned w32 z))) ++ drop 4 bytes
signed_in_front bytes z long fits is =
    let n = from_le_bytes w32 (take 4 bytes) in
    let below : n < 2 ^ 32 = below_4 (take 4 bytes) (front_bytes 4 bytes fits) in
    let once : cast_unsigned w32 z ≡ n = ap (λ (y : ℤ). cast_unsigned w32 y) is ∙ of_z-to_z w32 n below in
    let twice : cast_unsigned w32 (cast_signed w32 (cast_unsigned w32 z)) ≡ n
    = ap (λ (k : ℕ). cast_unsigned w32 (cast_signed w32 k)) once ∙ of_z-to_z w32 n below in
    number_in_front bytes (cast_unsigned w32 (cast_signed w32 (cast_unsigned w32 z))) long fits twice

-- six fields
pub six_fields : (bytes v p r t b n r1 r2 r3 r4 r5 r6 : List ℕ) → length bytes ≡ 80
    → length v ≡ 4 → length p ≡ 32 → length r ≡ 32 → length t ≡ 4 → length b ≡ 4 → length n ≡ 4
    → bytes ≡ v ++ r1 → r1 ≡ p ++ r2 → r2 ≡ r ++ r3 → r3 ≡ t ++ r4 → r4 ≡ b ++ r5 → r5 ≡ n ++ r6
    → v ++ (p ++ (r ++ (t ++ (b ++ n)))) ≡ bytes
six_fields bytes v p r t b n r1 r2 r3 r4 r5 r6 whole lv lp lr lt lb ln e1 e2 e3 e4 e5 e6 =
    let s1 = ap length e1 ∙ length-append v r1 in
    let s2 = ap length e2 ∙ length-append p r2 in
    let s3 = ap length e3 ∙ length-append r r3 in
    let s4 = ap length e4 ∙ length-append t r4 in
    let s5 = ap length e5 ∙ length-append b r5 in
    let s6 = ap length e6 ∙ length-append n r6 in
    let none : r6 ≡ [] = nil_from_length r6 (omega arith) in
    let last : r5 ≡ n = e6 ∙ ap (λ (x : List ℕ). n ++ x) none ∙ append-nil n in
    rw (e1, e2, e3, e4, e5, last) refl

version_again : (v w : ℤ) → FitsSigned w32 v → FitsSigned w32 w → cast_unsigned w32 v ≡ cast_unsigned w32 w → v ≡ w
version_again v w f g e = sym (to_z-of_z w32 v f) ∙ ap (λ (n : ℕ). cast_signed w32 n) e ∙ to_z-of_z w32 w g

fits_version : (v : ℤ) → negsuc 2147483647 ≤ℤ v → v <ℤ pos 2147483648 → FitsSigned w32 v
fits_version (pos n) least most = record { sfits = omega (arith, ints) }
fits_version (negsuc n) least most = record { sfits = omega (arith, ints) }

unsigned_below : (v : ℤ) → FitsSigned w32 v → cast_unsigned w32 v < 2 ^ 32
unsigned_below v f = Fits-lt-pow (Fits-of_z f)

same_fields : (f : ℤ → List ℕ → List ℕ → ℕ → ℕ → ℕ → Header) (v v' : ℤ) (p p' r r' : List ℕ) (t t' b b' n n' : ℕ)
    → v ≡ v' → p ≡ p' → r ≡ r' → t ≡ t' → b ≡ b' → n ≡ n' → f v p r t b n ≡ f v' p' r' t' b' n'
same_fields f v v' p p' r r' t t' b b' n n' hv hp hr ht hb hn = cc

same_header : (h k : Header) → h.version ≡ k.version → h.previous.0 ≡ k.previous.0 → h.root.0 ≡ k.root.0 → h.time ≡ k.time → h.bits ≡ k.bits → h.nonce ≡ k.nonce → h ≡ k
same_header h k v p r t b n =
    same_fields (λ v p r t b n. record { version = v; previous = record { 0 = p }; root = record { 0 = r }; time = t; bits = b; nonce = n })
    _ _ _ _ _ _ _ _ _ _ _ _ v p r t b n

-- a header has 80 bytes
pub header_length : (h : Header) → IsHeader h → length (header_encoding h) ≡ 80
header_length h fits = let p = fits.previous_size in let r = fits.root_size in simp length-append (omega arith)

-- no two headers have one encoding
pub one_header : (h k : Header) → IsHeader h → IsHeader k → header_encoding h ≡ header_encoding k → h ≡ k
one_header h k fits_h fits_k e =
    let fv = fits_version h.version fits_h.least_version fits_h.most_version in
    let fw = fits_version k.version fits_k.least_version fits_k.most_version in
    let v = number_again _ _ _ _ (unsigned_below h.version fv) (unsigned_below k.version fw) e in
    let p = same_cut h.previous.0 _ k.previous.0 _ (fits_h.previous_size ∙ sym fits_k.previous_size) v.1 in
    let r = same_cut h.root.0 _ k.root.0 _ (fits_h.root_size ∙ sym fits_k.root_size) p.1 in
    let t = number_again h.time k.time _ _ fits_h.time fits_k.time r.1 in
    let b = number_again h.bits k.bits _ _ fits_h.bits fits_k.bits t.1 in
    let n = number_again h.nonce k.nonce [] [] fits_h.nonce fits_k.nonce b.1 in
    same_header h k (version_again h.version k.version fv fw v.0) p.0 r.0 t.0 b.0 n.0

-- six fields, each put after those before
pub six_puts : (t0 t1 t2 t3 t4 t5 t6 v p r t b n : List ℕ) → length t6 ≡ 80
    → take 4 t1 ≡ take 0 t0 ++ v → take 36 t2 ≡ take 4 t1 ++ p → take 68 t3 ≡ take 36 t2 ++ r
    → take 72 t4 ≡ take 68 t3 ++ t → take 76 t5 ≡ take 72 t4 ++ b → take 80 t6 ≡ take 76 t5 ++ n
    → t6 ≡ v ++ (p ++ (r ++ (t ++ (b ++ n))))
six_puts t0 t1 t2 t3 t4 t5 t6 v p r t b n whole e1 e2 e3 e4 e5 e6 =
    let all : take 80 t6 ≡ t6 = take_all 80 t6 (omega arith) in
    let e : take 80 t6 ≡ ((((v ++ p) ++ r) ++ t) ++ b) ++ n = rw (e6, e5, e4, e3, e2, e1) refl in
    sym all ∙ e ∙ simp append_assoc

-- the field after as many bytes
after : (k : ℕ) (a x bytes : List ℕ) → length a ≡ k → a ++ x ≡ bytes → drop k bytes ≡ x
after k a x bytes l e = rw (← e) (drop_at a x k l)

number_after : (k n : ℕ) (a x bytes : List ℕ) → length a ≡ k → n < 2 ^ 32 → a ++ (to_le_bytes w32 n ++ x) ≡ bytes → n ≡ number_from k bytes
number_after k n a x bytes l small e =
    sym (from_le_bytes-to_le_bytes_4 n small) ∙ ap (λ (t : List ℕ). from_le_bytes w32 (take 4 t)) (sym (after k a (to_le_bytes w32 n ++ x) bytes l e))

encoding_after : (k : ℕ) (a p x bytes : List ℕ) → length a ≡ k → length p ≡ 32 → a ++ (p ++ x) ≡ bytes → p ≡ take 32 (drop k bytes)
encoding_after k a p x bytes l size e =
    sym (take_at p x 32 size) ∙ ap (λ (t : List ℕ). take 32 t) (sym (after k a (p ++ x) bytes l e))

-- what a header's text encodes is the header
pub header_again : (h : Header) (bytes : List ℕ) → IsHeader h → header_encoding h ≡ bytes → h ≡ header_of bytes
header_again h bytes fits e =
    let v = to_le_bytes w32 (cast_unsigned w32 h.version) in
    let t = to_le_bytes w32 h.time in
    let b = to_le_bytes w32 h.bits in
    let n = to_le_bytes w32 h.nonce in
    let fv = fits_version h.version fits.least_version fits.most_version in
    let two : (v ++ h.previous.0) ++ (h.root.0 ++ (t ++ (b ++ n))) ≡ bytes = append_assoc v h.previous.0 _ ∙ e in
    let three : ((v ++ h.previous.0) ++ h.root.0) ++ (t ++ (b ++ n)) ≡ bytes = append_assoc (v ++ h.previous.0) h.root.0 _ ∙ two in
    let four : (((v ++ h.previous.0) ++ h.root.0) ++ t) ++ (b ++ n) ≡ bytes = append_assoc ((v ++ h.previous.0) ++ h.root.0) t _ ∙ three in
    let five : ((((v ++ h.previous.0) ++ h.root.0) ++ t) ++ b) ++ (n ++ []) ≡ bytes
    = ap (λ (x : List ℕ). ((((v ++ h.previous.0) ++ h.root.0) ++ t) ++ b) ++ x) (append-nil n) ∙ append_assoc (((v ++ h.previous.0) ++ h.root.0) ++ t) b n ∙ four in
    let size_2 : length (v ++ h.previous.0) ≡ 36 = let s = fits.previous_size in simp length-append (omega arith) in
    let size_3 : length ((v ++ h.previous.0) ++ h.root.0) ≡ 68 = let s = fits.root_size in simp length-append (let q = simp length-append at size_2 in omega arith) in
    let size_4 : length (((v ++ h.previous.0) ++ h.root.0) ++ t) ≡ 72 = length-append ((v ++ h.previous.0) ++ h.root.0) t ∙ (let q = size_3 in omega arith) in
    let size_5 : length ((((v ++ h.previous.0) ++ h.root.0) ++ t) ++ b) ≡ 76 = length-append (((v ++ h.previous.0) ++ h.root.0) ++ t) b ∙ (let q = size_4 in omega arith) in
    let version : h.version ≡ cast_signed w32 (number_from 0 bytes)
    = sym (to_z-of_z w32 h.version fv) ∙ ap (λ (k : ℕ). cast_signed w32 k) (number_after 0 (cast_unsigned w32 h.version) [] _ bytes refl (unsigned_below h.version fv) e) in
    same_header h (header_of bytes) version
    (encoding_after 4 v h.previous.0 _ bytes refl fits.previous_size e)
    (encoding_after 36 (v ++ h.previous.0) h.root.0 _ bytes size_2 fits.root_size two)
    (number_after 68 h.time ((v ++ h.previous.0) ++ h.root.0) _ bytes size_3 fits.time three)
    (number_after 72 h.bits (((v ++ h.previous.0) ++ h.root.0) ++ t) _ bytes size_4 fits.bits four)
    (number_after 76 h.nonce ((((v ++ h.previous.0) ++ h.root.0) ++ t) ++ b) [] bytes size_5 fits.nonce five)

-- Walking over a file, piece by piece.
use Rattle.std.proofs.Common.{◌≡◌, ℕ, zero, suc, ◌+◌, ◌-◌, ◌<◌, ◌≤◌, List, [], ◌∷◌, ◌++◌, length, take, drop, refl, sym, ap, ◌∙◌, subst, arith, ◌&&◌, if◌then◌else◌, nat_le, append_assoc, append-nil, length-drop}
use Rattle.std.specs.Prelude.{Option, None, Some, option_map, option_to_list}
use Rattle.std.specs.Str.{bytes_eq}
use Rattle.std.specs.Int.{w32, from_le_bytes}
use Rattle.std.proofs.lemmas.List.{drop-drop, drop-take, take-take}
use Rattle.el_chain.specs.Records.{size_field, record_size, node_of, node_at, bytes_after, records_from}
use Rattle.el_block.specs.declared.limits.TheConstants.{MAX_BLOCK_WEIGHT}
use Rattle.el_chain.specs.declared.limits.TheConstants.{MIN_BLOCK_SIZE}
use Rattle.el_chain.specs.declared.node.Node.{Node}
use Rattle.el_files.specs.declared.limits.TheConstants.{HEAD_SIZE}
use Rattle.el_files.specs.within.Walking.{Walked}
pub use Rattle.el_chain.proofs.RecordBytes.{field, size_here, node_here, size_of}
use Rattle.el_files.proofs.Heading.{node_in_front}

passing : (magic : List ℕ) (file place passed : ℕ) (bytes : List ℕ)
    → records_from magic file place passed bytes ≡ records_from magic file (place + passed) 0 (drop passed bytes)
passing magic file place zero bytes = ap (λ (p : ℕ). records_from magic file p 0 bytes) (let e : place ≡ place + 0 = omega arith in e)
passing magic file place (suc passed) [] = refl
passing magic file place (suc passed) (b ∷ bytes) =
    passing magic file (place + 1) passed bytes
    ∙ ap (λ (p : ℕ). records_from magic file p 0 (drop passed bytes)) (let e : place + 1 + passed ≡ place + suc passed = omega arith in e)

-- how many bytes a walk goes on by
abbrev pub step : Option ℕ → ℕ
step size = 1 + bytes_after size

one_step : (magic : List ℕ) (file place : ℕ) (b : ℕ) (bytes : List ℕ) (size : Option ℕ) → size_here magic (b ∷ bytes) ≡ size
    → records_from magic file place 0 (b ∷ bytes)
    ≡ option_to_list (node_here magic file place (b ∷ bytes)) ++ records_from magic file (place + (1 + bytes_after size)) 0 (drop (bytes_after size) bytes)
one_step magic file place b bytes size e =
    let more = passing magic file (place + 1) (bytes_after (size_here magic (b ∷ bytes))) bytes in
    let goes = subst (λ (s : Option ℕ). records_from magic file (place + 1) (bytes_after (size_here magic (b ∷ bytes))) bytes ≡ records_from magic file (place + 1 + bytes_after s) 0 (drop (bytes_after s) bytes)) e more in
    ap (λ (t : List Node). option_to_list (node_here magic file place (b ∷ bytes)) ++ t)
    (goes ∙ ap (λ (p : ℕ). records_from magic file p 0 (drop (bytes_after size) bytes)) (let s : place + 1 + bytes_after size ≡ place + (1 + bytes_after size) = omega arith in s))

drop_one_more : (n : ℕ) (b : ℕ) (bytes : List ℕ) → drop (1 + n) (b ∷ bytes) ≡ drop n bytes
drop_one_more n b bytes = ap (λ (k : ℕ). drop k (b ∷ bytes)) (let e : 1 + n ≡ suc n = omega arith in e)

-- the records from a place on: the one that stands there, and those after it
pub records_step : (magic : List ℕ) (file place : ℕ) (bytes : List ℕ) (size : Option ℕ) → 1 ≤ length bytes → size_here magic bytes ≡ size
    → records_from magic file place 0 bytes
    ≡ option_to_list (node_here magic file place bytes) ++ records_from magic file (place + (1 + bytes_after size)) 0 (drop (1 + bytes_after size) bytes)
records_step magic file place [] size some e = absurd (omega arith)
records_step magic file place (b ∷ bytes) size some e =
    one_step magic file place b bytes size e
    ∙ ap (λ (t : List ℕ). option_to_list (node_here magic file place (b ∷ bytes)) ++ records_from magic file (place + (1 + bytes_after size)) 0 t) (sym (drop_one_more (bytes_after size) b bytes))

same_two : (f : List ℕ → ℕ → Option ℕ) (a b : List ℕ) (s t : ℕ) → a ≡ b → s ≡ t → f a s ≡ f b t
same_two f a b s t p q = cc

same_nodes : (f g : ℕ → Node) (r s : Option ℕ) → ((n : ℕ) → f n ≡ g n) → r ≡ s → option_map f r ≡ option_map g s
same_nodes f g r s same e = ap (option_map f) e ∙ both s
  where
    both : (t : Option ℕ) → option_map f t ≡ option_map g t
    both None = refl
    both (Some n) = ap Some (same n)

-- a piece has the head of the record that stands at its front, however many bytes the file has left
pub node_in_piece : (magic : List ℕ) (file place left : ℕ) (piece bytes : List ℕ) → HEAD_SIZE ≤ length piece → piece ≡ take (length piece) bytes
    → node_at magic file place piece left ≡ node_at magic file place bytes left
node_in_piece magic file place left piece bytes long is =
    let four : take 4 piece ≡ take 4 bytes = ap (take 4) is ∙ take-take 4 (length piece) bytes (omega arith) in
    let told : size_field piece ≡ size_field bytes =
    ap (λ (t : List ℕ). from_le_bytes w32 (take 4 (drop 4 t))) is ∙ ap (λ (t : List ℕ). from_le_bytes w32 t) (field 4 4 (length piece) bytes (omega arith)) in
    let header : take 80 (drop 8 piece) ≡ take 80 (drop 8 bytes) =
    ap (λ (t : List ℕ). take 80 (drop 8 t)) is ∙ field 8 80 (length piece) bytes (omega arith) in
    let size : record_size magic piece left ≡ record_size magic bytes left =
    same_two (λ (a : List ℕ) (s : ℕ). if bytes_eq a magic && (nat_le MIN_BLOCK_SIZE s && (nat_le s MAX_BLOCK_WEIGHT && nat_le (8 + s) left)) then Some s else None)
    (take 4 piece) (take 4 bytes) (size_field piece) (size_field bytes) four told in
    same_nodes (λ (n : ℕ). node_of file place n (drop 8 piece)) (λ (n : ℕ). node_of file place n (drop 8 bytes)) (record_size magic piece left) (record_size magic bytes left)
    (λ (n : ℕ). sym (node_in_front file place n (drop 8 piece)) ∙ ap (node_of file place n) header ∙ node_in_front file place n (drop 8 bytes)) size

-- what stands in the piece from an index on
piece_from : (piece bytes : List ℕ) (i : ℕ) → piece ≡ take (length piece) bytes → i ≤ length piece → drop i piece ≡ take (length (drop i piece)) (drop i bytes)
piece_from piece bytes i is within =
    let some : length piece ≡ i + (length piece - i) = omega arith in
    let long : length piece - i ≡ length (drop i piece) = sym (length-drop i piece) in
    ap (drop i) is ∙ ap (λ (n : ℕ). drop i (take n bytes)) some ∙ drop-take i (length piece - i) bytes ∙ ap (λ (n : ℕ). take n (drop i bytes)) long

no_size : (f : ℕ → Node) (r : Option ℕ) → option_map f r ≡ None → r ≡ None
no_size f None e = refl
no_size f (Some n) e = absurd (cc)

pub walked_none : (magic : List ℕ) (file place : ℕ) (bytes : List ℕ) (old : List Node) → Walked magic file place 0 bytes old old
walked_none magic file place bytes old = record {
  nodes = [];
  appended = sym (append-nil old);
  rest = ap (λ (p : ℕ). records_from magic file p 0 bytes) (let e : place ≡ place + 0 = omega arith in e);
}

walked_more : (magic : List ℕ) (file place passed next : ℕ) (bytes : List ℕ) (old mid new : List Node) (size : Option ℕ) (here : Option Node)
    → Walked magic file place passed bytes old mid → passed < length bytes → size_here magic (drop passed bytes) ≡ size
    → node_here magic file (place + passed) (drop passed bytes) ≡ here → new ≡ mid ++ option_to_list here
    → next ≡ passed + (1 + bytes_after size) → Walked magic file place next bytes old new
walked_more magic file place passed next bytes old mid new size here w some sized node appended goes =
    let long : 1 ≤ length (drop passed bytes) = rw (length-drop passed bytes) (omega arith) in
    let one = records_step magic file (place + passed) (drop passed bytes) size long sized in
    let after : drop (1 + bytes_after size) (drop passed bytes) ≡ drop next bytes =
    drop-drop (1 + bytes_after size) passed bytes ∙ ap (λ (n : ℕ). drop n bytes) (sym goes) in
    let place_after : place + passed + (1 + bytes_after size) ≡ place + next = omega arith in
    record {
      nodes = w.nodes ++ option_to_list here;
      appended = appended ∙ ap (λ (t : List Node). t ++ option_to_list here) w.appended ∙ append_assoc old w.nodes (option_to_list here);
      rest = w.rest ∙ ap (λ (t : List Node). w.nodes ++ t)
          (one ∙ ap (λ (h : Option Node). option_to_list h ++ records_from magic file (place + passed + (1 + bytes_after size)) 0 (drop (1 + bytes_after size) (drop passed bytes))) node
          ∙ ap (λ (p : ℕ). option_to_list here ++ records_from magic file p 0 (drop (1 + bytes_after size) (drop passed bytes))) place_after
          ∙ ap (λ (t : List ℕ). option_to_list here ++ records_from magic file (place + next) 0 t) after)
          ∙ sym (append_assoc w.nodes (option_to_list here) (records_from magic file (place + next) 0 (drop next bytes)));
    }

-- what stands here is what the piece tells
here_at : (magic : List ℕ) (file place passed left : ℕ) (piece here bytes : List ℕ) → length piece ≤ left → length bytes ≡ left → piece ≡ take (length piece) bytes
    → passed + HEAD_SIZE ≤ length piece → here ≡ drop passed piece
    → node_at magic file (place + passed) here (left - passed) ≡ node_here magic file (place + passed) (drop passed bytes)
here_at magic file place passed left piece here bytes front all is long there =
    let rest : length (drop passed bytes) ≡ left - passed = length-drop passed bytes ∙ ap (λ (n : ℕ). n - passed) all in
    let enough : HEAD_SIZE ≤ length (drop passed piece) = rw (length-drop passed piece) (omega arith) in
    ap (λ (t : List ℕ). node_at magic file (place + passed) t (left - passed)) there
    ∙ node_in_piece magic file (place + passed) (left - passed) (drop passed piece) (drop passed bytes) enough
    (piece_from piece bytes passed is (omega arith))
    ∙ ap (node_at magic file (place + passed) (drop passed bytes)) (sym rest)

-- no record stands here
pub walked_byte : (magic : List ℕ) (file place passed left : ℕ) (piece here bytes : List ℕ) (old mid : List Node) → Walked magic file place passed bytes old mid
    → length piece ≤ left → length bytes ≡ left → piece ≡ take (length piece) bytes → passed + HEAD_SIZE ≤ length piece → here ≡ drop passed piece
    → None ≡ node_at magic file (place + passed) here (left - passed) → Walked magic file place (passed + 1) bytes old mid
walked_byte magic file place passed left piece here bytes old mid w front all is long there none =
    let stands = here_at magic file place passed left piece here bytes front all is long there in
    let nothing : node_here magic file (place + passed) (drop passed bytes) ≡ None = sym (none ∙ stands) in
    let size = no_size (λ n. node_of file (place + passed) n (drop 8 (drop passed bytes))) (size_here magic (drop passed bytes)) nothing in
    walked_more magic file place passed (passed + 1) bytes old mid mid None None w (omega arith) size nothing (sym (append-nil mid)) (omega arith)

-- a record stands here
pub walked_record : (magic : List ℕ) (file place passed left : ℕ) (piece here bytes : List ℕ) (old mid new : List Node) (node : Node)
    → Walked magic file place passed bytes old mid
    → length piece ≤ left → length bytes ≡ left → piece ≡ take (length piece) bytes → passed + HEAD_SIZE ≤ length piece → here ≡ drop passed piece
    → Some node ≡ node_at magic file (place + passed) here (left - passed) → new ≡ mid ++ node ∷ []
    → Walked magic file place (passed + (8 + node.place.len)) bytes old new
walked_record magic file place passed left piece here bytes old mid new node w front all is long there some appended =
    let stands = here_at magic file place passed left piece here bytes front all is long there in
    let found : node_here magic file (place + passed) (drop passed bytes) ≡ Some node = sym (some ∙ stands) in
    let size = size_of file (place + passed) (drop 8 (drop passed bytes)) (size_here magic (drop passed bytes)) node found in
    walked_more magic file place passed (passed + (8 + node.place.len)) bytes old mid new (Some node.place.len) (Some node) w (omega arith) size found appended (omega arith)

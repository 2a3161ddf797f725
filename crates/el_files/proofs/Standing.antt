-- Records that stand in a file, which may have grown since.
use Rattle.std.proofs.Common.{◌≡◌, ℕ, zero, suc, ◌+◌, List, [], ◌∷◌, drop, refl, sym, ap, ◌∙◌}
use Rattle.std.specs.Prelude.{Option, None, Some, option_map, option_to_list}
use Rattle.std.specs.List.{AllByRecursion}
use Rattle.std.proofs.lemmas.List.{drop-drop}
use Rattle.el_base.proofs.Lists.{all_append}
use Rattle.el_chain.specs.Records.{node_of, records_from, records, bytes_after}
use Rattle.el_chain.specs.declared.node.Node.{Node}
use Rattle.el_chain.specs.Records.{IsRecordIn}
pub use Rattle.el_chain.proofs.RecordBytes.{size_here, node_here, stands_within, block_stays}

-- what is left after the first byte
drop_next : (place : ℕ) (bytes rest : List ℕ) (b : ℕ) → b ∷ rest ≡ drop place bytes → rest ≡ drop (place + 1) bytes
drop_next place bytes rest b e = ap (drop 1) e ∙ drop-drop 1 place bytes

place_of : (file place : ℕ) (header : List ℕ) (r : Option ℕ) (node : Node) → option_map (λ n. node_of file place n header) r ≡ Some node → node.place.offset ≡ place
place_of file place header None node e = absurd (cc)
place_of file place header (Some n) node e =
    let is : node_of file place n header ≡ node = cc in
    sym (ap (λ (m : Node). m.place.offset) is)

here : (magic bytes front : List ℕ) (file place : ℕ) (found : Option Node) → front ≡ drop place bytes → node_here magic file place front ≡ found
    → AllByRecursion (IsRecordIn magic file bytes) (option_to_list found)
here magic bytes front file place None e is = tt
here magic bytes front file place (Some n) e is =
    let same : n.place.offset ≡ place = place_of file place (drop 8 front) (size_here magic front) n is in
    let there : drop n.place.offset bytes ≡ front = ap (λ (p : ℕ). drop p bytes) same ∙ sym e in
    (record { stands = ap (λ (p : ℕ). node_here magic file p (drop n.place.offset bytes)) same ∙ ap (node_here magic file place) there ∙ is }, tt)

-- the nodes of the records of a file are those of records that stand there
all_stand : (magic bytes : List ℕ) (file place passed : ℕ) (rest : List ℕ) → rest ≡ drop place bytes
    → AllByRecursion (IsRecordIn magic file bytes) (records_from magic file place passed rest)
all_stand magic bytes file place passed [] e = tt
all_stand magic bytes file place (suc passed) (b ∷ rest) e = all_stand magic bytes file (place + 1) passed rest (drop_next place bytes rest b e)
all_stand magic bytes file place zero (b ∷ rest) e =
    all_append (IsRecordIn magic file bytes) (option_to_list (node_here magic file place (b ∷ rest)))
    (records_from magic file (place + 1) (bytes_after (size_here magic (b ∷ rest))) rest)
    (here magic bytes (b ∷ rest) file place (node_here magic file place (b ∷ rest)) e refl)
    (all_stand magic bytes file (place + 1) (bytes_after (size_here magic (b ∷ rest))) rest (drop_next place bytes rest b e))

pub records_stand : (magic bytes : List ℕ) (file : ℕ) → AllByRecursion (IsRecordIn magic file bytes) (records magic file bytes)
records_stand magic bytes file = all_stand magic bytes file 0 0 bytes refl

-- The scan of file after file.
use Rattle.std.proofs.Common.{◌≡◌, ℕ, zero, suc, ◌+◌, ◌-◌, ◌<◌, ◌≤◌, List, [], ◌∷◌, ◌++◌, length, refl, sym, ap, ◌∙◌, arith, Bool, true, false, ◌==◌, if◌then◌else◌, inl, inr, ⊎_elim, append_assoc, append-nil}
use Rattle.std.proofs.lemmas.Bool.{eq-eqb, eqb-true, cases_lt}
use Rattle.el_outside.specs.Files.{Grows, AllGrow}
use Rattle.el_outside.specs.Seen.{seen, IsBetween, WasSeen}
use Rattle.el_outside.specs.declared.archive.Archive as block_files
use Rattle.el_outside.proofs.Traces.{all_grow_none, all_grow_more}
use Rattle.el_chain.specs.declared.node.Node.{Node}
use Rattle.el_outside.specs.declared.archive.TheConstants.{MOST_FILES}
use Rattle.el_files.specs.Scanning.{WasScanned, WasScannedTo, FilesScanned, AllScanned, SomeScanned, nodes_of_files, calls_for, calls_for_files, ScansOnce, IsFoundIn, IsFoundBelow}
use Rattle.el_files.proofs.Scans.{seen_longer, to_longer}

-- one of the files has this, by its number
abbrev pub with_file : {T : Type 0} → ℕ → T → (ℕ → T) → ℕ → T
with_file file here files k = if k == file then here else files k

-- cases of a number that is the file's or not
either_file : {T : Type 0} (P : ℕ → T → Type 0) (file : ℕ) (here : T) (files : ℕ → T) (k : ℕ) → ((k ≡ file) → P k here) → ((k ≡ file → ⊥) → P k (files k)) → P k (with_file file here files k)
either_file {T} P file here files k same other = by_test (k == file) refl
  where
    by_test : (b : Bool) → (k == file) ≡ b → P k (if b then here else files k)
    by_test true e = same (eqb-true k file e)
    by_test false e = other (λ is. absurd (let t : true ≡ false = sym (eq-eqb k file is) ∙ e in cc))

at_file : {T : Type 0} (file : ℕ) (here : T) (files : ℕ → T) → with_file file here files file ≡ here
at_file file here files = ap (λ (b : Bool). if b then here else files file) (eq-eqb file file refl)

below_file : {T : Type 0} (file : ℕ) (here : T) (files : ℕ → T) (k : ℕ) → k < file → files k ≡ with_file file here files k
below_file {T} file here files k less =
    either_file (λ (j : ℕ) (t : T). files j ≡ t) file here files k (λ (e : k ≡ file). absurd (omega arith)) (λ other. refl)

below_one_more : (k file : ℕ) → k < file + 1 → (k ≡ file → ⊥) → k < file
below_one_more k file small other = ⊎_elim (λ less. less) (λ more. absurd (other (omega (arith, small, more)))) (cases_lt k file)

-- ---- what was found

same_nodes : (n : ℕ) (f g : ℕ → List Node) → ((k : ℕ) → k < n → f k ≡ g k) → nodes_of_files n f ≡ nodes_of_files n g
same_nodes zero f g same = refl
same_nodes (suc n) f g same =
    let before = same_nodes n f g (λ k less. same k (omega arith)) in
    let here : f n ≡ g n = same n (omega arith) in
    ap (λ (t : List Node). t ++ f n) before ∙ ap (λ (t : List Node). nodes_of_files n g ++ t) here

one_more : (file : ℕ) (nodes : List Node) (of : ℕ → List Node) → nodes_of_files file of ++ nodes ≡ nodes_of_files (file + 1) (with_file file nodes of)
one_more file nodes of =
    let next : suc file ≡ file + 1 = omega arith in
    ap (λ (t : List Node). t ++ nodes) (same_nodes file of (with_file file nodes of) (below_file file nodes of))
    ∙ ap (λ (t : List Node). nodes_of_files file (with_file file nodes of) ++ t) (sym (at_file file nodes of))
    ∙ ap (λ (n : ℕ). nodes_of_files n (with_file file nodes of)) next

between_longer : {A : Type 0} (of_files : block_files.Ghosts A) (f g h i : ℕ → List ℕ) (told : A) → AllGrow f g → AllGrow h i → IsBetween of_files g told h → IsBetween of_files f told i
between_longer of_files f g h i told before after b = record {
  grew = all_grow_more f g (of_files.bytes told) before b.grew;
  grows = all_grow_more (of_files.bytes told) h i b.grows after;
}

-- a file was scanned in a longer time
scanned_longer : {A : Type 0} (of_files : block_files.Ghosts A) (f g h i : ℕ → List ℕ) (magic : List ℕ) (file : ℕ) (nodes : List Node) → AllGrow f g → AllGrow h i
    → WasScanned of_files g h magic file nodes → WasScanned of_files f i magic file nodes
scanned_longer of_files f g h i magic file nodes before after s = record {
  told = s.told;
  between = between_longer of_files f g h i s.told before after s.between;
  scanned = record {
    place = s.scanned.place;
    scanned = to_longer _ _ magic file (length (seen of_files s.told file)) still s.scanned.scanned;
    ends = elim s.scanned.ends [ inl near ↦ inl near | inr e ↦ inr (e.0, still e.0 e.1, e.2) ];
  };
}
  where
    still : (bytes : List ℕ) → WasSeen of_files (of_files.bytes s.told) h file bytes → WasSeen of_files (of_files.bytes s.told) i file bytes
    still bytes w = seen_longer of_files (of_files.bytes s.told) (of_files.bytes s.told) h i file bytes (all_grow_none (of_files.bytes s.told)) after w

part_longer : {A : Type 0} (of_files : block_files.Ghosts A) (f g h : ℕ → List ℕ) (magic : List ℕ) (file : ℕ) (nodes : List Node) → AllGrow f g
    → WasScannedTo of_files g h magic file nodes → WasScannedTo of_files f h magic file nodes
part_longer of_files f g h magic file nodes before s = record {
  told = s.told;
  between = between_longer of_files f g h h s.told before (all_grow_none h) s.between;
  place = s.place;
  scanned = s.scanned;
}

-- The scan has appended the records of the first files, up to this one.
pub record ScannedFiles {A : Type 0} (of_files : block_files.Ghosts A) (magic : List ℕ) (before now : A) (count file : ℕ) (old new : List Node) : Type 0 where
  pub nodes : List Node
  pub files : FilesScanned of_files (of_files.bytes before) (of_files.bytes now) magic file nodes
  pub counted : of_files.file_count files.told ≡ count
  pub appended : new ≡ old ++ nodes

pub files_begin : {A : Type 0} (of_files : block_files.Ghosts A) (magic : List ℕ) (before now : A) (count : ℕ) (old : List Node)
    → AllGrow (of_files.bytes before) (of_files.bytes now) → count ≡ of_files.file_count now → ((file : ℕ) → of_files.file_count now ≤ file → of_files.bytes now file ++ of_files.padding now file ≡ [])
    → ScannedFiles of_files magic before now count 0 old old
files_begin of_files magic before now count old grew counted none = record {
  nodes = [];
  files = record {
    told = now;
    between = record { grew = grew; grows = all_grow_none (of_files.bytes now) };
    none_after = λ file after. no_front (of_files.bytes now file) (of_files.padding now file) (none file after);
    few = omega arith;
    of = λ k. [];
    each = λ file less. absurd (omega arith);
    are = refl;
  };
  counted = sym counted;
  appended = sym (append-nil old);
}
  where
    no_front : (xs ys : List ℕ) → xs ++ ys ≡ [] → xs ≡ []
    no_front [] ys e = refl
    no_front (x ∷ xs) ys e = absurd (cc)

-- one file more was scanned
pub files_more : {A : Type 0} (of_files : block_files.Ghosts A) (magic : List ℕ) (before now later : A) (count file : ℕ) (old mid new nodes : List Node)
    → ScannedFiles of_files magic before now count file old mid → file < count → AllGrow (of_files.bytes now) (of_files.bytes later)
    → WasScanned of_files (of_files.bytes now) (of_files.bytes later) magic file nodes → new ≡ mid ++ nodes → ScannedFiles of_files magic before later count (file + 1) old new
files_more of_files magic before now later count file old mid new nodes s less grows more appended = record {
  nodes = s.nodes ++ nodes;
  files = record {
    told = s.files.told;
    between = between_longer of_files (of_files.bytes before) (of_files.bytes before) (of_files.bytes now) (of_files.bytes later) s.files.told (all_grow_none (of_files.bytes before)) grows s.files.between;
    none_after = s.files.none_after;
    few = omega (arith, s.counted);
    of = with_file file nodes s.files.of;
    each = λ k small. either_file (λ (j : ℕ) (t : List Node). WasScanned of_files (of_files.bytes s.files.told) (of_files.bytes later) magic j t) file nodes s.files.of k
        (λ is. here k is) (λ other. before_it k (below_one_more k file small other));
    are = ap (λ (t : List Node). t ++ nodes) s.files.are ∙ one_more file nodes s.files.of;
  };
  counted = s.counted;
  appended = appended ∙ ap (λ (t : List Node). t ++ nodes) s.appended ∙ append_assoc old s.nodes nodes;
}
  where
    here : (k : ℕ) → k ≡ file → WasScanned of_files (of_files.bytes s.files.told) (of_files.bytes later) magic k nodes
    here k is = rw is (scanned_longer of_files (of_files.bytes s.files.told) (of_files.bytes now) (of_files.bytes later) (of_files.bytes later) magic file nodes s.files.between.grows (all_grow_none (of_files.bytes later)) more)

    before_it : (k : ℕ) → k < file → WasScanned of_files (of_files.bytes s.files.told) (of_files.bytes later) magic k (s.files.of k)
    before_it k small =
        scanned_longer of_files (of_files.bytes s.files.told) (of_files.bytes s.files.told) (of_files.bytes now) (of_files.bytes later) magic k (s.files.of k) (all_grow_none (of_files.bytes s.files.told)) grows (s.files.each k small)

-- all of them were
pub files_all : {A : Type 0} (of_files : block_files.Ghosts A) (magic : List ℕ) (before now : A) (count file : ℕ) (old new : List Node) → ScannedFiles of_files magic before now count file old new
    → file ≡ count → (nodes : List Node) × AllScanned of_files (of_files.bytes before) (of_files.bytes now) magic nodes × (new ≡ old ++ nodes)
files_all of_files magic before now count file old new s last =
    (s.nodes, record { count = file; files = s.files; whole = last ∙ sym s.counted }, s.appended)

-- the scan stopped within a file
pub files_front : {A : Type 0} (of_files : block_files.Ghosts A) (magic : List ℕ) (before now later : A) (count file : ℕ) (old mid new nodes : List Node)
    → ScannedFiles of_files magic before now count file old mid → file < count → AllGrow (of_files.bytes now) (of_files.bytes later)
    → WasScannedTo of_files (of_files.bytes now) (of_files.bytes later) magic file nodes → new ≡ mid ++ nodes
    → (all : List Node) × SomeScanned of_files (of_files.bytes before) (of_files.bytes later) magic all × (new ≡ old ++ all)
files_front of_files magic before now later count file old mid new nodes s less grows part appended =
    let so_far : AllGrow (of_files.bytes before) (of_files.bytes now) = all_grow_more (of_files.bytes before) (of_files.bytes s.files.told) (of_files.bytes now) s.files.between.grew s.files.between.grows in (
      s.nodes ++ nodes,
      record {
        count = file;
        front = s.nodes;
        files = record {
          told = s.files.told;
          between = between_longer of_files (of_files.bytes before) (of_files.bytes before) (of_files.bytes now) (of_files.bytes later) s.files.told (all_grow_none (of_files.bytes before)) grows s.files.between;
          none_after = s.files.none_after;
          few = s.files.few;
          of = s.files.of;
          each = λ k small.
              scanned_longer of_files (of_files.bytes s.files.told) (of_files.bytes s.files.told) (of_files.bytes now) (of_files.bytes later) magic k (s.files.of k) (all_grow_none (of_files.bytes s.files.told)) grows (s.files.each k small);
          are = s.files.are;
        };
        within = omega (arith, s.counted);
        last = nodes;
        part = part_longer of_files (of_files.bytes before) (of_files.bytes now) (of_files.bytes later) magic file nodes so_far part;
        are = refl;
      },
      appended ∙ ap (λ (t : List Node). t ++ nodes) s.appended ∙ append_assoc old s.nodes nodes,
    )

-- a node of one of `count` files
pub found_below : (gave : ℕ → ℕ → List ℕ → Type 0) (magic : List ℕ) (file count : ℕ) (n : Node) → file < count → count ≤ MOST_FILES → IsFoundIn gave magic file n
    → IsFoundBelow gave magic MOST_FILES n
found_below gave magic file count n less few h =
    let same : file ≡ n.place.file = sym h.file in
    let small : n.place.file < MOST_FILES = let e = h.file in omega arith in
    record { found = rw same at h; file = small }

-- ---- how many calls were made

-- The scan of the first files, up to this one, made these calls at most.
pub record CalledFor {A : Type 0} (of_files : block_files.Ghosts A) (before now : A) (file : ℕ) : Type 0 where
  pub sizes : ℕ → ℕ
  pub each : (k : ℕ) → k < file → (bytes : List ℕ) × WasSeen of_files (of_files.bytes before) (of_files.bytes now) k bytes × (sizes k ≡ length bytes)
  pub few : of_files.calls now ≤ of_files.calls before + calls_for_files file sizes

same_sizes : (n : ℕ) (f g : ℕ → ℕ) → ((k : ℕ) → k < n → f k ≡ g k) → calls_for_files n f ≡ calls_for_files n g
same_sizes zero f g same = refl
same_sizes (suc n) f g same =
    let before = same_sizes n f g (λ k less. same k (omega arith)) in
    let here : f n ≡ g n = same n (omega arith) in
    ap (λ (t : ℕ). t + calls_for (f n)) before ∙ ap (λ (t : ℕ). calls_for_files n g + calls_for t) here

sized_more : (file size : ℕ) (sizes : ℕ → ℕ) → calls_for_files file sizes + calls_for size ≡ calls_for_files (file + 1) (with_file file size sizes)
sized_more file size sizes =
    let next : suc file ≡ file + 1 = omega arith in
    ap (λ (t : ℕ). t + calls_for size) (same_sizes file sizes (with_file file size sizes) (below_file file size sizes))
    ∙ ap (λ (t : ℕ). calls_for_files file (with_file file size sizes) + calls_for t) (sym (at_file file size sizes))
    ∙ ap (λ (n : ℕ). calls_for_files n (with_file file size sizes)) next

pub called_none : {A : Type 0} (of_files : block_files.Ghosts A) (before now : A) → of_files.calls now ≡ of_files.calls before + 1 → CalledFor of_files before now 0
called_none of_files before now called = record { sizes = λ k. 0; each = λ k less. absurd (omega arith); few = omega (arith, called) }

pub called_more : {A : Type 0} (of_files : block_files.Ghosts A) (before now later : A) (file : ℕ) → AllGrow (of_files.bytes before) (of_files.bytes now) → AllGrow (of_files.bytes now) (of_files.bytes later)
    → CalledFor of_files before now file → (bytes : List ℕ) × WasSeen of_files (of_files.bytes now) (of_files.bytes later) file bytes × (of_files.calls later ≤ of_files.calls now + calls_for (length bytes))
    → CalledFor of_files before later (file + 1)
called_more of_files before now later file grew grows c (bytes, sight, few) = record {
  sizes = with_file file (length bytes) c.sizes;
  each = λ k small. either_file (λ (j : ℕ) (size : ℕ). (b : List ℕ) × WasSeen of_files (of_files.bytes before) (of_files.bytes later) j b × (size ≡ length b)) file (length bytes) c.sizes k
      (λ is. here k is) (λ other. before_it k (below_one_more k file small other));
  few = let e = sized_more file (length bytes) c.sizes in omega (arith, e, c.few, few);
}
  where
    here : (k : ℕ) → k ≡ file → (b : List ℕ) × WasSeen of_files (of_files.bytes before) (of_files.bytes later) k b × (length bytes ≡ length b)
    here k is = (bytes, rw is (seen_longer of_files (of_files.bytes before) (of_files.bytes now) (of_files.bytes later) (of_files.bytes later) file bytes grew (all_grow_none (of_files.bytes later)) sight), refl)

    before_it : (k : ℕ) → k < file → (b : List ℕ) × WasSeen of_files (of_files.bytes before) (of_files.bytes later) k b × (c.sizes k ≡ length b)
    before_it k small =
        let e = c.each k small in
        (e.0, seen_longer of_files (of_files.bytes before) (of_files.bytes before) (of_files.bytes now) (of_files.bytes later) k e.0 (all_grow_none (of_files.bytes before)) grows e.1, e.2)

pub called_all : {A : Type 0} (of_files : block_files.Ghosts A) (magic : List ℕ) (before now : A) (count file : ℕ) (old new : List Node) → ScannedFiles of_files magic before now count file old new
    → file ≡ count → CalledFor of_files before now file → ScansOnce of_files before now
called_all of_files magic before now count file old new s last c =
    let all : of_files.file_count s.files.told ≡ file = s.counted ∙ sym last in
    record {
      told = s.files.told;
      between = s.files.between;
      sizes = c.sizes;
      each = λ k small. c.each k (let e : k < file = omega (arith, all) in e);
      few = rw all c.few;
    }

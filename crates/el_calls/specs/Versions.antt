-- Versions of the protocol as clients name them (Electrum Protocol 1.4.2, server.version): one to three parts
-- with dots between, each of one to four digits. Parts that are missing are 0.
use Rattle.std.specs.Prelude.{◌≡◌, ℕ, ◌+◌, ◌*◌, ◌-◌, length, ◌==◌, nat_lt, nat_le, ◌&&◌, ◌||◌, Bool, true, if◌then◌else◌, List, [], ◌∷◌, Option, Some, None, option_and_then, find, codes, get_or}
use Rattle.std.specs.Char.{is_ascii_digit}
use Rattle.serde_json.specs.Data.{Data}
use Rattle.serde_json.specs.Find.{as_str}
use Rattle.el_json.specs.Parameters.{pair_in}
use Rattle.el_sessions.specs.declared.session.Version.{Version}
use Rattle.el_sessions.specs.declared.session.Version.TheVariants as version
use Rattle.el_calls.specs.declared.call.VersionParts.{VersionParts}

-- what comes of the value that is there, and None where none is; lines after `do` are read by it
infixl 10 ◌>>=◌
abbrev pub ◌>>=◌ : {A B : Type 0} → Option A → (A → Option B) → Option B
(Some x) >>= f = f x
None >>= f = None

-- what stands before the first dot (46), and what after it
abbrev pub cut_at_dot : List ℕ → List ℕ × Option (List ℕ)
cut_at_dot [] = ([], None)
cut_at_dot (b ∷ bs) = if b == 46 then ([], Some bs) else (b ∷ (cut_at_dot bs).0, (cut_at_dot bs).1)

-- a digit (48 is '0')
abbrev pub digit_of : ℕ → Option ℕ
digit_of b = if is_ascii_digit b then Some (b - 48) else None

-- the number before, and one digit more at its end
abbrev pub next_digit : Option ℕ → ℕ → Option ℕ
next_digit before b = do
  n ← before
  d ← digit_of b
  Some (n * 10 + d)

-- the number that one part of a version is: one to four digits
abbrev pub part_of : List ℕ → Option ℕ
part_of [] = None
part_of (a ∷ []) = digit_of a
part_of (a ∷ b ∷ []) = next_digit (digit_of a) b
part_of (a ∷ b ∷ c ∷ []) = next_digit (next_digit (digit_of a) b) c
part_of (a ∷ b ∷ c ∷ d ∷ []) = next_digit (next_digit (next_digit (digit_of a) b) c) d
part_of (a ∷ b ∷ c ∷ d ∷ e ∷ rest) = None

-- the last part, if there is one
abbrev pub part_or_zero : Option (List ℕ) → Option ℕ
part_or_zero None = Some 0
part_or_zero (Some text) = part_of text

-- what stands after the first dot, cut at the next one; where nothing does, a part 0 (48 is '0')
abbrev pub after_first_dot : Option (List ℕ) → List ℕ × Option (List ℕ)
after_first_dot None = (48 ∷ [], None)
after_first_dot (Some text) = cut_at_dot text

-- the version whose first part is that text, and whose others are in what was cut
abbrev pub version_with : List ℕ → List ℕ × Option (List ℕ) → Option VersionParts
version_with first cut = do
  major ← part_of first
  minor ← part_of cut.0
  patch ← part_or_zero cut.1
  Some (record { major = major; minor = minor; patch = patch })

-- the version that the text names
abbrev pub version_of : List ℕ → Option VersionParts
version_of text = version_with (cut_at_dot text).0 (after_first_dot (cut_at_dot text).1)

-- a text that names a version
abbrev pub version_in : Data → Option VersionParts
version_in d = option_and_then version_of (as_str d)

-- a text names one version that stands for both; of a pair each names one
abbrev pub versions_with : Option (List ℕ) → Option (Data × Data) → Option (VersionParts × VersionParts)
versions_with (Some text) pair = do
  version ← version_of text
  Some (version, version)
versions_with None (Some pair) = do
  first ← version_in pair.0
  second ← version_in pair.1
  Some (first, second)
versions_with None None = None

-- The least and the most version that the client takes: a list of exactly two, or one that stands for both.
abbrev pub versions_in : Data → Option (VersionParts × VersionParts)
versions_in d = versions_with (as_str d) (pair_in d)

-- the one version is not above the other: parts compare as numbers, the first ones first
abbrev pub is_up_to : VersionParts → VersionParts → Bool
is_up_to a b =
    nat_lt a.major b.major
    || (a.major == b.major && (nat_lt a.minor b.minor || (a.minor == b.minor && nat_le a.patch b.patch)))

-- the parts of a version that is served
abbrev pub parts_of : Version → VersionParts
parts_of version.V14 = record { major = 1; minor = 4; patch = 0 }
parts_of version.V141 = record { major = 1; minor = 4; patch = 1 }
parts_of version.V142 = record { major = 1; minor = 4; patch = 2 }

-- as it is written
abbrev pub text_of : Version → List ℕ
text_of version.V14 = codes "1.4"
text_of version.V141 = codes "1.4.1"
text_of version.V142 = codes "1.4.2"

-- the versions that are served, the greatest first
abbrev pub served : List Version
served = version.V142 ∷ version.V141 ∷ version.V14 ∷ []

-- the greatest and the least of them
abbrev pub protocol_max : Version
protocol_max = get_or served 0 version.V14

abbrev pub protocol_min : Version
protocol_min = get_or served (length served - 1) version.V14

-- the version lies from the first to the second
abbrev pub lies_within : VersionParts → VersionParts → Version → Bool
lies_within least most v = is_up_to least (parts_of v) && is_up_to (parts_of v) most

-- the first of these that lies from the first to the second
abbrev pub first_within : List Version → VersionParts → VersionParts → Option Version
first_within versions least most = find (lies_within least most) versions

-- the greatest version that is served and that the client takes
abbrev pub greatest_shared : VersionParts → VersionParts → Option Version
greatest_shared least most = first_within served least most

-- the version lies from the first to the second, and none of them that does is above it
abbrev pub IsGreatest : VersionParts → VersionParts → Version → Type 0
IsGreatest least most v =
    (lies_within least most v ≡ true)
    × ((other : Version) → lies_within least most other ≡ true
    → is_up_to (parts_of other) (parts_of v) ≡ true)

-- what a client takes that names no version
abbrev pub default_version : VersionParts
default_version = parts_of version.V14

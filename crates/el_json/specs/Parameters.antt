-- Parameters of a request, by place or by name (JSON-RPC 2.0, section 4.2), and their kinds (Electrum
-- Protocol 1.4).
use Rattle.std.specs.Prelude.{ℕ, ◌&&◌, ◌||◌, nat_le, Bool, true, false, List, [], ◌∷◌, length, reverse, map, Option, Some, None, option_and_then, Result, Ok, Err}
use Rattle.std.specs.Borrow.{Bor}
use Rattle.std.specs.Str.{bytes_eq}
use Rattle.hex.specs.Hex.{decode_sized}
use Rattle.hex.specs.declared.FromHexError.{FromHexError}
use Rattle.el_base.specs.declared.hash.Hash32.{Hash32}
use Rattle.serde_json.specs.Data.{Data, array, Items, no_items, item, Members, no_members, member}
use Rattle.serde_json.specs.Events.{items_len}
use Rattle.serde_json.specs.Find.{get_item, get_member, as_u64, as_number, as_str}
use Rattle.el_json.specs.declared.params.Params.{Params}
use Rattle.el_json.specs.declared.params.Params.TheVariants.{Places, Names}

-- 1. What is given

-- texts, of references to them
abbrev pub texts_of : List (Bor (List ℕ)) → List (List ℕ)
texts_of names = map (λ (n : Bor (List ℕ)). n.now) names

-- what is given for the parameter of this place, counted from 0, and name
abbrev pub given : Params → ℕ → List ℕ → Option Data
given (Places ds) place name = get_item place ds
given (Names ms) place name = get_member name ms

-- the name is one of these
abbrev pub is_known_name : List (List ℕ) → List ℕ → Bool
is_known_name [] name = false
is_known_name (n ∷ ns) name = bytes_eq n name || is_known_name ns name

-- each member has one of these names
abbrev pub all_among : List (List ℕ) → Members → Bool
all_among names no_members = true
all_among names (member k d ms) = is_known_name names k && all_among names ms

-- Nothing is given but parameters of these names; by place, no more than there are.
abbrev pub has_only : List (List ℕ) → Params → Bool
has_only names (Places ds) = nat_le (items_len ds) (length names)
has_only names (Names ms) = all_among names ms

-- 2. Kinds

-- a whole number from 0 to 2^64 - 1
abbrev pub number_in : Data → Option ℕ
number_in d = option_and_then as_u64 (as_number d)

-- decoded bytes as a hash: they are shown in the reverse of the inner order
abbrev pub hash_or : Result (List ℕ) FromHexError → Option Hash32
hash_or (Ok bytes) = Some (record { 0 = reverse bytes })
hash_or (Err e) = None

-- the hash, in inner order, that is shown by 64 hex digits in either case
abbrev pub hash_shown : List ℕ → Option Hash32
hash_shown text = hash_or (decode_sized text 32)

-- the hash that a text shows by 64 hex digits, in inner order
abbrev pub hash_from_hex : Data → Option Hash32
hash_from_hex d = option_and_then hash_shown (as_str d)

-- the two values of a list of exactly two
abbrev pub pair_of : Items → Option (Data × Data)
pair_of (item a (item b no_items)) = Some (a, b)
pair_of ds = None

-- the two values of a list of exactly two
abbrev pub pair_in : Data → Option (Data × Data)
pair_in (array ds) = pair_of ds
pair_in d = None

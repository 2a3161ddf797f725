-- How much room a compact text is given before it is written.
use Rattle.std.specs.Prelude.{ℕ, ◌+◌, length}
use Rattle.serde_json.specs.Data.{Data, null, boolean, number, string, array, object, Items, no_items, item, Members, no_members, member}

-- Room for the compact text of a value and a comma after it, in bytes: as much as the longest word or whole
-- number of 64 bits takes, a text with its quotes, and brackets round the parts. A text that needs escapes
-- takes more.
abbrev mutual
  pub room : Data → ℕ
  room null = 5
  room (boolean b) = 6
  room (number n) = 21
  room (string s) = length s + 3
  room (array ds) = 3 + items_room ds
  room (object ms) = 3 + members_room ms

  pub items_room : Items → ℕ
  items_room no_items = 0
  items_room (item d ds) = room d + items_room ds

  pub members_room : Members → ℕ
  members_room no_members = 0
  members_room (member k d ms) = (length k + 3) + room d + members_room ms

-- The replies of a batch as they are gathered in memory.
use Rattle.std.specs.Prelude.{◌≡◌, ◌≤◌, ◌+◌, ℕ, List, true, length, vec_capacity, Option, IfSome}
use Rattle.el_replies.specs.Batches.{Replies}
use Rattle.el_replies.specs.declared.batch.Gathered.{Gathered}
use Rattle.el_replies.specs.declared.error_room.TheConstants.{ERROR_SIZE}

-- what is gathered, as contracts see it
abbrev pub replies_of : Gathered → Replies
replies_of r = record { text = r.text.items; size = r.size; any = r.any; closes = r.closes }

-- there is room for what ends the batch
abbrev pub HasEnd : Gathered → Type 0
HasEnd r = r.any ≡ true → length r.text.items + 2 ≤ vec_capacity r.text

-- There is room for a reply with an error to a request with this text of its id, unless it is a notification,
-- and for the byte before it and what ends the batch.
abbrev pub HasSpace : Option (List ℕ) → Gathered → Type 0
HasSpace id r = IfSome id (λ i. length r.text.items + (length i + (ERROR_SIZE + 3)) ≤ vec_capacity r.text)

use Rattle.std.proofs.Common.{◌≡◌, ◌≤◌, ◌+◌, ◌-◌, ◌^◌, min, drop}
use Rattle.serde_json.specs.View.{items_view, members_view}
use Rattle.el_json.specs.within.Room as spec
use Rattle.el_json.proofs.printing.+room_of.Given as goal

-- the room so far and that of the elements that are left
abbrev pub invariant-items_room-loop-item : goal.invariant-items_room-loop-item
invariant-items_room-loop-item l =
    (l.room ≤ 2 ^ 64 - 1)
    × (min (l.room + spec.items_room (items_view (drop l.item-index l.item-items))) (2 ^ 64 - 1)
    ≡ min (3 + spec.items_room (items_view l.item-items)) (2 ^ 64 - 1))

-- the room so far and that of the members that are left
abbrev pub invariant-members_room-loop-name : goal.invariant-members_room-loop-name
invariant-members_room-loop-name l =
    (l.room ≤ 2 ^ 64 - 1)
    × (min (l.room + spec.members_room (members_view l.name-iterator)) (2 ^ 64 - 1)
    ≡ min (3 + spec.members_room (members_view l.map.entries)) (2 ^ 64 - 1))

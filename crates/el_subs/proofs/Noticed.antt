-- Each line that a client is told tells a tip or a status.
use Rattle.std.proofs.Common.{◌≡◌, codes, ℕ, List, [], ◌∷◌, ◌++◌, map, refl}
use Rattle.std.specs.List.{AllByRecursion}
use Rattle.el_base.proofs.Lists.{all_append}
use Rattle.el_sessions.specs.Sessions.{Subscription}
use Rattle.serde_json.specs.Data.{Data, array, item, no_items}
use Rattle.el_subs.specs.Notices.{IsNotice, of_tip, of_status, line_of, notification, script_line}

statuses : (subs : List Subscription) → AllByRecursion IsNotice (map script_line subs)
statuses [] = tt
statuses (sub ∷ subs) = (of_status sub refl, statuses subs)

pub with_statuses : (lines all : List (List ℕ)) (subs : List Subscription) → all ≡ lines ++ map script_line subs
    → AllByRecursion IsNotice lines → AllByRecursion IsNotice all
with_statuses lines all subs is told = rw is (all_append IsNotice lines (map script_line subs) told (statuses subs))

pub with_tip : (lines all : List (List ℕ)) (line : List ℕ) (shown : Data)
    → line ≡ line_of (notification (codes "blockchain.headers.subscribe") (array (item shown no_items)))
    → all ≡ lines ++ line ∷ [] → AllByRecursion IsNotice lines → AllByRecursion IsNotice all
with_tip lines all line shown tells is told = rw is (all_append IsNotice lines (line ∷ []) told (of_tip shown tells, tt))

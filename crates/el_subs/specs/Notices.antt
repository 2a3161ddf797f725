-- What a client is told without having asked: notifications (JSON-RPC 2.0, section 4.1) of a new tip and of
-- new statuses, each ended by byte 10 (Electrum Protocol 1.4, blockchain.headers.subscribe and
-- blockchain.scripthash.subscribe, "Notifications").
use Rattle.std.specs.Prelude.{◌≡◌, ℕ, ◌&&◌, not, if◌then◌else◌, Bool, List, [], ◌∷◌, ◌++◌, codes, map, Option, Result, Ok, Err}
use Rattle.std.specs.Option.{option_eq}
use Rattle.serde_json.specs.Data.{Data, string, array, no_items, item}
use Rattle.serde_json.specs.Written.{compact_text}
use Rattle.el_base.specs.declared.hash.Hash32.{Hash32}
use Rattle.el_chain.specs.Chains.{Chain}
use Rattle.el_chain.specs.Headers.{same_hash}
use Rattle.el_model.specs.Queries.{tip_of}
use Rattle.el_calls.specs.declared.refusal.Refusal.{Refusal}
use Rattle.el_methods.specs.Results.{object_of, shown_hash, told, headers_subscribe}
use Rattle.el_sessions.specs.Sessions.{Subscription}
use Rattle.el_sessions.specs.declared.session.Session.{Session}
use Rattle.el_subs.specs.Told.{news, marked}

-- a notification of this method, whose parameters are this list
abbrev pub notification : List ℕ → Data → Data
notification method params =
    object_of ((codes "jsonrpc", string (codes "2.0")) ∷ (codes "method", string method)
    ∷ (codes "params", params) ∷ [])

-- a notification as it is sent: its compact text, and the newline (10)
unfoldable pub line_of : Data → List ℕ
line_of value = compact_text value ++ 10 ∷ []

-- the last block's height and header; nothing is said of no blocks
abbrev pub tip_lines : Result Data Refusal → List (List ℕ)
tip_lines (Ok tip) =
    line_of (notification (codes "blockchain.headers.subscribe") (array (item tip no_items))) ∷ []
tip_lines (Err r) = []

-- the line that tells a client of the tip, where it subscribes to headers and the tip isn't the one before
abbrev pub header_lines : Option Hash32 → Chain → Bool → List (List ℕ)
header_lines before chain headers =
    if headers && not (option_eq same_hash before (tip_of chain)) then tip_lines (headers_subscribe chain)
    else []

-- the status of a script hash
abbrev pub script_line : Subscription → List ℕ
script_line sub =
    line_of (notification (codes "blockchain.scripthash.subscribe")
    (array (item (shown_hash sub.0) (item (told sub.1) no_items))))

-- All that a client is told after a line of the node: the header line, and then a line for each of its
-- subscriptions to script hashes, in their order, whose status isn't the one told last. Every status is
-- compared. `before` is the tip before the line.
abbrev pub notices : (Hash32 → Option Hash32) → Option Hash32 → Chain → Session → List (List ℕ)
notices status before chain session =
    header_lines before chain session.headers ++ map script_line (news status session.subs)

-- the line tells a tip, or the status of a script hash
pub data IsNotice (line : List ℕ) : Type 0 where
  of_tip : (shown : Data)
      → line ≡ line_of (notification (codes "blockchain.headers.subscribe") (array (item shown no_items)))
      → IsNotice line
  of_status : (sub : Subscription) → line ≡ script_line sub → IsNotice line

-- what is kept of the client once it was told
abbrev pub notified : (Hash32 → Option Hash32) → Session → Session
notified status session = record session { subs = marked status session.subs }

-- What each call is answered (Electrum Protocol 1.4.2): the table of methods.
use Rattle.std.specs.Prelude.{◌≡◌, ◌≢◌, ◌⊎◌, ⊤, negsuc, Bool, true, false, not, if◌then◌else◌, List, [], Option, None, Some, Result, Ok, Err, IfOk, OnErr, codes}
use Rattle.serde_json.specs.Data.{Data, null, boolean, number, string, array, no_items, item}
use Rattle.serde_json.specs.Find.{of_integer}
use Rattle.el_base.specs.declared.hash.Hash32.{Hash32}
use Rattle.el_chain.specs.Chains.{Chain}
use Rattle.el_tx.specs.Hashing.{txid, full_encoding}
use Rattle.el_tx.specs.declared.types.Tx.{Tx}
use Rattle.el_chain.specs.declared.node.Node.{Node}
use Rattle.el_model.specs.Queries.{find_tx}
use Rattle.el_view.specs.Views.{balance}
use Rattle.el_methods.specs.Results as result
use Rattle.el_methods.specs.Results.{whole, hex, balance_value}
use Rattle.el_side.specs.Side.{Side, IsSure}
use Rattle.el_methods.specs.Archives.{HasAsked}
use Rattle.el_methods.specs.Outcomes.{IsReplyWith, RefusesOnly, TellsNoFiles}
use Rattle.el_methods.specs.declared.stop.Stop.{Stop}
use Rattle.el_methods.specs.declared.stop.Stop.TheVariants as stop
use Rattle.el_calls.specs.Versions.{greatest_shared, text_of}
use Rattle.el_sessions.specs.Sessions.{Subscription, is_subscribed, subscribed, unsubscribed}
use Rattle.el_sessions.specs.declared.session.Version.{Version}
use Rattle.el_calls.specs.declared.call.VersionParts.{VersionParts}
use Rattle.el_calls.specs.declared.refusal.Refusal.TheVariants as refusal
use Rattle.el_sessions.specs.declared.session.Session.{Session}
use Rattle.el_calls.specs.declared.call.Call.{Call}
use Rattle.el_calls.specs.declared.call.Call.TheVariants as call
use Rattle.el_calls.specs.declared.refusal.Refusal.{Refusal}

-- the answer, after which this is kept
abbrev pub answer_with_session : Session → Result Data Refusal → Result (Data × Session) Refusal
answer_with_session s (Ok answer) = Ok (answer, s)
answer_with_session s (Err r) = Err r

-- it is told new tips, or isn't
abbrev pub with_headers : Session → Result (Data × Bool) Refusal → Result (Data × Session) Refusal
with_headers s (Ok answer) = Ok (answer.0, record s { headers = answer.1 })
with_headers s (Err r) = Err r

-- the session has the subscriptions that come with the answer; where the call is refused, the refusal
abbrev pub with_subscriptions :
    Session → Result (Data × List Subscription) Refusal → Result (Data × Session) Refusal
with_subscriptions s (Ok answer) = Ok (answer.0, record s { subs = answer.1 })
with_subscriptions s (Err r) = Err r

-- it has agreed that version, or shares none
abbrev pub agreed_on : Session → Option Version → Result (Data × Session) Refusal
agreed_on s None = Err refusal.VersionNotShared
agreed_on s (Some v) = Ok (
  array (item (string (codes "el_serve 1.0")) (item (string (text_of v)) no_items)),
  record s { version = Some v },
)

-- server.version: once, the greatest version that is shared
abbrev pub agreed : Session → Option Version → VersionParts → VersionParts → Result (Data × Session) Refusal
agreed s (Some before) least most = Err refusal.VersionAgreed
agreed s None least most = agreed_on s (greatest_shared least most)

-- What each call is answered over a chain, the unconfirmed transactions that are kept and the headers that
-- were found, and what is kept of the client afterwards.
abbrev pub replied : Chain → List Tx → List Node → Session → Call → Result (Data × Session) Refusal
replied chain kept found s (call.ServerVersion least most) = agreed s s.version least most
replied chain kept found s call.ServerBanner =
    Ok (string (codes "Electrum Protocol 1.4 server over block files"), s)
replied chain kept found s call.ServerDonationAddress = Ok (string [], s)
replied chain kept found s call.ServerFeatures = answer_with_session s (result.features found)
replied chain kept found s call.ServerPing = Ok (null, s)
replied chain kept found s call.ServerPeersSubscribe = Ok (array no_items, s)
replied chain kept found s call.ServerAddPeer = Ok (boolean false, s)
replied chain kept found s (call.BlockHeader height cp_height) =
    answer_with_session s (result.block_header chain height cp_height)
replied chain kept found s (call.BlockHeaders start count cp_height) =
    answer_with_session s (result.block_headers chain start count cp_height)
replied chain kept found s call.EstimateFee = Ok (number (of_integer (negsuc 0)), s)
replied chain kept found s call.RelayFee = Ok (whole 0, s)
replied chain kept found s call.HeadersSubscribe =
    with_headers s (result.told_tip (result.headers_subscribe chain))
replied chain kept found s (call.GetBalance script_hash) =
    Ok (balance_value (balance chain kept script_hash.0), s)
replied chain kept found s (call.GetHistory script_hash) =
    answer_with_session s (result.get_history chain kept script_hash.0)
replied chain kept found s (call.GetMempool script_hash) =
    answer_with_session s (result.get_mempool chain kept script_hash.0)
replied chain kept found s (call.ListUnspent script_hash) =
    answer_with_session s (result.list_unspent chain kept script_hash.0)
replied chain kept found s (call.ScriptHashSubscribe script_hash) =
    with_subscriptions s (result.script_hash_subscribe chain kept s.subs script_hash)
replied chain kept found s (call.ScriptHashUnsubscribe script_hash) =
    Ok (boolean (is_subscribed script_hash s.subs), record s { subs = unsubscribed script_hash s.subs })
replied chain kept found s (call.Broadcast bytes) = Err refusal.NoRelay
replied chain kept found s (call.TransactionGet id verbose) =
    answer_with_session s (result.transaction_get chain kept id verbose)
replied chain kept found s (call.GetMerkle id height) = answer_with_session s
    (result.get_merkle chain id height)
replied chain kept found s (call.IdFromPos height pos merkle) =
    answer_with_session s (result.id_from_pos chain height pos merkle)
replied chain kept found s call.FeeHistogram = Ok (result.fee_histogram chain kept, s)

-- the answer is read from the chain or from the unconfirmed set
abbrev pub reads_chain : Call → Bool
reads_chain (call.BlockHeader height cp_height) = true
reads_chain (call.BlockHeaders start count cp_height) = true
reads_chain call.HeadersSubscribe = true
reads_chain (call.GetBalance script_hash) = true
reads_chain (call.GetHistory script_hash) = true
reads_chain (call.GetMempool script_hash) = true
reads_chain (call.ListUnspent script_hash) = true
reads_chain (call.ScriptHashSubscribe script_hash) = true
reads_chain (call.TransactionGet id verbose) = not verbose
reads_chain (call.GetMerkle id height) = true
reads_chain (call.IdFromPos height pos merkle) = true
reads_chain call.FeeHistogram = true
reads_chain c = false

-- For which reasons such a call may be refused, whatever the chain and the unconfirmed set are.
abbrev pub MayRefuse : Session → Call → Refusal → Type 0
MayRefuse s (call.BlockHeader height cp_height) r =
    (r ≡ refusal.NoSuchHeight) ⊎ (r ≡ refusal.BadCheckpoint)
MayRefuse s (call.BlockHeaders start count cp_height) r = r ≡ refusal.BadCheckpoint
MayRefuse s call.HeadersSubscribe r = r ≡ refusal.NoBlocks
MayRefuse s (call.GetHistory script_hash) r = r ≡ refusal.HistoryTooLarge
MayRefuse s (call.GetMempool script_hash) r = r ≡ refusal.HistoryTooLarge
MayRefuse s (call.ListUnspent script_hash) r = r ≡ refusal.HistoryTooLarge
MayRefuse s (call.ScriptHashSubscribe script_hash) r =
    (r ≡ refusal.TooManySubscriptions) × (result.is_one_too_many s.subs script_hash ≡ true)
MayRefuse s (call.TransactionGet id verbose) r = r ≡ refusal.NoSuchTransaction
MayRefuse s (call.GetMerkle id height) r = (r ≡ refusal.NoSuchHeight) ⊎ (r ≡ refusal.NotInThatBlock)
MayRefuse s (call.IdFromPos height pos merkle) r =
    (r ≡ refusal.NoSuchHeight) ⊎ (r ≡ refusal.NoSuchPosition)
MayRefuse s c r = ⊥

-- The client was told some status of the script hash, and then has a subscription to it that was told this
-- one; the others stay as they were. It isn't one too many.
pub record HasSubscribed (was : List Subscription) (script_hash : Hash32) (answer : Data)
    (now : List Subscription) : Type 0 where
  pub status : Option Hash32
  pub answer_is : answer ≡ result.told status
  pub now_is : now ≡ subscribed script_hash status was
  pub room : result.is_one_too_many was script_hash ≡ false

-- What is kept of the client after an answer to such a call, whatever the chain and the unconfirmed set are:
-- it is told new tips, it has a subscription, or it is as it was.
abbrev pub ChangesSession : Session → Call → Data → Session → Type 0
ChangesSession s call.HeadersSubscribe answer t = t ≡ record s { headers = true }
ChangesSession s (call.ScriptHashSubscribe script_hash) answer t =
    HasSubscribed s.subs script_hash answer t.subs × (t ≡ record s { subs = t.subs })
ChangesSession s c answer t = t ≡ s

-- the answer may be read from the block files
abbrev pub may_read_files : Call → Bool
may_read_files (call.TransactionGet id verbose) = not verbose
may_read_files c = false

-- the answer is read from the block files too
abbrev pub reads_files : List Tx → Call → Bool
reads_files kept (call.TransactionGet id verbose) = result.is_in_files kept id verbose
reads_files kept c = false

-- the bytes of a transaction with that txid, in hex
abbrev pub IsTextOf : Hash32 → Data → Type 0
IsTextOf id answer = (tx : Tx) × (txid tx ≡ id) × (answer ≡ hex (full_encoding tx))

-- What may be given of the chain's transaction with that txid, whatever the block files hold: never the bytes
-- of another one, nor that there is none where the chain has one. That a call of the block files failed, or
-- that they have changed, is told only of one that the chain has.
abbrev pub IsOwnAnswer : Chain → Hash32 → Result Data Stop → Type 0
IsOwnAnswer chain id (Ok answer) = IsTextOf id answer × (find_tx chain id ≢ None)
IsOwnAnswer chain id (Err (stop.Refused r)) = (r ≡ refusal.NoSuchTransaction) × (find_tx chain id ≡ None)
IsOwnAnswer chain id (Err stop.Disk) = ⊤
IsOwnAnswer chain id (Err stop.Archive) = find_tx chain id ≢ None
IsOwnAnswer chain id (Err stop.Changed) = find_tx chain id ≢ None
IsOwnAnswer chain id (Err stop.Memory) = ⊤

-- what may be given of the transaction that the call asks for, where it asks for one
abbrev pub GivesOwn : Chain → Call → Result Data Stop → Type 0
GivesOwn chain (call.TransactionGet id verbose) given = IsOwnAnswer chain id given
GivesOwn chain c given = ⊤

-- What the call asks for is there: the side is sure, and the block files tell that they have it.
abbrev pub IsThere : Type 0 → Side → Call → Type 0
IsThere tells side c = IsSure side × tells × HasAsked side.files side.chain c

-- A call is given this over the side; `tells` is that the block files tell what they hold. Whatever the index
-- stands for, a call that reads neither the chain nor the unconfirmed set is given what is defined, each
-- other one is refused only as it may be and changes what is kept of the client only as it may, that block
-- files failed or have changed is told only where the answer may be read from them, and where a call has no
-- answer, what is kept of the client stays as it was.
-- Over a sure side the answer is what is defined, unless it is read from the block files and they may not
-- have the transaction that is asked for. Where it is read from them, what is kept of the client stays as it
-- was in any case, and another transaction is never given, whatever they hold. That a call of the block files
-- failed, or that they have changed, is told only where it is read from them, and that they have changed only
-- where they lack what is asked for.
pub record IsGiven (tells : Type 0) (side : Side) (c : Call) (s t : Session) (given : Result Data Stop)
    : Type 0 where
  pub of_server : reads_chain c ≡ false
      → IsReplyWith (replied side.chain side.kept side.found s c) s t given
  pub refusals : reads_chain c ≡ true → RefusesOnly (MayRefuse s c) given
  pub changes : reads_chain c ≡ true → IfOk given (λ answer. ChangesSession s c answer t)
  pub alone : may_read_files c ≡ false → TellsNoFiles given
  pub unanswered : OnErr given (t ≡ s)
  pub of_index : IsSure side → reads_files side.kept c ≡ false
      → IsReplyWith (replied side.chain side.kept side.found s c) s t given
  pub of_files : IsThere tells side c → IsReplyWith (replied side.chain side.kept side.found s c) s t given
  pub own : IsSure side → reads_files side.kept c ≡ true → GivesOwn side.chain c given
  pub still : reads_files side.kept c ≡ true → t ≡ s
  pub untold : IsSure side → reads_files side.kept c ≡ false → TellsNoFiles given
  pub unchanged : IsThere tells side c → given ≢ Err stop.Changed

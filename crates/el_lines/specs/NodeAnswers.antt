-- What a node is answered: one line for each of its lines, and one more for each further move of a tip line,
-- each ended by byte 10. Hashes stand in inner order here, and are shown in reverse.
use Rattle.std.specs.Prelude.{ℕ, List, [], ◌++◌, codes, Option, Some, None, option_map}
use Rattle.std.specs.Fmt.{decimal}
use Rattle.el_base.specs.Shown.{shown}
use Rattle.el_base.specs.declared.hash.Hash32.{Hash32}
use Rattle.el_block.specs.declared.fault.BlockFault.{BlockFault}
use Rattle.el_block.specs.declared.fault.BlockFault.TheVariants as block
use Rattle.el_chain.specs.declared.fault.ConnectFault.{ConnectFault}
use Rattle.el_chain.specs.declared.fault.ConnectFault.TheVariants as connect
use Rattle.el_chain.specs.declared.moves.MoveFault.{MoveFault}
use Rattle.el_chain.specs.declared.moves.MoveFault.TheVariants as stop
use Rattle.el_mempool.specs.declared.fault.PoolFault.{PoolFault}
use Rattle.el_mempool.specs.declared.fault.PoolFault.TheVariants as unkept
use Rattle.el_lines.specs.declared.limits.TheConstants.{NODE_LINE_LIMIT}
use Rattle.el_lines.specs.declared.node_answer.NodeAnswer.{NodeAnswer}
use Rattle.el_lines.specs.declared.node_answer.NodeAnswer.TheVariants as say
use Rattle.el_lines.specs.declared.node_answer.NodeRefusal.{NodeRefusal}
use Rattle.el_lines.specs.declared.node_answer.NodeRefusal.TheVariants as refusal
use Rattle.el_lines.specs.declared.node_answer.Flaw.{Flaw}
use Rattle.el_lines.specs.declared.node_answer.Flaw.TheVariants as flaw

-- how many bytes a line of the node may have, without its byte 10
abbrev pub node_limit : ℕ
node_limit = NODE_LINE_LIMIT

-- the word for what is wrong with a block
abbrev pub flaw_word : Flaw → List ℕ
flaw_word flaw.Header = codes "header"
flaw_word flaw.Count = codes "count"
flaw_word flaw.Empty = codes "empty"
flaw_word flaw.Tx = codes "tx"
flaw_word flaw.Trailing = codes "trailing"
flaw_word flaw.Coinbase = codes "coinbase"
flaw_word flaw.Repeated = codes "repeated"
flaw_word flaw.Merkle = codes "merkle"
flaw_word flaw.Heavy = codes "heavy"
flaw_word flaw.Coin = codes "coin"
flaw_word flaw.Money = codes "money"
flaw_word flaw.Full = codes "full"

-- that the block with this hash has the flaw
unfoldable pub bad_text : Hash32 → Flaw → List ℕ
bad_text h f = codes "refused bad " ++ shown h.0 ++ codes " " ++ flaw_word f ++ codes "\n"

-- that a line or a move is refused
unfoldable pub refusal_text : NodeRefusal → List ℕ
refusal_text refusal.Line = codes "refused line\n"
refusal_text refusal.Long = codes "refused long " ++ decimal node_limit ++ codes "\n"
refusal_text refusal.Place = codes "refused place\n"
refusal_text (refusal.Genesis h) = codes "refused genesis " ++ shown h.0 ++ codes "\n"
refusal_text (refusal.Unknown h) = codes "refused unknown " ++ shown h.0 ++ codes "\n"
refusal_text (refusal.Unconnected h) = codes "refused unconnected " ++ shown h.0 ++ codes "\n"
refusal_text (refusal.Deep n) = codes "refused deep " ++ decimal n ++ codes "\n"
refusal_text refusal.Archive = codes "refused archive\n"
refusal_text (refusal.Changed h) = codes "refused changed " ++ shown h.0 ++ codes "\n"
refusal_text (refusal.Bad h f) = bad_text h f
refusal_text refusal.Form = codes "refused form\n"
refusal_text refusal.Coinbase = codes "refused coinbase\n"
refusal_text (refusal.Confirmed id) = codes "refused confirmed " ++ shown id.0 ++ codes "\n"
refusal_text (refusal.Known id) = codes "refused known " ++ shown id.0 ++ codes "\n"
refusal_text (refusal.Missing id index) =
    codes "refused missing " ++ shown id.0 ++ codes " " ++ decimal index ++ codes "\n"
refusal_text (refusal.Conflict id) = codes "refused conflict " ++ shown id.0 ++ codes "\n"
refusal_text (refusal.Overspends taken given) =
    codes "refused overspends " ++ decimal taken ++ codes " " ++ decimal given ++ codes "\n"
refusal_text (refusal.Full count bytes) =
    codes "refused full " ++ decimal count ++ codes " " ++ decimal bytes ++ codes "\n"
refusal_text (refusal.Absent id) = codes "refused absent " ++ shown id.0 ++ codes "\n"

-- where the chain ends: in the block with this hash, of this height; nothing is said of no blocks
unfoldable pub at_text : Option Hash32 → Option ℕ → List ℕ
at_text (Some h) (Some height) = codes "at " ++ shown h.0 ++ codes " " ++ decimal height ++ codes "\n"
at_text (Some h) None = []
at_text None height = []

-- the line that tells the node the answer
unfoldable pub text_of : NodeAnswer → List ℕ
text_of (say.Block h) = codes "block " ++ shown h.0 ++ codes "\n"
text_of (say.At tip height) = at_text tip height
text_of (say.Tx id) = codes "tx " ++ shown id.0 ++ codes "\n"
text_of (say.Gone id) = codes "gone " ++ shown id.0 ++ codes "\n"
text_of (say.Refused why) = refusal_text why

-- what is wrong with a block by a fault of its bytes; out of memory is no flaw
abbrev pub block_flaw : BlockFault → Option Flaw
block_flaw block.Short = Some flaw.Header
block_flaw (block.Count f) = Some flaw.Count
block_flaw block.NoTransactions = Some flaw.Empty
block_flaw (block.Tx index f) = Some flaw.Tx
block_flaw (block.Trailing place) = Some flaw.Trailing
block_flaw block.FirstNotCoinbase = Some flaw.Coinbase
block_flaw (block.LaterCoinbase index) = Some flaw.Coinbase
block_flaw (block.SameTxid first second) = Some flaw.Repeated
block_flaw (block.BadMerkle header found) = Some flaw.Merkle
block_flaw (block.Heavy weight) = Some flaw.Heavy
block_flaw block.Memory = None

-- what is wrong with it over the chain before it; a device that failed, and out of memory, are no flaws
abbrev pub connect_flaw : ConnectFault → Option Flaw
connect_flaw (connect.MissingCoin tx input) = Some flaw.Coin
connect_flaw (connect.Money supply) = Some flaw.Money
connect_flaw (connect.Full table rows) = Some flaw.Full
connect_flaw connect.DiskFailed = None
connect_flaw connect.Memory = None

-- the block has the flaw
abbrev pub bad_refused : Hash32 → Flaw → NodeAnswer
bad_refused h f = say.Refused (refusal.Bad h f)

-- what is said of a move that is refused for a block; a device that failed, and no memory, are no faults
-- of a block
abbrev pub move_refused : MoveFault → Option NodeAnswer
move_refused (stop.Changed wanted found) = Some (say.Refused (refusal.Changed wanted))
move_refused (stop.BadBlock h f) = option_map (bad_refused h) (block_flaw f)
move_refused (stop.Refused h f) = option_map (bad_refused h) (connect_flaw f)
move_refused stop.DiskFailed = None
move_refused stop.ArchiveFailed = None
move_refused stop.Memory = None

-- what is said of a transaction with that txid that isn't kept; a device that failed, and no memory, are
-- no refusals of it
abbrev pub pool_refused : Hash32 → PoolFault → Option NodeAnswer
pool_refused id unkept.Bad = Some (say.Refused refusal.Form)
pool_refused id unkept.CoinbaseForm = Some (say.Refused refusal.Coinbase)
pool_refused id unkept.Confirmed = Some (say.Refused (refusal.Confirmed id))
pool_refused id unkept.Known = Some (say.Refused (refusal.Known id))
pool_refused id (unkept.Missing outpoint) = Some (say.Refused (refusal.Missing outpoint.txid outpoint.index))
pool_refused id (unkept.Conflict outpoint other) = Some (say.Refused (refusal.Conflict other))
pool_refused id (unkept.Overspends taken given) = Some (say.Refused (refusal.Overspends taken given))
pool_refused id (unkept.Full count bytes) = Some (say.Refused (refusal.Full count bytes))
pool_refused id unkept.DiskFailed = None
pool_refused id unkept.Memory = None

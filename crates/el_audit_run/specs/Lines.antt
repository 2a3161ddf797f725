-- The line of what an audit finds.
use Rattle.std.specs.Prelude.{ℕ, List, ◌++◌, codes, Option, None, Some}
use Rattle.std.specs.Fmt.{decimal}
use Rattle.el_base.specs.Shown.{shown}
use Rattle.el_base.specs.declared.hash.Hash32.{Hash32}
use Rattle.el_chain.specs.declared.coin.Coin.{Coin}
use Rattle.el_chain.specs.declared.entry.Entry.{Entry}
use Rattle.el_lines.specs.NodeAnswers.{flaw_word}
use Rattle.el_lines.specs.declared.node_answer.Flaw.{Flaw}
use Rattle.el_audit.specs.declared.claim.Kind.{Kind}
use Rattle.el_audit.specs.declared.claim.Kind.TheVariants as kind
use Rattle.el_audit_run.specs.declared.finding.Finding.{Finding}
use Rattle.el_audit_run.specs.declared.finding.Finding.TheVariants as finding

-- a word and a number after it
abbrev pub numbered_word : List ℕ → ℕ → List ℕ
numbered_word word n = word ++ decimal n

-- a word and a hash after it, as it is shown
abbrev pub hashed : List ℕ → Hash32 → List ℕ
hashed word h = word ++ shown h.0

-- a blank and an entry of a history: its height and its txid; `-` past the end
abbrev pub entry_word : Option Entry → List ℕ
entry_word None = codes " -"
entry_word (Some e) = numbered_word (codes " ") e.height ++ hashed (codes ":") e.txid

-- a blank and a coin: its txid, its index, its value in satoshi and its height; `-` past the end
abbrev pub coin_word : Option Coin → List ℕ
coin_word None = codes " -"
coin_word (Some c) =
    hashed (codes " ") c.outpoint.txid ++ numbered_word (codes ":") c.outpoint.index
    ++ numbered_word (codes ":") c.value ++ numbered_word (codes ":") c.height

-- which script hash differs, in what, and at which place; what is wanted there, and what is claimed
abbrev pub difference_text : Hash32 → Kind → ℕ → List ℕ
difference_text s (kind.History wanted claimed) at =
    hashed (codes "differs history ") s ++ numbered_word (codes " ") at ++ entry_word wanted
    ++ entry_word claimed
difference_text s (kind.Unspent wanted claimed) at =
    hashed (codes "differs unspent ") s ++ numbered_word (codes " ") at ++ coin_word wanted
    ++ coin_word claimed
difference_text s (kind.Balance wanted claimed) at =
    hashed (codes "differs balance ") s ++ numbered_word (codes " ") wanted
    ++ numbered_word (codes " ") claimed

-- the word for what is wrong with a block
abbrev pub block_word : Option Flaw → List ℕ
block_word None = codes "changed"
block_word (Some flaw) = flaw_word flaw

-- which block differs, and in what
abbrev pub block_text : Hash32 → Option Flaw → List ℕ
block_text h flaw = hashed (codes "differs block ") h ++ codes " " ++ block_word flaw

-- that all are the same, up to which height, and how many were looked at
abbrev pub same_text : ℕ → ℕ → ℕ → List ℕ
same_text height txs scripts =
    numbered_word (codes "same height ") height ++ numbered_word (codes " transactions ") txs
    ++ numbered_word (codes " scripts ") scripts

-- the line that tells a finding, without its newline
abbrev pub finding_text : Finding → List ℕ
finding_text finding.Empty = codes "same empty"
finding_text (finding.NoPath tip) = hashed (codes "differs tip ") tip
finding_text (finding.TooLarge bytes) = numbered_word (codes "audit too large ") bytes
finding_text (finding.BadBlock block flaw) = block_text block flaw
finding_text (finding.Differs script kind at) = difference_text script kind at
finding_text (finding.Same height txs scripts) = same_text height txs scripts

-- its line, ended by byte 10
abbrev pub finding_line : Finding → List ℕ
finding_line f = finding_text f ++ codes "\n"

-- The errors of replies: codes and messages (JSON-RPC 2.0, section 5.1; from code 1 on this server's own).
use Rattle.std.specs.Prelude.{ℕ, ℤ, pos, negsuc, List, codes}
use Rattle.el_calls.specs.declared.refusal.Refusal.{Refusal}
use Rattle.el_calls.specs.declared.refusal.Refusal.TheVariants as refusal

-- `negsuc n` is -(n + 1)
abbrev pub code_of : Refusal → ℤ
code_of refusal.Parse = negsuc 32699
code_of refusal.Invalid = negsuc 32599
code_of refusal.UnknownMethod = negsuc 32600
code_of refusal.InvalidParams = negsuc 32601
code_of refusal.BatchTooLarge = pos 1
code_of refusal.NoBlocks = pos 1
code_of refusal.NoSuchHeight = pos 1
code_of refusal.BadCheckpoint = pos 1
code_of refusal.HistoryTooLarge = pos 1
code_of refusal.TooManySubscriptions = pos 1
code_of refusal.VerboseNotServed = pos 1
code_of refusal.NoSuchTransaction = pos 1
code_of refusal.NotInThatBlock = pos 1
code_of refusal.NoSuchPosition = pos 1
code_of refusal.VersionAgreed = pos 1
code_of refusal.VersionNotShared = pos 1
code_of refusal.NotTransaction = pos 1
code_of refusal.CoinbaseNotRelayed = pos 1
code_of refusal.RefusedByRelay = pos 1
code_of refusal.NoRelay = pos 2
code_of refusal.DiskFailed = pos 3
code_of refusal.ArchiveFailed = pos 4
code_of refusal.ArchiveChanged = pos 5
code_of refusal.RelayFailed = pos 6

-- what the error says, in words
abbrev pub message_of : Refusal → List ℕ
message_of refusal.Parse = codes "parse error"
message_of refusal.Invalid = codes "invalid request"
message_of refusal.UnknownMethod = codes "unknown method"
message_of refusal.InvalidParams = codes "invalid params"
message_of refusal.BatchTooLarge = codes "batch too large"
message_of refusal.NoBlocks = codes "no blocks yet"
message_of refusal.NoSuchHeight = codes "no such height"
message_of refusal.BadCheckpoint = codes "bad checkpoint"
message_of refusal.HistoryTooLarge = codes "history too large"
message_of refusal.TooManySubscriptions = codes "too many subscriptions"
message_of refusal.VerboseNotServed = codes "verbose not served"
message_of refusal.NoSuchTransaction = codes "no such transaction"
message_of refusal.NotInThatBlock = codes "not in that block"
message_of refusal.NoSuchPosition = codes "no such position"
message_of refusal.VersionAgreed = codes "version already agreed"
message_of refusal.VersionNotShared = codes "version not shared"
message_of refusal.NotTransaction = codes "not a transaction"
message_of refusal.CoinbaseNotRelayed = codes "coinbase not relayed"
message_of refusal.RefusedByRelay = codes "refused by relay"
message_of refusal.NoRelay = codes "no relay"
message_of refusal.DiskFailed = codes "index device failed"
message_of refusal.ArchiveFailed = codes "block files failed"
message_of refusal.ArchiveChanged = codes "block files changed"
message_of refusal.RelayFailed = codes "relay failed"

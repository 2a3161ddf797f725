use Rattle.std.proofs.Common.{◌≡◌}
use Rattle.el_calls.specs.Names.{name_of}
use Rattle.el_calls.specs.declared.method.Method.{Method}
use Rattle.el_calls.specs.declared.method.Method.TheVariants as method
use Rattle.el_calls.proofs.method.Method.named.Goals as goal

pub returns-in_default-clause-none : goal.returns-in_default-clause-none
returns-in_default-clause-none c = λ m.
    elim m as (λ (m : Method). c.args.name.now ≡ name_of m → ⊥) [
      | method.ServerVersion ↦ c.in_default.not-text
      | method.ServerBanner ↦ c.in_default.not-text-2
      | method.ServerDonationAddress ↦ c.in_default.not-text-3
      | method.ServerFeatures ↦ c.in_default.not-text-4
      | method.ServerPing ↦ c.in_default.not-text-5
      | method.ServerPeersSubscribe ↦ c.in_default.not-text-6
      | method.ServerAddPeer ↦ c.in_default.not-text-7
      | method.BlockHeader ↦ c.in_default.not-text-8
      | method.BlockHeaders ↦ c.in_default.not-text-9
      | method.EstimateFee ↦ c.in_default.not-text-10
      | method.RelayFee ↦ c.in_default.not-text-11
      | method.HeadersSubscribe ↦ c.in_default.not-text-12
      | method.GetBalance ↦ c.in_default.not-text-13
      | method.GetHistory ↦ c.in_default.not-text-14
      | method.GetMempool ↦ c.in_default.not-text-15
      | method.ListUnspent ↦ c.in_default.not-text-16
      | method.ScriptHashSubscribe ↦ c.in_default.not-text-17
      | method.ScriptHashUnsubscribe ↦ c.in_default.not-text-18
      | method.Broadcast ↦ c.in_default.not-text-19
      | method.TransactionGet ↦ c.in_default.not-text-20
      | method.GetMerkle ↦ c.in_default.not-text-21
      | method.IdFromPos ↦ c.in_default.not-text-22
      | method.FeeHistogram ↦ c.in_default.not-text-23
    ]

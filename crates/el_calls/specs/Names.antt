-- The names of the methods (Electrum Protocol 1.4.2, "Protocol Methods").
use Rattle.std.specs.Prelude.{ℕ, List, codes}
use Rattle.el_calls.specs.declared.method.Method.{Method}
use Rattle.el_calls.specs.declared.method.Method.TheVariants as method

-- the name by which a request asks for the method
abbrev pub name_of : Method → List ℕ
name_of method.ServerVersion = codes "server.version"
name_of method.ServerBanner = codes "server.banner"
name_of method.ServerDonationAddress = codes "server.donation_address"
name_of method.ServerFeatures = codes "server.features"
name_of method.ServerPing = codes "server.ping"
name_of method.ServerPeersSubscribe = codes "server.peers.subscribe"
name_of method.ServerAddPeer = codes "server.add_peer"
name_of method.BlockHeader = codes "blockchain.block.header"
name_of method.BlockHeaders = codes "blockchain.block.headers"
name_of method.EstimateFee = codes "blockchain.estimatefee"
name_of method.RelayFee = codes "blockchain.relayfee"
name_of method.HeadersSubscribe = codes "blockchain.headers.subscribe"
name_of method.GetBalance = codes "blockchain.scripthash.get_balance"
name_of method.GetHistory = codes "blockchain.scripthash.get_history"
name_of method.GetMempool = codes "blockchain.scripthash.get_mempool"
name_of method.ListUnspent = codes "blockchain.scripthash.listunspent"
name_of method.ScriptHashSubscribe = codes "blockchain.scripthash.subscribe"
name_of method.ScriptHashUnsubscribe = codes "blockchain.scripthash.unsubscribe"
name_of method.Broadcast = codes "blockchain.transaction.broadcast"
name_of method.TransactionGet = codes "blockchain.transaction.get"
name_of method.GetMerkle = codes "blockchain.transaction.get_merkle"
name_of method.IdFromPos = codes "blockchain.transaction.id_from_pos"
name_of method.FeeHistogram = codes "mempool.get_fee_histogram"

-- The words of the command line.
use Rattle.std.specs.Prelude.{◌≡◌, ◌≢◌, ℕ, ◌+◌, ◌≤◌, List, [], ◌∷◌, map, codes, String, Option, Some, None, is_some, IsSomeAnd}
use Rattle.std.specs.Global.{Global}
use Rattle.std.specs.String.{string_bytes}
use Rattle.el_lines.specs.NodeLines.{ShowsNumber}
use Rattle.el_mempool.specs.declared.entry.PoolLimits.{PoolLimits}
use Rattle.el_words.specs.Options.{Word, Given, words_of, AreOptions, value_of}
use Rattle.el_words.specs.declared.words.Network.{Network}
use Rattle.el_words.specs.declared.words.Network.TheVariants as network
use Rattle.el_words.specs.declared.words.ServeWords.{ServeWords}

-- the word that names a network
abbrev pub network_name : Network → List ℕ
network_name network.Main = codes "main"
network_name network.Testnet3 = codes "testnet3"
network_name network.Regtest = codes "regtest"

-- the bytes that begin its records (Bitcoin's message start)
abbrev pub network_magic : Network → List ℕ
network_magic network.Main = 0xf9 ∷ 0xbe ∷ 0xb4 ∷ 0xd9 ∷ []
network_magic network.Testnet3 = 0x0b ∷ 0x11 ∷ 0x09 ∷ 0x07 ∷ []
network_magic network.Regtest = 0xfa ∷ 0xbf ∷ 0xb5 ∷ 0xda ∷ []

-- a number from 1 up to `most` in decimal, by one to ten digits, of which the first may be zeros
pub record IsNumberUpTo (most : ℕ) (text : Word) (n : ℕ) : Type 0 where
  pub number : ShowsNumber text 10 (most + 1) n
  pub least : 1 ≤ n

-- the text is a port, from 1 to 65,535
abbrev pub IsPort : Word → ℕ → Type 0
IsPort = IsNumberUpTo 65535

-- a limit: the number that its option gives, or the greatest where the option isn't given
abbrev pub IsLimit : ℕ → Option Word → ℕ → Type 0
IsLimit most None n = n ≡ most
IsLimit most (Some text) n = IsNumberUpTo most text n

-- the two ports, which differ
pub record ArePorts (given : Given) (client_port node_port : ℕ) : Type 0 where
  pub client : IsSomeAnd (value_of (codes "--client-port") given) (λ text. IsPort text client_port)
  pub node : IsSomeAnd (value_of (codes "--node-port") given) (λ text. IsPort text node_port)
  pub differ : client_port ≢ node_port

-- the limits of the unconfirmed set: how many transactions, and how many bytes of them
pub record AreLimits (given : Given) (limits : PoolLimits) : Type 0 where
  pub count : IsLimit 1000000 (value_of (codes "--pool-count") given) limits.count
  pub bytes : IsLimit 300000000 (value_of (codes "--pool-bytes") given) limits.bytes

-- how many bits the number of a bucket has in an index that is made: the number that its option gives, from
-- 16 to 24, or 16 where the option isn't given
abbrev pub IsHeadBits : Option Word → ℕ → Type 0
IsHeadBits None n = n ≡ 16
IsHeadBits (Some text) n = IsNumberUpTo 24 text n × (16 ≤ n)

-- the greatest limits, which stand where no others are given
abbrev pub greatest_limits : PoolLimits
greatest_limits = record { count = 1000000; bytes = 300000000 }

-- the options of `once`
abbrev pub once_options : List Word
once_options = codes "--blocks" ∷ codes "--network" ∷ []

-- the options of `audit`
abbrev pub audit_options : List Word
audit_options = codes "--blocks" ∷ codes "--index" ∷ codes "--network" ∷ []

-- the options of `serve`
abbrev pub serve_options : List Word
serve_options = codes "--blocks" ∷ codes "--index" ∷ codes "--network" ∷ codes "--client-port"
    ∷ codes "--node-port" ∷ codes "--pool-count" ∷ codes "--pool-bytes" ∷ codes "--head-bits"
    ∷ codes "--relay" ∷ []

-- the words `once --blocks DIR --network NET`, the options in any order
pub record IsOnceOf (words : List Word) (blocks : Word) (n : Network) : Type 0 where
  pub given : Given
  pub words_are : words ≡ codes "once" ∷ words_of given
  pub options : AreOptions once_options given
  pub blocks_is : value_of (codes "--blocks") given ≡ Some blocks
  pub network_is : value_of (codes "--network") given ≡ Some (network_name n)

-- the words `audit --blocks DIR --index DIR --network NET`, the options in any order
pub record IsAuditOf (words : List Word) (blocks index : Word) (n : Network) : Type 0 where
  pub given : Given
  pub words_are : words ≡ codes "audit" ∷ words_of given
  pub options : AreOptions audit_options given
  pub blocks_is : value_of (codes "--blocks") given ≡ Some blocks
  pub index_is : value_of (codes "--index") given ≡ Some index
  pub network_is : value_of (codes "--network") given ≡ Some (network_name n)

-- the words `serve --blocks DIR --index DIR --network NET --client-port N --node-port N`, with `--pool-count
-- N`, `--pool-bytes N`, `--head-bits N` and `--relay DIR` or without, the options in any order, which say
-- this
pub record IsServeOf (words : List Word) (said : ServeWords) : Type 0 where
  pub given : Given
  pub words_are : words ≡ codes "serve" ∷ words_of given
  pub options : AreOptions serve_options given
  pub blocks_is : value_of (codes "--blocks") given ≡ Some said.blocks
  pub index_is : value_of (codes "--index") given ≡ Some said.index
  pub network_is : value_of (codes "--network") given ≡ Some (network_name said.settings.network)
  pub ports : ArePorts given said.settings.client_port said.settings.node_port
  pub limits_are : AreLimits given said.settings.limits
  pub head_bits_are : IsHeadBits (value_of (codes "--head-bits") given) said.settings.head_bits
  pub relay_is : value_of (codes "--relay") given ≡ said.relay
  pub relays_are : is_some said.relay ≡ said.settings.relays

-- the words `check-chain N`, with a number from 1 to 20,000
pub record IsCheckOf (words : List Word) (count : ℕ) : Type 0 where
  pub number : Word
  pub words_are : words ≡ codes "check-chain" ∷ number ∷ []
  pub shown : IsNumberUpTo 20000 number count

-- the words as bytes
abbrev pub texts : List (String Global) → List Word
texts ws = map string_bytes ws

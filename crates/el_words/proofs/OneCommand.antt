-- Words are those of one command.
use Rattle.std.proofs.Common.{◌≡◌, ◌∙◌, ℕ, List, [], ◌∷◌, slice_index_or, arith, Bool, Option, Some, None, is_some, codes, refl, sym, ap, ap₂, subst, drop, IsSomeAnd}
use Rattle.std.specs.Str.Parse.{digits_value}
use Rattle.el_words.specs.Options.{Word, Given, words_of, value_of}
use Rattle.el_words.specs.Words.{IsOnceOf, IsServeOf, IsCheckOf, IsAuditOf, IsPort, IsLimit, IsHeadBits, network_name}
use Rattle.el_words.specs.Proofs.{SayProof}
use Rattle.el_words.specs.Commands.{IsCommand, IsNoCommand}
use Rattle.el_mempool.specs.declared.entry.PoolLimits.{PoolLimits}
use Rattle.el_words.specs.declared.words.ServeSettings.{ServeSettings}
use Rattle.el_words.specs.declared.words.ServeWords.{ServeWords}
use Rattle.el_words.specs.declared.words.ProofWords.{ProofWords}
use Rattle.el_words.specs.declared.words.Command.{Command}
use Rattle.el_words.specs.declared.words.Command.TheVariants as command
use Rattle.el_words.specs.declared.words.Network.{Network}
use Rattle.el_words.specs.declared.words.Network.TheVariants as network
use Rattle.el_words.proofs.OptionLemmas.{one_given}
use Rattle.el_words.proofs.ProofLemmas.{one_proof}

-- a name is that of one network
same_name : (a b : Network) → network_name a ≡ network_name b → a ≡ b
same_name network.Main network.Main e = refl
same_name network.Main network.Testnet3 e = absurd cc
same_name network.Main network.Regtest e = absurd cc
same_name network.Testnet3 network.Main e = absurd cc
same_name network.Testnet3 network.Testnet3 e = refl
same_name network.Testnet3 network.Regtest e = absurd cc
same_name network.Regtest network.Main e = absurd cc
same_name network.Regtest network.Testnet3 e = absurd cc
same_name network.Regtest network.Regtest e = refl

-- the same options: of one command
one_rest : {first : Word} {words : List Word} {a b : Given} → words ≡ first ∷ words_of a
    → words ≡ first ∷ words_of b → a ≡ b
one_rest {a = a} {b = b} x y = one_given a b (ap (λ (words : List Word). drop 1 words) (sym x ∙ y))

-- an option has one value
one_value : (option : Word) {a b : Given} {x y : Word} → a ≡ b → value_of option a ≡ Some x
    → value_of option b ≡ Some y → x ≡ y
one_value option same is other = let both = sym is ∙ ap (value_of option) same ∙ other in cc

one_network : {a b : Given} {m n : Network} → a ≡ b → value_of (codes "--network") a ≡ Some (network_name m)
    → value_of (codes "--network") b ≡ Some (network_name n) → m ≡ n
one_network {m = m} {n = n} same is other = same_name m n (one_value (codes "--network") same is other)

-- a text shows one port, and gives one limit
one_port : (text : Option Word) {p q : ℕ} → IsSomeAnd text (λ t. IsPort t p)
    → IsSomeAnd text (λ t. IsPort t q) → p ≡ q
one_port None is other = absurd is
one_port (Some text) is other = is.number.value ∙ sym other.number.value

one_limit : (most : ℕ) (text : Option Word) {m n : ℕ} → IsLimit most text m → IsLimit most text n → m ≡ n
one_limit most None is other = is ∙ sym other
one_limit most (Some text) is other = is.number.value ∙ sym other.number.value

one_head_bits : (text : Option Word) {m n : ℕ} → IsHeadBits text m → IsHeadBits text n → m ≡ n
one_head_bits None is other = is ∙ sym other
one_head_bits (Some text) is other = is.0.number.value ∙ sym other.0.number.value

-- what says the same is the same
settings_are : (m n : Network) (c c' p p' : ℕ) (l l' : PoolLimits) (h h' : ℕ) (r r' : Bool)
    → m ≡ n → c ≡ c' → p ≡ p' → l ≡ l' → h ≡ h' → r ≡ r'
    → ◌≡◌ {A = ServeSettings}
    (record { network = m; client_port = c; node_port = p; limits = l; head_bits = h; relays = r })
    (record { network = n; client_port = c'; node_port = p'; limits = l'; head_bits = h'; relays = r' })
settings_are m n c c' p p' l l' h h' r r' e1 e2 e3 e4 e5 e6 = cc

words_are : (b b' i i' : Word) (r r' : Option Word) (s s' : ServeSettings) → b ≡ b' → i ≡ i' → r ≡ r' → s ≡ s'
    → ◌≡◌ {A = ServeWords} (record { blocks = b; index = i; relay = r; settings = s })
    (record { blocks = b'; index = i'; relay = r'; settings = s' })
words_are b b' i i' r r' s s' e1 e2 e3 e4 = cc

same_words : (s t : ServeWords) → s.blocks ≡ t.blocks → s.index ≡ t.index
    → s.settings.network ≡ t.settings.network → s.settings.client_port ≡ t.settings.client_port
    → s.settings.node_port ≡ t.settings.node_port → s.settings.limits ≡ t.settings.limits
    → s.settings.head_bits ≡ t.settings.head_bits → s.relay ≡ t.relay → s.settings.relays ≡ t.settings.relays → s ≡ t
same_words s t e1 e2 e3 e4 e5 e6 e7 e8 e9 =
    words_are s.blocks t.blocks s.index t.index s.relay t.relay s.settings t.settings e1 e2 e8
    (settings_are s.settings.network t.settings.network s.settings.client_port t.settings.client_port
    s.settings.node_port t.settings.node_port s.settings.limits t.settings.limits s.settings.head_bits t.settings.head_bits
    s.settings.relays t.settings.relays e3 e4 e5 e6 e7 e9)

-- the first letter of the first word, by which the commands differ
abbrev letter : List Word → ℕ
letter words = slice_index_or (slice_index_or words 0 []) 0 0

pub one_command : (words : List Word) (one other : Command) → IsCommand words one → IsCommand words other
    → one ≡ other
one_command words (command.Serve s) (command.Serve s') a b =
    let same = one_rest a.words_are b.words_are in
    let text = λ (option : Word). ap (value_of option) same in
    let e1 = one_value (codes "--blocks") same a.blocks_is b.blocks_is in
    let e2 = one_value (codes "--index") same a.index_is b.index_is in
    let e3 = one_network same a.network_is b.network_is in
    let e4 = one_port (value_of (codes "--client-port") b.given)
    (subst (λ t. IsSomeAnd t (λ t. IsPort t s.settings.client_port)) (text (codes "--client-port")) a.ports.client)
    b.ports.client in
    let e5 = one_port (value_of (codes "--node-port") b.given)
    (subst (λ t. IsSomeAnd t (λ t. IsPort t s.settings.node_port)) (text (codes "--node-port")) a.ports.node)
    b.ports.node in
    let count = one_limit 1000000 (value_of (codes "--pool-count") b.given)
    (subst (λ t. IsLimit 1000000 t s.settings.limits.count) (text (codes "--pool-count")) a.limits_are.count)
    b.limits_are.count in
    let bytes = one_limit 300000000 (value_of (codes "--pool-bytes") b.given)
    (subst (λ t. IsLimit 300000000 t s.settings.limits.bytes) (text (codes "--pool-bytes")) a.limits_are.bytes)
    b.limits_are.bytes in
    let e6 : s.settings.limits ≡ s'.settings.limits =
    ap₂ (λ (c n : ℕ). record { count = c; bytes = n }) count bytes in
    let e7 = one_head_bits (value_of (codes "--head-bits") b.given)
    (subst (λ t. IsHeadBits t s.settings.head_bits) (text (codes "--head-bits")) a.head_bits_are)
    b.head_bits_are in
    let e8 : s.relay ≡ s'.relay = sym a.relay_is ∙ text (codes "--relay") ∙ b.relay_is in
    let e9 : s.settings.relays ≡ s'.settings.relays = sym a.relays_are ∙ ap is_some e8 ∙ b.relays_are in
    ap command.Serve (same_words s s' e1 e2 e3 e4 e5 e6 e7 e8 e9)
one_command words (command.Serve s) (command.Once blocks' n) a b =
    absurd (let one = a.words_are in let other = b.words_are in cc)
one_command words (command.Once blocks m) (command.Serve s') a b =
    absurd (let one = a.words_are in let other = b.words_are in cc)
one_command words (command.Once blocks m) (command.Once blocks' n) a b =
    let same = one_rest a.words_are b.words_are in
    let e1 = one_value (codes "--blocks") same a.blocks_is b.blocks_is in
    let e2 = one_network same a.network_is b.network_is in
    cc
one_command words (command.Serve s) (command.CheckChain count') a b =
    absurd (let one = a.words_are in let other = b.words_are in cc)
one_command words (command.Once blocks m) (command.CheckChain count') a b =
    absurd (let one = a.words_are in let other = b.words_are in cc)
one_command words (command.CheckChain count) (command.Serve s') a b =
    absurd (let one = a.words_are in let other = b.words_are in cc)
one_command words (command.CheckChain count) (command.Once blocks' n) a b =
    absurd (let one = a.words_are in let other = b.words_are in cc)
one_command words (command.CheckChain count) (command.CheckChain count') a b =
    let one = a.words_are in
    let other = b.words_are in
    let same : a.number ≡ b.number = cc in
    ap command.CheckChain (a.shown.number.value ∙ ap (digits_value 10) same ∙ sym b.shown.number.value)
one_command words (command.Serve s) (command.Audit blocks' index' n) a b =
    absurd (let m = ap letter (sym a.words_are ∙ b.words_are) in omega arith)
one_command words (command.Serve s) (command.ProveCheck said') a b =
    absurd (let m = ap letter (sym a.words_are ∙ b.words_are) in omega arith)
one_command words (command.Once blocks m) (command.Audit blocks' index' n) a b =
    absurd (let m = ap letter (sym a.words_are ∙ b.words_are) in omega arith)
one_command words (command.Once blocks m) (command.ProveCheck said') a b =
    absurd (let m = ap letter (sym a.words_are ∙ b.words_are) in omega arith)
one_command words (command.CheckChain count) (command.Audit blocks' index' n) a b =
    absurd (let m = ap letter (sym a.words_are ∙ b.words_are) in omega arith)
one_command words (command.CheckChain count) (command.ProveCheck said') a b =
    absurd (let m = ap letter (sym a.words_are ∙ b.words_are) in omega arith)
one_command words (command.Audit blocks index m) (command.Serve s') a b =
    absurd (let m = ap letter (sym a.words_are ∙ b.words_are) in omega arith)
one_command words (command.Audit blocks index m) (command.Once blocks' n) a b =
    absurd (let m = ap letter (sym a.words_are ∙ b.words_are) in omega arith)
one_command words (command.Audit blocks index m) (command.CheckChain count') a b =
    absurd (let m = ap letter (sym a.words_are ∙ b.words_are) in omega arith)
one_command words (command.Audit blocks index m) (command.Audit blocks' index' n) a b =
    let same = one_rest a.words_are b.words_are in
    let e1 = one_value (codes "--blocks") same a.blocks_is b.blocks_is in
    let e2 = one_value (codes "--index") same a.index_is b.index_is in
    let e3 = one_network same a.network_is b.network_is in
    cc
one_command words (command.Audit blocks index m) (command.ProveCheck said') a b =
    absurd (let m = ap letter (sym a.words_are ∙ b.words_are) in omega arith)
one_command words (command.ProveCheck said) (command.Serve s') a b =
    absurd (let m = ap letter (sym a.words_are ∙ b.words_are) in omega arith)
one_command words (command.ProveCheck said) (command.Once blocks' n) a b =
    absurd (let m = ap letter (sym a.words_are ∙ b.words_are) in omega arith)
one_command words (command.ProveCheck said) (command.CheckChain count') a b =
    absurd (let m = ap letter (sym a.words_are ∙ b.words_are) in omega arith)
one_command words (command.ProveCheck said) (command.Audit blocks' index' n) a b =
    absurd (let m = ap letter (sym a.words_are ∙ b.words_are) in omega arith)
one_command words (command.ProveCheck said) (command.ProveCheck said') a b =
    ap command.ProveCheck (one_proof words said said' a b)

-- words of none of the five are those of no command
pub no_command : (words : List Word) → ((said : ServeWords) → IsServeOf words said → ⊥)
    → ((blocks : Word) (network : Network) → IsOnceOf words blocks network → ⊥)
    → ((count : ℕ) → IsCheckOf words count → ⊥)
    → ((blocks index : Word) (network : Network) → IsAuditOf words blocks index network → ⊥)
    → ((said : ProofWords) → SayProof words said → ⊥) → IsNoCommand words
no_command words no_serve no_once no_check no_audit no_proof (command.Serve said) is = no_serve said is
no_command words no_serve no_once no_check no_audit no_proof (command.Once blocks network) is =
    no_once blocks network is
no_command words no_serve no_once no_check no_audit no_proof (command.CheckChain count) is = no_check count is
no_command words no_serve no_once no_check no_audit no_proof (command.Audit blocks index network) is =
    no_audit blocks index network is
no_command words no_serve no_once no_check no_audit no_proof (command.ProveCheck said) is =
    no_proof said is

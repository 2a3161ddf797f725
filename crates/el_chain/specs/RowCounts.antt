-- How many rows the tables of an index need for the transactions of a chain. There is a row for each block,
-- for each transaction, for each output, for each input that takes a coin, for each script hash that a
-- transaction concerns, and for each pair of a transaction and a script hash that it concerns.
use Rattle.std.specs.Prelude.{ℕ, ◌==◌, Bool, List, [], ◌∷◌, ◌++◌, length, map, filter, flat_map, sum_by, if◌then◌else◌}
use Rattle.std.specs.List.{list_any}
use Rattle.el_base.specs.declared.hash.Hash32.{Hash32}
use Rattle.el_tx.specs.declared.types.TxIn.{TxIn}
use Rattle.el_tx.specs.declared.types.TxOut.{TxOut}
pub use Rattle.el_tx.specs.Hashing.{spending_inputs}
use Rattle.std.specs.Str.{bytes_eq}
use Rattle.el_chain.specs.declared.coin.Coin.{Coin}
use Rattle.el_chain.specs.Coins.{is_coin_of, script_hash_of}
use Rattle.el_chain.specs.History.{Position}
use Rattle.el_chain.specs.declared.limits.TheConstants.{MAX_BLOCKS, MAX_ROWS}

-- how many rows the table with that number may have at most; table 1 is that of blocks
abbrev pub row_limit : ℕ → ℕ
row_limit table = if table == 1 then MAX_BLOCKS else MAX_ROWS

-- the script hashes of the coins that inputs spend
abbrev pub spent_scripts : List Coin → List TxIn → List Hash32
spent_scripts coins is =
    flat_map (λ (i : TxIn). map (λ (c : Coin). c.script) (filter (is_coin_of i.from) coins)) is

-- the script hash of an output
abbrev pub output_script : TxOut → Hash32
output_script o = record { 0 = script_hash_of o }

-- the script hashes that a transaction concerns: those that it spends, and then those that it funds
abbrev pub concerned_scripts : Position → List Hash32
concerned_scripts p = spent_scripts p.before (spending_inputs p.tx) ++ map output_script p.tx.outputs

-- the script hash is among these
abbrev pub is_script_among : Hash32 → List Hash32 → Bool
is_script_among s scripts = list_any (λ (x : Hash32). bytes_eq x.0 s.0) scripts

-- the script hash goes after the others, unless it is among them
abbrev pub add_script : Hash32 → List Hash32 → List Hash32
add_script s scripts = if is_script_among s scripts then scripts else scripts ++ s ∷ []

-- these script hashes, and then those of the others that are new, each once
abbrev pub add_scripts : List Hash32 → List Hash32 → List Hash32
add_scripts scripts [] = scripts
add_scripts scripts (s ∷ ss) = add_scripts (add_script s scripts) ss

-- how many outputs these transactions have
abbrev pub output_count : List Position → ℕ
output_count ps = sum_by (λ (p : Position). length p.tx.outputs) ps

-- how many of their inputs take a coin
abbrev pub input_count : List Position → ℕ
input_count ps = sum_by (λ (p : Position). length (spending_inputs p.tx)) ps

-- how many script hashes they concern, each counted once
abbrev pub script_count : List Position → ℕ
script_count ps = length (add_scripts [] (flat_map concerned_scripts ps))

-- how many pairs there are of one of them and a script hash that it concerns
abbrev pub entry_count : List Position → ℕ
entry_count ps = sum_by (λ (p : Position). length (add_scripts [] (concerned_scripts p))) ps

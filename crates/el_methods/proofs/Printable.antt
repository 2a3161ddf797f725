-- Answers can be printed: they have no float.
use Rattle.std.proofs.Common.{◌≡◌, ℕ, Bool, true, false, ◌||◌, List, [], ◌∷◌, map, refl}
use Rattle.std.specs.Prelude.{ℤ, pos, negsuc}
use Rattle.serde_json.specs.View.{items_of}
use Rattle.serde_json.specs.Written.{has_float, items_have_float}
use Rattle.el_base.specs.declared.hash.Hash32.{Hash32}
use Rattle.el_chain.specs.declared.coin.Coin.{Coin}
use Rattle.el_chain.specs.declared.entry.Entry.{Entry}
use Rattle.el_mempool.specs.declared.entry.PoolEntry.{PoolEntry}
use Rattle.el_methods.specs.Results.{hashes, proof_value, headers_proof, place_value, id_with_branch, coin_value}
use Rattle.el_methods.specs.Results.{pool_value, both_values, edge_value}

pub of_hashes : (hs : List Hash32) → has_float (hashes hs) ≡ false
of_hashes [] = refl
of_hashes (h ∷ hs) = of_hashes hs

pub of_proof : (partners : List Hash32) (top : Hash32) (header : List ℕ) → has_float (proof_value partners top header) ≡ false
of_proof partners top header = rw (of_hashes partners) refl

pub of_headers : (partners : List Hash32) (top : Hash32) (n : ℕ) (bytes : List ℕ) → has_float (headers_proof partners top n bytes) ≡ false
of_headers partners top n bytes = rw (of_hashes partners) refl

pub of_place : (partners : List Hash32) (height place : ℕ) → has_float (place_value partners height place) ≡ false
of_place partners height place = rw (of_hashes partners) refl

pub of_branch : (partners : List Hash32) (id : Hash32) → has_float (id_with_branch partners id) ≡ false
of_branch partners id = rw (of_hashes partners) refl

entry_prints : (id : Hash32) (flag : ℤ) (fee : ℕ)
    → has_float (pool_value (record { txid = id; flag = flag; fee = fee })) ≡ false
entry_prints id (pos n) fee = refl
entry_prints id (negsuc n) fee = refl

neither : (a b : Bool) → a ≡ false → b ≡ false → (a || b) ≡ false
neither true b first rest = absurd (cc)
neither false b first rest = rest

pub of_pool_entries : (es : List PoolEntry) → items_have_float (items_of (map pool_value es)) ≡ false
of_pool_entries [] = refl
of_pool_entries (e ∷ es) = neither _ _ (entry_prints e.txid e.flag e.fee) (of_pool_entries es)

-- confirmed ones before them
pub of_both : (confirmed : List Entry) (es : List PoolEntry)
    → items_have_float (items_of (both_values confirmed es)) ≡ false
of_both [] es = of_pool_entries es
of_both (c ∷ cs) es = of_both cs es

pub of_coins : (cs : List Coin) → items_have_float (items_of (map coin_value cs)) ≡ false
of_coins [] = refl
of_coins (c ∷ cs) = of_coins cs

pub of_edges : (rows : List (ℕ × ℕ)) → items_have_float (items_of (map edge_value rows)) ≡ false
of_edges [] = refl
of_edges (r ∷ rs) = of_edges rs

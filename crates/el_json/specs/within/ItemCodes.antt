-- How the logic stores the elements of a batch: by the codes of their parts.
use Rattle.std.proofs.Common.{◌≡◌, ◌⊎◌, ℕ, List, Option, refl, inl, inr}
use Rattle.std.specs.Coded.{Coded, code_by, coded_ℕ, coded_list, coded_option, coded×, coded⊎}
use Rattle.serde_json.specs.Data.{Data, Items, Members}
use Rattle.el_json.specs.declared.params.Params.{Params}
use Rattle.el_json.specs.declared.params.Params.TheVariants.{Places, Names}
use Rattle.el_json.specs.declared.request.Request.{Request}
use Rattle.el_json.specs.declared.request.Item.{Item}
use Rattle.el_json.specs.declared.request.Item.TheVariants.{Good, Invalid}
use Rattle.el_json.specs.within.Codes.{coded_data, coded_items, coded_members}

-- parameters as one of two: elements by place, or members by name
abbrev items_or_members : Params → Items ⊎ Members
items_or_members (Places ds) = inl ds
items_or_members (Names ms) = inr ms

-- the parameters that such a one is
abbrev params_by : Items ⊎ Members → Params
params_by (inl ds) = Places ds
params_by (inr ms) = Names ms

-- there and back they are the same parameters
pub params_back : (ps : Params) → params_by (items_or_members ps) ≡ ps
params_back (Places ds) = refl
params_back (Names ms) = refl

-- the code of parameters, and that no two have the same
abbrev coded_params : Coded Params
coded_params = code_by (Items ⊎ Members) (coded⊎ coded_items coded_members) items_or_members params_by
    params_back

-- the code of a request: those of its id, its method and its parameters
abbrev coded_request : Coded Request
coded_request =
    code_by (Option Data × (List ℕ × Params))
    (coded× (coded_option coded_data) (coded× (coded_list coded_ℕ) coded_params))
    (λ r. (r.id, (r.method, r.params))) (λ p. record { id = p.0; method = p.1.0; params = p.1.1 }) (λ _. refl)

-- an element as one of two: a request, or the id that an invalid one is answered with
abbrev either : Item → Request ⊎ Data
either (Good r) = inl r
either (Invalid id) = inr id

-- the element that such a one is
abbrev item_by : Request ⊎ Data → Item
item_by (inl r) = Good r
item_by (inr id) = Invalid id

-- there and back it is the same element
pub item_back : (i : Item) → item_by (either i) ≡ i
item_back (Good r) = refl
item_back (Invalid id) = refl

-- the code of a list of elements, and that no two have the same
abbrev pub coded_list_of_items : Coded (List Item)
coded_list_of_items =
    coded_list (code_by (Request ⊎ Data) (coded⊎ coded_request coded_data) either item_by item_back)

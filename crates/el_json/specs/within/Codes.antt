-- How the logic stores a value of JSON: each value has a code, and no two have the same.
use Rattle.std.proofs.Common.{◌≡◌, ℕ, List, refl, ap, arith}
use Rattle.std.specs.Coded.{Coded, coded_ℕ, coded_bool, coded_ℤ, coded_list}
use base.Stored.{Gv, gnil, gnum, gcons, coded_float}
use Rattle.serde_json.specs.Data.{Num, unsigned, negative, float, Data, null, boolean, number, string, array, object, Items, no_items, item, Members, no_members, member}

-- the first part of a code that has two
abbrev head : Gv → Gv
head (gcons a b) = a
head g = gnil

-- the second part of a code that has two
abbrev tail : Gv → Gv
tail (gcons a b) = b
tail g = gnil

-- the number of the constructor, which stands first; 0 where there is none
abbrev tag : Gv → ℕ
tag (gcons (gnum n) b) = n
tag g = 0

-- the code of a text: its bytes as a list of numbers
abbrev coded_text : Coded (List ℕ)
coded_text = coded_list coded_ℕ

-- the code of a number: which kind it is (0: from 0 on, 1: below 0, 2: a float), and its own code
abbrev num_code : Num → Gv
num_code (unsigned a) = gcons (gnum 0) (coded_ℕ.code a)
num_code (negative a) = gcons (gnum 1) (coded_ℤ.code a)
num_code (float a) = gcons (gnum 2) (coded_float.code a)

-- numbers with the same code are the same
pub num_inj : (x y : Num) → num_code x ≡ num_code y → x ≡ y
num_inj (unsigned a) (unsigned b) p = λ i. unsigned (coded_ℕ.inj a b (ap (λ g. tail g) p) i)
num_inj (negative a) (negative b) p = λ i. negative (coded_ℤ.inj a b (ap (λ g. tail g) p) i)
num_inj (float a) (float b) p = λ i. float (coded_float.inj a b (ap (λ g. tail g) p) i)
num_inj x y p = let q = ap (λ g. tag g) p in absurd (omega (arith, q))

-- the code of a number, and that no two have the same
abbrev coded_num : Coded Num
coded_num = record { code = num_code; inj = num_inj }

-- The codes of a value, of the elements of an array and of the members of an object: first a number for the
-- kind, and then the codes of the parts.
abbrev mutual
  data_code : Data → Gv
  data_code null = gcons (gnum 1) gnil
  data_code (boolean a) = gcons (gnum 2) (coded_bool.code a)
  data_code (number a) = gcons (gnum 3) (coded_num.code a)
  data_code (string a) = gcons (gnum 4) (coded_text.code a)
  data_code (array a) = gcons (gnum 5) (items_code a)
  data_code (object a) = gcons (gnum 6) (members_code a)

  items_code : Items → Gv
  items_code no_items = gnil
  items_code (item d ds) = gcons (gnum 1) (gcons (data_code d) (items_code ds))

  members_code : Members → Gv
  members_code no_members = gnil
  members_code (member k d ms) =
      gcons (gnum 1) (gcons (coded_text.code k) (gcons (data_code d) (members_code ms)))

-- values with the same code are the same, and so are elements and members
mutual
  pub data_inj : (x y : Data) → data_code x ≡ data_code y → x ≡ y
  data_inj null null p = refl
  data_inj (boolean a) (boolean b) p = λ i. boolean (coded_bool.inj a b (ap (λ g. tail g) p) i)
  data_inj (number a) (number b) p = λ i. number (coded_num.inj a b (ap (λ g. tail g) p) i)
  data_inj (string a) (string b) p = λ i. string (coded_text.inj a b (ap (λ g. tail g) p) i)
  data_inj (array a) (array b) p = λ i. array (items_inj a b (ap (λ g. tail g) p) i)
  data_inj (object a) (object b) p = λ i. object (members_inj a b (ap (λ g. tail g) p) i)
  data_inj x y p = let q = ap (λ g. tag g) p in absurd (omega (arith, q))

  pub items_inj : (x y : Items) → items_code x ≡ items_code y → x ≡ y
  items_inj no_items no_items p = refl
  items_inj (item d ds) (item e es) p =
      λ i. item (data_inj d e (ap (λ g. head (tail g)) p) i) (items_inj ds es (ap (λ g. tail (tail g)) p) i)
  items_inj x y p = let q = ap (λ g. tag g) p in absurd (omega (arith, q))

  pub members_inj : (x y : Members) → members_code x ≡ members_code y → x ≡ y
  members_inj no_members no_members p = refl
  members_inj (member k d ms) (member l e es) p =
      λ i. member (coded_text.inj k l (ap (λ g. head (tail g)) p) i)
      (data_inj d e (ap (λ g. head (tail (tail g))) p) i)
      (members_inj ms es (ap (λ g. tail (tail (tail g))) p) i)
  members_inj x y p = let q = ap (λ g. tag g) p in absurd (omega (arith, q))

-- the code of a value, and that no two have the same
abbrev pub coded_data : Coded Data
coded_data = record { code = data_code; inj = data_inj }

-- the code of the elements of an array, and that no two have the same
abbrev pub coded_items : Coded Items
coded_items = record { code = items_code; inj = items_inj }

-- the code of the members of an object, and that no two have the same
abbrev pub coded_members : Coded Members
coded_members = record { code = members_code; inj = members_inj }

-- the code of a list of values, and that no two have the same
abbrev pub coded_list_of_data : Coded (List Data)
coded_list_of_data = coded_list coded_data

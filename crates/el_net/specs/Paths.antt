-- The paths of files.
use Rattle.std.specs.Prelude.{ℕ, ◌+◌, ◌/◌, ◌%◌, List, [], ◌∷◌, ◌++◌, codes}

-- the last decimal digit, in ASCII
abbrev pub last_digit : ℕ → ℕ
last_digit n = 48 + n % 10

-- the last five decimal digits
abbrev pub five_digits : ℕ → List ℕ
five_digits n =
    last_digit (n / 10000) ∷ last_digit (n / 1000) ∷ last_digit (n / 100)
    ∷ last_digit (n / 10) ∷ last_digit n ∷ []

-- the last two decimal digits
abbrev pub two_digits : ℕ → List ℕ
two_digits n = last_digit (n / 10) ∷ last_digit n ∷ []

-- the path of a file of an index in a folder: `00.idx` and on
abbrev pub index_path : List ℕ → ℕ → List ℕ
index_path folder n = folder ++ (codes "/" ++ (two_digits n ++ codes ".idx"))

-- the path of the lock of an index's folder
abbrev pub lock_path : List ℕ → List ℕ
lock_path folder = folder ++ codes "/lock"

-- the name of a block file, as Bitcoin Core gives it: `blk00000.dat` and on
abbrev pub file_name : ℕ → List ℕ
file_name n = codes "blk" ++ (five_digits n ++ codes ".dat")

-- the path of a block file in a folder
abbrev pub file_path : List ℕ → ℕ → List ℕ
file_path folder n = folder ++ (codes "/" ++ file_name n)

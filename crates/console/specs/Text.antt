-- The console's lines, as bytes.
use Rattle.std.specs.Prelude.{ℕ, List, [], ◌∷◌, ◌++◌, codes, decimal}
use Rattle.std.specs.List.{flat_map}
use Rattle.itemset.specs.Sets.{members}

-- a number after a blank
abbrev pub blank_decimal : ℕ → List ℕ
blank_decimal n = 32 ∷ decimal n

-- each number after a blank
abbrev pub spaced : List ℕ → List ℕ
spaced numbers = flat_map blank_decimal numbers

-- a word and numbers, ended by byte 10
abbrev pub number_line : List ℕ → List ℕ → List ℕ
number_line word numbers = word ++ (spaced numbers ++ 10 ∷ [])

-- how many items there are
abbrev pub items_line : ℕ → List ℕ
items_line count = number_line (codes "items") (count ∷ [])

-- a refusal's number and its index in the sheet
abbrev pub refused_line : ℕ → ℕ → List ℕ
refused_line number index = number_line (codes "refused") (number ∷ index ∷ [])

-- the items that lie in every core
abbrev pub common_line : List ℕ → List ℕ
common_line items = number_line (codes "common") items

-- the items of a core
abbrev pub core_line : ℕ → List ℕ
core_line set = number_line (codes "core") (members 32 set)

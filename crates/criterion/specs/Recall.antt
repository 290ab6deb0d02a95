-- What a memory keeps: a row of remembered verdicts, what they say of a set, and how the row grows.
use Rattle.std.specs.Prelude.{ℕ, ◌%◌, ◌^◌, Bool, true, false, not, ◌&&◌, List, [], ◌∷◌, ◌++◌, length, Some, None, Option, nat_lt, if◌then◌else◌}
use Rattle.std.specs.List.{list_any}
use Rattle.itemset.specs.Sets.{within}
use Rattle.criterion.specs.declared.remembered.Remembered.{Remembered}

-- a remembered yes lies within s
abbrev pub says_yes : ℕ → Remembered → Bool
says_yes s e = e.verdict && within e.set s

-- s lies within a remembered no
abbrev pub says_no : ℕ → Remembered → Bool
says_no s e = not e.verdict && within s e.set

-- what the row says of s: yes by a yes-set within s; failing that, no by a no-set around s
abbrev pub recall : List Remembered → ℕ → Option Bool
recall es s = if list_any (says_yes s) es then Some true else (if list_any (says_no s) es then Some false else None)

-- one entry more where nothing was recalled and fewer than 64 are held
abbrev pub grown : Option Bool → List Remembered → Remembered → List Remembered
grown (Some b) es e = es
grown None es e = if nat_lt (length es) 64 then es ++ e ∷ [] else es

-- the row after a check of s, over n items, that was answered v
abbrev pub learned : List Remembered → ℕ → ℕ → Bool → List Remembered
learned es n s v = grown (recall es s) es (record { set = s % 2 ^ n; verdict = v })

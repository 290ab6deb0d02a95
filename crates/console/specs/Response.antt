-- The console's response to its input, byte for byte.
use Rattle.std.specs.Prelude.{ℕ, ◌+◌, ◌*◌, ◌/◌, ◌%◌, Bool, true, cond, ◌&&◌, List, [], ◌∷◌, ◌++◌, map, length, take, filter, ◌==◌, nat_le, slice_index}
use Rattle.std.specs.List.{range_with_len, flat_map}
use Rattle.std.specs.Int.Digits.{number_from_digits as number}
use Rattle.itemset.specs.Sets.{full, has}
use Rattle.base.specs.Outcomes.{Outcome, accepted, refused}
use Rattle.criterion.specs.Meaning.{Meaning}
use Rattle.criterion.specs.Cores.{cores}
use Rattle.joints.specs.Plans.{Plan}
use Rattle.joints.specs.Admission.{admission}
use Rattle.joints.specs.Closed.{joint_sets}
use Rattle.console.specs.Text.{common_line, core_line, items_line, refused_line}

-- the word in the eight bytes from `at` on, the highest byte first
abbrev pub big_endian : List ℕ → ℕ → ℕ
big_endian bytes at = number 256 (map (λ j. slice_index bytes (at + j)) (0 ∷ 1 ∷ 2 ∷ 3 ∷ 4 ∷ 5 ∷ 6 ∷ 7 ∷ []))

-- all the words of the bytes
abbrev pub words : List ℕ → List ℕ
words bytes = map (λ k. big_endian bytes (8 * k)) (range_with_len 0 (length bytes / 8))

-- the items that lie in every set of a list
abbrev pub in_each : ℕ → List ℕ → Bool
in_each i [] = true
in_each i (k ∷ ks) = has i k && in_each i ks

unfoldable pub shared : List ℕ → List ℕ
shared ks = filter (λ i. in_each i ks) (range_with_len 0 32)

-- the lines for n items and these cores
abbrev pub core_lines : ℕ → List ℕ → List ℕ
core_lines n ks = items_line n ++ (common_line (shared ks) ++ flat_map core_line ks)

-- what is printed of a criterion: the lines for its cores if they fit 4,096 places; 13 if they do not, 12 if all items together get no
unfoldable pub listed : Meaning → List ℕ
listed m =
    cond (m.verdict (full m.count))
    (cond (nat_le (length (cores m.verdict (full m.count))) 4096) (core_lines m.count (cores m.verdict (full m.count))) (refused_line 13 0))
    (refused_line 12 0)

-- what is printed of a joint sheet
abbrev pub answered : Outcome Plan → List ℕ
answered (accepted p) = listed (joint_sets p)
answered (refused number index) = refused_line number index

-- a kind, which is 3 for joint sheets, and then the sheet
abbrev pub replied : List ℕ → List ℕ
replied [] = refused_line 15 0
replied (kind ∷ sheet) = cond (kind == 3) (answered (admission sheet)) (refused_line 15 0)

-- bytes that are no whole words give 14
abbrev pub reply : List ℕ → List ℕ
reply bytes = cond (length bytes % 8 == 0) (replied (words bytes)) (refused_line 14 0)

-- the response: bytes past the first 24,656 are not looked at
unfoldable pub response : List ℕ → List ℕ
response input = reply (take 24656 input)

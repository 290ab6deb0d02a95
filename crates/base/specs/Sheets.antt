-- How a sheet of words is read, from the front.
use Rattle.std.specs.Prelude.{ℕ, zero, suc, ◌+◌, Bool, true, cond, ◌&&◌, List, [], ◌∷◌, length, nat_le, nat_lt, slice_index}
use Rattle.base.specs.Outcomes.{Outcome, accepted, refused}

-- what was read and the index of the next word, or a refusal: its number and the index of its word
pub data Read (X : Type 0) : Type 0 where
  got : X → ℕ → Read X
  stop : ℕ → ℕ → Read X

-- one part after another: the first refusal ends the reading
abbrev pub and_then : {X Y : Type 0} → Read X → (X → ℕ → Read Y) → Read Y
and_then (got x i) f = f x i
and_then (stop n k) f = stop n k

-- the word at index i; a missing word gives 1
abbrev pub word : List ℕ → ℕ → Read ℕ
word ws i = cond (nat_lt i (length ws)) (got (slice_index ws i) (i + 1)) (stop 1 i)

-- a word that has to pass a test, and gives n where it does not
abbrev pub passing : (ℕ → Bool) → ℕ → List ℕ → ℕ → Read ℕ
passing test n ws i = and_then (word ws i) (λ w j. cond (test w) (got w j) (stop n i))

-- a count of at most so many; a larger one gives 3
abbrev pub counted : ℕ → List ℕ → ℕ → Read ℕ
counted most = passing (λ n. nat_le n most) 3

-- n parts, one after another
abbrev pub many : {X : Type 0} → (ℕ → Read X) → ℕ → ℕ → Read (List X)
many part zero i = got [] i
many part (suc n) i = and_then (part i) (λ x j. and_then (many part n j) (λ xs k. got (x ∷ xs) k))

-- every one of a list passes a test
abbrev pub all_of : {X : Type 0} → (X → Bool) → List X → Bool
all_of test [] = true
all_of test (x ∷ xs) = test x && all_of test xs

-- the whole sheet: words left over give 5 at the first of them
abbrev pub whole : {X : Type 0} → List ℕ → Read X → Outcome X
whole ws (got x i) = cond (nat_lt i (length ws)) (refused 5 i) (accepted x)
whole ws (stop n k) = refused n k

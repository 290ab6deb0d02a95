-- What holds of sets as numbers, and of rising lists.
use Rattle.std.specs.Prelude.{◌≡◌, ℕ, ◌-◌, ◌%◌, ◌^◌, ◌<◌, ◌≤◌, Bool, true, ◌⊎◌, ◌↔◌, List, length, Contains, ◌≢◌, bit_and, bit_or, count_ones}
use Rattle.std.specs.Int.Count.{count_trailing_zeros}
use Rattle.itemset.specs.Sets.{◌∈◌, ◌⊆◌, less, full, has, within, collect, members, Lowest}
use Rattle.itemset.specs.Lists.{Rising}
use Rattle.itemset.specs.Counting.{some, every}

-- sets with the same members are one number
abbrev pub SameMembers : Type 0
SameMembers = (a b : ℕ) → a ⊆ b → b ⊆ a → a ≡ b

-- the tests say what they are tests of
abbrev pub TestsRight : Type 0
TestsRight = ((i s : ℕ) → (has i s ≡ true) ↔ i ∈ s) × ((a b : ℕ) → (within a b ≡ true) ↔ a ⊆ b)

-- the members of an intersection, of a union, and of one set less another
abbrev pub InAnd : Type 0
InAnd = (i a b : ℕ) → i ∈ bit_and a b ↔ ((i ∈ a) × (i ∈ b))

abbrev pub InOr : Type 0
InOr = (i a b : ℕ) → i ∈ bit_or a b ↔ ((i ∈ a) ⊎ (i ∈ b))

abbrev pub InLess : Type 0
InLess = (i s d : ℕ) → i ∈ less s d ↔ ((i ∈ s) × (i ∈ d → ⊥))

-- the members of the set of one number, of all numbers below n, of the low n bits, and of what a test collects
abbrev pub InOne : Type 0
InOne = (j i : ℕ) → j ∈ (2 ^ i) ↔ (j ≡ i)

abbrev pub InFull : Type 0
InFull = (n i : ℕ) → i ∈ full n ↔ (i < n)

abbrev pub InLow : Type 0
InLow = (n s i : ℕ) → i ∈ (s % 2 ^ n) ↔ ((i ∈ s) × (i < n))

abbrev pub InCollect : Type 0
InCollect = (n : ℕ) (p : ℕ → Bool) (i : ℕ) → i ∈ collect n p ↔ ((i < n) × (p i ≡ true))

-- a number has n bits exactly when its members are below n
abbrev pub Below : Type 0
Below = (n s : ℕ) → (s < 2 ^ n) ↔ ((i : ℕ) → i ∈ s → i < n)

-- a subset is no greater as a number
abbrev pub SubsetLe : Type 0
SubsetLe = (a b : ℕ) → a ⊆ b → a ≤ b

-- in words of k bits: `s & !d`, the lowest member and the count of members
abbrev pub AndNot : Type 0
AndNot = (k s d : ℕ) → s < 2 ^ k → d < 2 ^ k → bit_and s (2 ^ k - 1 - d) ≡ less s d

abbrev pub LowestIs : Type 0
LowestIs = (k s : ℕ) → (s ≢ 0) → s < 2 ^ k → Lowest s (count_trailing_zeros k s)

abbrev pub OnesAre : Type 0
OnesAre = (k s : ℕ) → s < 2 ^ k → count_ones s ≡ length (members k s)

-- a rising list of members of another is no longer, and rising lists with the same members are equal
abbrev pub RisingLe : Type 0
RisingLe = (xs ys : List ℕ) → Rising xs → Rising ys → ((x : ℕ) → Contains xs x → Contains ys x) → length xs ≤ length ys

abbrev pub RisingSame : Type 0
RisingSame = (xs ys : List ℕ) → Rising xs → Rising ys → ((x : ℕ) → Contains xs x ↔ Contains ys x) → xs ≡ ys

-- the searches below n find what there is
abbrev pub SomeRight : Type 0
SomeRight = (n : ℕ) (t : ℕ → Bool) → (some n t ≡ true) ↔ ((k : ℕ) × (k < n) × (t k ≡ true))

abbrev pub EveryRight : Type 0
EveryRight = (n : ℕ) (t : ℕ → Bool) → (every n t ≡ true) ↔ ((k : ℕ) → k < n → t k ≡ true)

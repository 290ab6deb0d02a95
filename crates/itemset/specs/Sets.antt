-- Sets of small numbers, as items, bodies or states, each kept as one number: i lies in s where bit i of s is 1.
-- No width is named, so that each definition and each law serves words of 32 bits and of 64 alike.
use Rattle.std.specs.Prelude.{◌≡◌, ℕ, zero, suc, ◌-◌, ◌/◌, ◌%◌, ◌^◌, ◌≤◌, Bool, cond, List, filter, Some, None, Option, ◌==◌, bit_and, bit_or}
use Rattle.std.specs.List.{range_with_len}

infix 50 ◌∈◌ ◌⊆◌
-- i lies in the set s
abbrev pub ◌∈◌ : ℕ → ℕ → Type 0
i ∈ s = s / 2 ^ i % 2 ≡ 1

-- every member of a lies in b
abbrev pub ◌⊆◌ : ℕ → ℕ → Type 0
a ⊆ b = (i : ℕ) → i ∈ a → i ∈ b

-- a and b share a member
abbrev pub Meets : ℕ → ℕ → Type 0
Meets a b = (i : ℕ) × (i ∈ a) × (i ∈ b)

-- s less the members of d
abbrev pub less : ℕ → ℕ → ℕ
less s d = s - bit_and s d

-- the numbers below n
abbrev pub full : ℕ → ℕ
full n = 2 ^ n - 1

-- the test of `i ∈ s`
abbrev pub has : ℕ → ℕ → Bool
has i s = s / 2 ^ i % 2 == 1

-- the test of `a ⊆ b`
abbrev pub within : ℕ → ℕ → Bool
within a b = bit_and a b == a

-- the numbers below n that pass a test
unfoldable pub collect : ℕ → (ℕ → Bool) → ℕ
collect zero p = 0
collect (suc n) p = bit_or (cond (p n) (2 ^ n) 0) (collect n p)

-- the members below n, rising
unfoldable pub members : ℕ → ℕ → List ℕ
members n s = filter (λ i. has i s) (range_with_len 0 n)

-- i is the lowest member of s
pub record Lowest (s i : ℕ) : Type 0 where
  pub member : i ∈ s
  pub least : (j : ℕ) → j ∈ s → i ≤ j

-- the lowest member of s is taken out of it, which leaves t; or there is none, and none comes again
abbrev pub Takes : ℕ → Option ℕ → ℕ → Type 0
Takes s None t = (s ≡ 0) × (t ≡ 0)
Takes s (Some i) t = Lowest s i × (t ≡ less s (2 ^ i))

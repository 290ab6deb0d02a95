-- What a criterion means, and the law that every criterion keeps.
use Rattle.std.specs.Prelude.{◌≡◌, ℕ, ◌%◌, ◌^◌, ◌≤◌, Bool, true}
use Rattle.itemset.specs.Sets.{◌⊆◌}

-- the verdict of every set (true is yes), the group of every item number, and whether the criterion is in order
pub record Meaning : Type 0 where
  pub count : ℕ
  pub verdict : ℕ → Bool
  pub group : ℕ → ℕ
  pub order : Bool

-- a set that contains a yes set gets yes
abbrev pub Monotone : (ℕ → Bool) → Type 0
Monotone V = (a b : ℕ) → a ⊆ b → V a ≡ true → V b ≡ true

-- items are numbered from 0 to count - 1, bits from count upward do not count, and groups are 0, 1 or 2, with 2 from count upward
pub record Lawful (m : Meaning) : Type 0 where
  pub few : m.count ≤ 31
  pub monotone : Monotone m.verdict
  pub counts : (s : ℕ) → m.verdict s ≡ m.verdict (s % 2 ^ m.count)
  pub groups : (i : ℕ) → m.group i ≤ 2
  pub beyond : (i : ℕ) → m.count ≤ i → m.group i ≡ 2

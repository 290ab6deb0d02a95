-- Rows of sets, and sets out of which items are taken. Only private functions are stated by these.
use Rattle.std.specs.Prelude.{◌≡◌, ℕ, ◌-◌, ◌^◌, ◌<◌, ◌≤◌, Bool, true, false, cond, List, [], ◌∷◌, length, take, drop, replicate, Some, None, All, Contains, Option, count_ones, nat_lt}
use Rattle.std.specs.Coded.{×_prop, Π_prop, Unit-prop, le_prop, Coded-set, coded_ℕ, coded_list}
use Rattle.itemset.specs.Sets.{◌∈◌, ◌⊆◌, less}
use Rattle.itemset.specs.Lists.{Rising}

-- E with loose items left out, as many as could go: r
pub record Pruned (V : ℕ → Bool) (E loose r : ℕ) : Type 0 where
  pub inside : r ⊆ E
  pub gets : V r ≡ true
  pub spared : (i : ℕ) → i ∈ E → (i ∈ loose → ⊥) → i ∈ r
  pub tight : (i : ℕ) → i ∈ r → i ∈ loose → V (less r (2 ^ i)) ≡ false

-- the first count places hold sets of items below 31, each once, in rising order, and the others hold 0
pub record Row (count : ℕ) (places : List ℕ) : Type 0 where
  pub high : count ≤ length places
  pub rising : Rising (take count places)
  pub below : All (λ K. K < 2 ^ 31) (take count places)
  pub zeros : drop count places ≡ replicate (length places - count) 0

-- that has one proof at most, as the check wants of a ghost field
pub Rising-prop : (xs : List ℕ) → IsProp (Rising xs)
Rising-prop [] = Unit-prop
Rising-prop (x ∷ xs) = ×_prop (Π_prop λ k. Π_prop λ d. Π_prop λ _. le_prop) (Rising-prop xs)

pub Row-prop : (count : ℕ) (places : List ℕ) → IsProp (Row count places)
Row-prop count places r s i = record {
  high = le_prop r.high s.high i;
  rising = Rising-prop (take count places) r.rising s.rising i;
  below = (Π_prop λ k. Π_prop λ d. Π_prop λ _. le_prop) r.below s.below i;
  zeros = Coded-set (coded_list coded_ℕ) _ _ r.zeros s.zeros i;
}

-- a row with x put in before the first that is not below it
abbrev pub placed : ℕ → List ℕ → List ℕ
placed x [] = x ∷ []
placed x (y ∷ ys) = cond (nat_lt y x) (y ∷ placed x ys) (x ∷ y ∷ ys)

-- how many items of C lie outside K
abbrev pub spare : ℕ → ℕ → ℕ
spare K C = count_ones (less C K)

-- of the sets of a row that lie within E one with the fewest items outside K, if there is one
abbrev pub Fewest : List ℕ → ℕ → ℕ → Option ℕ → Type 0
Fewest row E K None = All (λ D. D ⊆ E → ⊥) row
Fewest row E K (Some C) = Contains row C × (C ⊆ E) × All (λ D. D ⊆ E → spare K C ≤ spare K D) row

-- What calls on a scope s answer, by the meaning m of its criterion.
use Rattle.std.specs.Prelude.{◌≡◌, ℕ, ◌-◌, ◌^◌, ◌<◌, ◌≤◌, Bool, true, false, ◌↔◌, List, length, take, drop, replicate, Ok, Err, MatchBool, Contains, Result, nat_lt}
use Rattle.base.specs.declared.refusal.Refusal.{Refusal}
use Rattle.base.specs.Refusals.{number}
use Rattle.itemset.specs.Sets.{◌∈◌, ◌⊆◌, Meets, has, less}
use Rattle.itemset.specs.Lists.{Rising}
use Rattle.criterion.specs.Meaning.{Meaning}
use Rattle.criterion.specs.Cores.{Core, cores}

-- ---- one set

-- a set of this kind where the scope gets yes; 12 exactly where it gets no
abbrev pub Chooses : Meaning → ℕ → (ℕ → Type 0) → Result ℕ Refusal → Type 0
Chooses m s P (Ok w) = (m.verdict s ≡ true) × P w
Chooses m s P (Err r) = (m.verdict s ≡ false) × (number r ≡ 12)

-- the items of group j of a lie in b
abbrev pub Part : (ℕ → ℕ) → ℕ → ℕ → ℕ → Type 0
Part group j a b = (i : ℕ) → i ∈ a → group i ≡ j → i ∈ b

-- a core such that no core has its group 0 items properly inside, and none with the same ones its group 1 items properly inside
pub record GroupedCore (m : Meaning) (s K : ℕ) : Type 0 where
  pub core : Core m.verdict s K
  pub first : (L : ℕ) → Core m.verdict s L → Part m.group 0 L K → Part m.group 0 K L
  pub second : (L : ℕ) → Core m.verdict s L → Part m.group 0 L K → Part m.group 0 K L → Part m.group 1 L K → Part m.group 1 K L

-- w holds the items that lie in every core
abbrev pub InEvery : Meaning → ℕ → ℕ → Type 0
InEvery m s w = (i : ℕ) → i ∈ w ↔ ((K : ℕ) → Core m.verdict s K → i ∈ K)

-- ---- the list

-- count is how many cores E has; the places hold each once, in rising order, and then only zeros;
-- and E less a set of its items gets no exactly when the set shares an item with every core listed
pub record Listing (V : ℕ → Bool) (E count : ℕ) (places : List ℕ) : Type 0 where
  pub counted : count ≡ length (cores V E)
  pub rising : Rising (take count places)
  pub each : (K : ℕ) → Contains (take count places) K ↔ Core V E K
  pub zeros : drop count places ≡ replicate (length places - count) 0
  pub hitting : (D : ℕ) → D ⊆ E → V (less E D) ≡ false ↔ ((K : ℕ) → Contains (take count places) K → Meets K D)

-- accepted exactly when the scope gets yes and its cores fit the size places; 12 where it gets no, else 13, and then every place is 0
abbrev pub Lists : Meaning → ℕ → ℕ → List ℕ → Result ℕ Refusal → Type 0
Lists m s size places (Ok count) = (m.verdict s ≡ true) × (length (cores m.verdict s) ≤ size) × (length places ≡ size) × Listing m.verdict s count places
Lists m s size places (Err r) = (places ≡ replicate size 0) × MatchBool (m.verdict s) ((size < length (cores m.verdict s)) × (number r ≡ 13)) (number r ≡ 12)

-- the call is refused by this number
abbrev pub Refuses : ℕ → Result ℕ Refusal → Type 0
Refuses k (Ok w) = ⊥
Refuses k (Err r) = number r ≡ k

-- the same for the scope less one of its items: 9 where there is no such item, 10 where it is out
abbrev pub ListsWithout : ℕ → Meaning → ℕ → ℕ → ℕ → List ℕ → Result ℕ Refusal → Type 0
ListsWithout n m s i size places r =
    MatchBool (nat_lt i n)
    (MatchBool (has i s) (Lists m (less s (2 ^ i)) size places r) (Refuses 10 r × (places ≡ replicate size 0)))
    (Refuses 9 r × (places ≡ replicate size 0))

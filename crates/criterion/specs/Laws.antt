-- What holds of cores.
use Rattle.std.specs.Prelude.{◌≡◌, ℕ, ◌^◌, ◌≤◌, Bool, true, false, ◌⊎◌, ◌↔◌, List, length, Contains}
use Rattle.itemset.specs.Sets.{◌∈◌, ◌⊆◌, Meets, less}
use Rattle.itemset.specs.Lists.{Rising}
use Rattle.criterion.specs.Meaning.{Monotone}
use Rattle.criterion.specs.Cores.{Core, cores}

-- a set that gets yes contains a core
abbrev pub Found : Type 0
Found = (V : ℕ → Bool) (E : ℕ) → V E ≡ true → (K : ℕ) × Core V E K

-- `cores V E` rises and holds the cores of E and no other set, and no other list does
abbrev pub Unique : Type 0
Unique = (V : ℕ → Bool) (E : ℕ) → Rising (cores V E) × ((K : ℕ) → Contains (cores V E) K ↔ Core V E K)
    × ((xs : List ℕ) → Rising xs → ((K : ℕ) → Contains xs K ↔ Core V E K) → xs ≡ cores V E)

-- a rising list of cores of E is no longer than `cores V E`
abbrev pub Counted : Type 0
Counted = (V : ℕ → Bool) (E : ℕ) (xs : List ℕ) → Rising xs → ((K : ℕ) → Contains xs K → Core V E K) → length xs ≤ length (cores V E)

-- E less D gets no exactly when D shares an item with every core of E
abbrev pub Hitting : Type 0
Hitting = (V : ℕ → Bool) → Monotone V → (E D : ℕ) → V (less E D) ≡ false ↔ ((K : ℕ) → Core V E K → Meets K D)

-- an item lies in every core of E exactly when E less that item gets no
abbrev pub Needed : Type 0
Needed = (V : ℕ → Bool) → Monotone V → (E i : ℕ) → V (less E (2 ^ i)) ≡ false ↔ ((K : ℕ) → Core V E K → i ∈ K)

-- a yes set is a core of E if no item of it can be left out
abbrev pub Shrunk : Type 0
Shrunk = (V : ℕ → Bool) → Monotone V → (E K : ℕ) → K ⊆ E → V K ≡ true → ((i : ℕ) → i ∈ K → V (less K (2 ^ i)) ≡ false) → Core V E K

-- the cores of E are a core K of it, and the cores that E has without some item of K
abbrev pub Branches : Type 0
Branches = (V : ℕ → Bool) (E K : ℕ) → Core V E K → (L : ℕ) → Core V E L ↔ ((L ≡ K) ⊎ ((i : ℕ) × (i ∈ K) × Core V (less E (2 ^ i)) L))

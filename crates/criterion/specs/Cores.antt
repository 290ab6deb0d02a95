-- Cores of a set E of items, under a verdict V of yes (true) or no (false) for every set.
use Rattle.std.specs.Prelude.{◌≡◌, ℕ, zero, suc, ◌+◌, Bool, true, false, not, ◌&&◌, List, filter, ◌≢◌}
use Rattle.std.specs.List.{range_with_len}
use Rattle.itemset.specs.Sets.{◌⊆◌, within}

-- K is a core of E: it lies within E and gets yes, while none of its proper subsets does
pub record Core (V : ℕ → Bool) (E K : ℕ) : Type 0 where
  pub inside : K ⊆ E
  pub gets : V K ≡ true
  pub least : (P : ℕ) → P ⊆ K → (P ≢ K) → V P ≡ false

-- none of the sets below m that lie within k gets yes
abbrev pub none_below : (ℕ → Bool) → ℕ → ℕ → Bool
none_below V k zero = true
none_below V k (suc m) = not (within m k && V m) && none_below V k m

-- the test of a core: a proper subset of k is a smaller number
abbrev pub is_core : (ℕ → Bool) → ℕ → ℕ → Bool
is_core V E k = within k E && (V k && none_below V k k)

-- the cores of E, in rising order: a subset of E is no greater than E as a number
unfoldable pub cores : (ℕ → Bool) → ℕ → List ℕ
cores V E = filter (is_core V E) (range_with_len 0 (E + 1))

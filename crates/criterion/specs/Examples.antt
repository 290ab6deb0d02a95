-- Cores that compute.
use Rattle.std.specs.Prelude.{◌≡◌, ℕ, Bool, ◌||◌, [], ◌∷◌}
use Rattle.itemset.specs.Sets.{within, less}
use Rattle.criterion.specs.Cores.{cores}

-- yes for the sets that contain 7, 9 or 14
abbrev pub three : ℕ → Bool
three w = within 7 w || within 9 w || within 14 w

-- of all four items, without item 0, and with items that do not count
abbrev pub Computed : Type 0
Computed = (cores three 15 ≡ 7 ∷ 9 ∷ 14 ∷ []) × (cores three (less 15 1) ≡ 14 ∷ []) × (cores three 127 ≡ 7 ∷ 9 ∷ 14 ∷ [])

-- What the making of a list does to the sets found so far. Only private functions are stated by these.
use Rattle.std.specs.Prelude.{◌≡◌, ℕ, ◌<◌, Bool, true, false, List, length, take, Some, None, Ok, Err, All, Contains, Option, Result, IfOk, IfSome}
use Rattle.base.specs.declared.refusal.Refusal.{Refusal}
use Rattle.base.specs.Refusals.{number}
use Rattle.itemset.specs.Sets.{◌⊆◌}
use Rattle.criterion.specs.Meaning.{Meaning}
use Rattle.criterion.specs.Cores.{Core, cores}
use Rattle.cores.specs.declared.found.Found.{Found}
use Rattle.cores.specs.Rows.{placed}

-- the row, and how many sets it can have
abbrev pub known : Found → List ℕ
known f = take f.count f.places.now

abbrev pub room : Found → ℕ
room f = length f.places.now

-- the places are those of the buffer that was lent
abbrev pub SameBuffer : Found → Found → Type 0
SameBuffer before after = (after.places.ghost_name ≡ before.places.ghost_name) × (room after ≡ room before)

-- a set was put into its place; refused, there was no room, and nothing changed
abbrev pub Inserts : ℕ → Found → Found → Result (Unit {0}) Refusal → Type 0
Inserts K before after (Ok u) = known after ≡ placed K (known before)
Inserts K before after (Err r) = (number r ≡ 13) × (length (known before) ≡ room before) × (known after ≡ known before)

-- the row lacks nothing that it had
pub record Grown (before after : Found) : Type 0 where
  pub buffer : SameBuffer before after
  pub keeps : (K : ℕ) → Contains (known before) K → Contains (known after) K

-- a set within E that the row has now, if there is one
abbrev pub Turns : ℕ → Found → Result (Option ℕ) Refusal → Type 0
Turns E after r = IfOk r (λ o. IfSome o (λ C. (C ⊆ E) × Contains (known after) C))

-- refused, the cores of S outnumber the places
abbrev pub Crowded : (ℕ → Bool) → ℕ → ℕ → Refusal → Type 0
Crowded V S size r = (number r ≡ 13) × (size < length (cores V S))

-- it is a core of E; there is none where E gets no; and the row is one of cores of S
abbrev pub Pivots : (ℕ → Bool) → ℕ → ℕ → ℕ → List ℕ → Result (Option ℕ) Refusal → Type 0
Pivots V S E size row (Ok None) = (V E ≡ false) × All (Core V S) row
Pivots V S E size row (Ok (Some C)) = Core V E C × All (Core V S) row
Pivots V S E size row (Err r) = Crowded V S size r

-- the row is one of cores of S and has every core of E that contains K
abbrev pub Explores : (ℕ → Bool) → ℕ → ℕ → ℕ → ℕ → List ℕ → Result (Unit {0}) Refusal → Type 0
Explores V S E K size row (Ok u) = All (Core V S) row × ((L : ℕ) → Core V E L → K ⊆ L → Contains row L)
Explores V S E K size row (Err r) = Crowded V S size r

-- the same where the criterion is in order, and from a row of cores of any set S that contains E
abbrev pub Pivoted : Meaning → ℕ → Found → Found → Result (Option ℕ) Refusal → Type 0
Pivoted m E before after r = m.order ≡ true → (S : ℕ) → E ⊆ S → All (Core m.verdict S) (known before) → Pivots m.verdict S E (room before) (known after) r

abbrev pub Explored : Meaning → ℕ → ℕ → Found → Found → Result (Unit {0}) Refusal → Type 0
Explored m E K before after r = m.order ≡ true → (S : ℕ) → E ⊆ S → All (Core m.verdict S) (known before) → Explores m.verdict S E K (room before) (known after) r

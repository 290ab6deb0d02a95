-- What the adapters over another criterion mean.
use Rattle.std.specs.Prelude.{ℕ, Bool, ◌&&◌, List}
use Rattle.std.specs.Bool.{beq}
use Rattle.std.specs.List.{list_all}
use Rattle.criterion.specs.declared.remembered.Remembered.{Remembered}
use Rattle.criterion.specs.Meaning.{Meaning}

-- every remembered verdict is V's
abbrev pub agrees : (ℕ → Bool) → List Remembered → Bool
agrees V es = list_all (λ e. beq (V e.set) e.verdict) es

-- a memory that holds es: in order exactly when the criterion below is and every remembered verdict is the verdict below
abbrev pub recalling : Meaning → List Remembered → Meaning
recalling m es = record { count = m.count; verdict = m.verdict; group = m.group; order = m.order && agrees m.verdict es }

-- the same criterion with no groups told: every item is of group 2
abbrev pub ungrouped : Meaning → Meaning
ungrouped m = record { count = m.count; verdict = m.verdict; group = λ i. 2; order = m.order }

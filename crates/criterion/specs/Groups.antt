-- The groups of the code by their numbers.
use Rattle.std.specs.Prelude.{◌≡◌, ℕ, ◌<◌, Ok, Err, Result}
use Rattle.criterion.specs.declared.group.Group.{Group}
use Rattle.criterion.specs.declared.group.Group.TheVariants.{First, Second, Third}

abbrev pub rank : Group → ℕ
rank First = 0
rank Second = 1
rank Third = 2

-- the group whose number n is; a number above 2 comes back
abbrev pub NamedBy : ℕ → Result Group ℕ → Type 0
NamedBy n (Ok group) = rank group ≡ n
NamedBy n (Err back) = (2 < n) × (back ≡ n)

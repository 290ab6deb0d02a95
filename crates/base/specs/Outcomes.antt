-- What a call answers.
use Rattle.std.specs.Prelude.{ℕ}

-- a value, or a refusal: its number and the index of the word that it is about (0 where it is about none)
pub data Outcome (X : Type 0) : Type 0 where
  accepted : X → Outcome X
  refused : ℕ → ℕ → Outcome X

-- what a place holds after a call that was to put a value there: the value, or what it held
abbrev pub standing : {X : Type 0} → Outcome X → X → X
standing (accepted x) old = x
standing (refused n i) old = old

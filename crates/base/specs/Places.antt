-- How a buffer is written.
use Rattle.std.specs.Prelude.{ℕ, cond, List, ◌++◌, length, drop, nat_le}
use Rattle.base.specs.Outcomes.{Outcome, accepted, refused}

-- the answer: how many places are filled, or 8 where there are too few
abbrev pub written : {X : Type 0} → List X → List X → Outcome ℕ
written text places = cond (nat_le (length text) (length places)) (accepted (length text)) (refused 8 0)

-- the places after: the text and then what stood there, or all as they were
abbrev pub overwritten : {X : Type 0} → List X → List X → List X
overwritten text places = cond (nat_le (length text) (length places)) (text ++ drop (length text) places) places

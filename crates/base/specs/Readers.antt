-- What a reader of the code stands before, and what it tells.
use Rattle.std.specs.Prelude.{ℕ, List, Ok, Err, Result}
use Rattle.base.specs.declared.refusal.Refusal.{Refusal}
use Rattle.base.specs.declared.reader.Reader.{Reader}
use Rattle.base.specs.Refusals.{number, index}
use Rattle.base.specs.Sheets.{Read, got, stop}

-- all the words of its sheet
abbrev pub text : Reader → List ℕ
text r = r.words.now

-- what the code read, at a reader that now stands before word i
abbrev pub told : {X Y : Type 0} → (Y → X) → Result Y Refusal → ℕ → Read X
told view (Ok y) i = got (view y) i
told view (Err f) i = stop (number f) (index f)

-- What a memory of the code holds, and what it means.
use Rattle.std.specs.Prelude.{List}
use Rattle.criterion.specs.declared.held.Memory.{Memory}
use Rattle.criterion.specs.declared.remembered.Remembered.{Remembered}
use Rattle.criterion.specs.Meaning.{Meaning}
use Rattle.criterion.specs.Over.{recalling}

-- the remembered verdicts, the oldest first
abbrev pub row : {C : Type 0} → Memory C → List Remembered
row m = m.entries.items

-- the meaning of a memory, from that of the criterion below
abbrev pub remembering : {C : Type 0} → (C → Meaning) → Memory C → Meaning
remembering below m = recalling (below m.below) (row m)

-- The answers of the console's run: the common items, and the list.
use Rattle.std.specs.Prelude.{◌≡◌, ℕ, List, [], ◌∷◌, Result, Vec}
use Rattle.std.specs.declared.alloc.Global.{Global}
use Rattle.base.specs.declared.refusal.Refusal.{Refusal}
use Rattle.inquiry.specs.declared.calls.Answer.{Answer}
use Rattle.inquiry.specs.declared.calls.Answer.TheVariants.{Chosen, Listed}

-- a set, and then a list
abbrev pub Two : List Answer → Type 0
Two answers = (common : Result ℕ Refusal) × (listed : Result ℕ Refusal) × (places : Vec ℕ Global) × (answers ≡ Chosen common ∷ Listed listed places ∷ [])

-- What is printed of the answers of an inquiry.
use Rattle.std.specs.Prelude.{ℕ, List, ◌++◌, take, Ok, Err, Result, vec_items}
use Rattle.std.specs.List.{flat_map}
use Rattle.base.specs.declared.refusal.Refusal.{Refusal}
use Rattle.base.specs.Refusals.{index, number}
use Rattle.itemset.specs.Sets.{members}
use Rattle.console.specs.declared.found.Found.{Found}
use Rattle.console.specs.Text.{common_line, core_line, items_line, refused_line}

-- the lines for n items, the common ones and the cores
abbrev pub set_lines : ℕ → ℕ → List ℕ → List ℕ
set_lines n common ks = items_line n ++ (common_line (members 32 common) ++ flat_map core_line ks)

-- the first refusal, or the lines
abbrev pub reported : ℕ → Result ℕ Refusal → Result ℕ Refusal → List ℕ → List ℕ
reported n (Ok common) (Ok count) places = set_lines n common (take count places)
reported n (Ok common) (Err r) places = refused_line (number r) (index r)
reported n (Err r) other places = refused_line (number r) (index r)

-- the same once the answers are taken together
abbrev pub printed : Result Found Refusal → List ℕ
printed (Ok found) = set_lines found.count found.common (vec_items found.cores)
printed (Err r) = refused_line (number r) (index r)

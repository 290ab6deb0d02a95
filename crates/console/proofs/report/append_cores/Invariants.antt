use Rattle.std.proofs.Common.{◌≡◌, ◌+◌, ◌-◌, ◌*◌, ◌≤◌, ◌++◌, length, take, vec_items, vec_len, vec_capacity}
use Rattle.std.specs.List.{flat_map}
use Rattle.console.specs.Text.{core_line}
use Rattle.console.proofs.report.append_cores.Given as goal

abbrev pub invariant-loop-core : goal.invariant-loop-core
invariant-loop-core l =
    (vec_items l.text ≡ vec_items l.initial.text ++ flat_map core_line (take l.core-index l.cores))
    × (vec_len l.text + 128 * (length l.cores - l.core-index) ≤ vec_capacity l.text)

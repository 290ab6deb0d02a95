use Rattle.std.proofs.Common.{◌≡◌, ◌^◌, ◌<◌, ◌++◌}
use Rattle.itemset.specs.Sets.{members}
use Rattle.console.specs.Text.{spaced}
use Rattle.console.specs.Views.{text_of}
use Rattle.console.proofs.line.Line.push_items.Given as goal

abbrev pub invariant-loop-item : goal.invariant-loop-item
invariant-loop-item l =
    let rest = l.item-iterator.0 in
    (rest < 2 ^ 32) × (text_of l.self ++ spaced (members 32 rest) ≡ text_of l.initial.self ++ spaced (members 32 l.set))

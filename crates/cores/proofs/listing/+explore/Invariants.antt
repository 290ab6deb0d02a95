use Rattle.std.proofs.Common.{◌≡◌}
use Rattle.itemset.specs.Sets.{less}
use Rattle.cores.specs.Founds.{Grown, known}
use Rattle.cores.proofs.Coming.{Coming}
use Rattle.cores.proofs.Exploring.{Holding, Turning}
use Rattle.cores.proofs.listing.+explore.Given as goal

abbrev pub decreases-explore : goal.decreases-explore
decreases-explore g l = l.scope.set

abbrev pub invariant-loop-item : goal.invariant-loop-item
invariant-loop-item g l =
    let meaning = g.C.Criterion.meaning in
    let m = meaning l.fn.criterion in
    let items = l.initial.item-iterator.0 in
    let rest = l.item-iterator.0 in
    (meaning l.criterion ≡ m)
    × Grown l.initial.found l.found
    × Coming items rest
    × Holding l.initial.held (less items rest) l.held
    × Turning m l.scope.set l.initial.held items (known l.initial.found) (less items rest) (known l.found)

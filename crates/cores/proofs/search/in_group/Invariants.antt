use Rattle.std.proofs.Common.{◌≡◌}
use Rattle.itemset.specs.Sets.{less}
use Rattle.cores.proofs.Coming.{Coming}
use Rattle.criterion.specs.Groups.{rank}
use Rattle.cores.proofs.Sifting.{Sifted}
use Rattle.cores.proofs.search.in_group.Given as goal

abbrev pub invariant-loop-item : goal.invariant-loop-item
invariant-loop-item g l =
    let m = g.C.Criterion.meaning l.criterion in
    let rest = l.item-iterator.0 in
    Coming l.fn.scope.set rest × Sifted (λ i. m.group i ≡ rank l.group) (less l.fn.scope.set rest) l.chosen

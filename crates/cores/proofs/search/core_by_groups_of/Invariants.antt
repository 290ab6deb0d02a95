use Rattle.std.proofs.Common.{◌≡◌, true}
use Rattle.cores.proofs.Ranking.{Ranked}
use Rattle.cores.proofs.search.core_by_groups_of.Given as goal

abbrev pub invariant-loop-group : goal.invariant-loop-group
invariant-loop-group g l =
    let meaning = g.C.Criterion.meaning in
    let m = meaning l.fn.criterion in
    (meaning l.criterion ≡ m) × (m.order ≡ true → Ranked m l.fn.scope.set l.left.set l.group-index)

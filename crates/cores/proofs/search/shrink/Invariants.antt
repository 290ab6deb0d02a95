use Rattle.std.proofs.Common.{◌≡◌, true}
use Rattle.itemset.specs.Sets.{◌⊆◌, less}
use Rattle.cores.specs.Rows.{Pruned}
use Rattle.cores.proofs.Coming.{Coming}
use Rattle.cores.proofs.search.shrink.Given as goal

abbrev pub invariant-loop-item : goal.invariant-loop-item
invariant-loop-item g l =
    let meaning = g.C.Criterion.meaning in
    let m = meaning l.fn.criterion in
    let rest = l.item-iterator.0 in
    let E = l.fn.scope.set in
    (meaning l.criterion ≡ m)
    × Coming l.loose rest
    × (m.order ≡ true → m.verdict E ≡ true → Pruned m.verdict E (less l.loose rest) l.left.set)
    × (l.left.set ⊆ E)

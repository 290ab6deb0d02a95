use Rattle.std.proofs.Common.{◌≡◌, ◌^◌, true, false}
use Rattle.itemset.specs.Sets.{less}
use Rattle.cores.proofs.Coming.{Coming}
use Rattle.cores.proofs.Sifting.{Sifted}
use Rattle.cores.proofs.search.common_of.Given as goal

abbrev pub invariant-loop-item : goal.invariant-loop-item
invariant-loop-item g l =
    let meaning = g.C.Criterion.meaning in
    let m = meaning l.fn.criterion in
    let rest = l.item-iterator.0 in
    let E = l.scope.set in
    (meaning l.criterion ≡ m)
    × Coming E rest
    × (m.order ≡ true → Sifted (λ i. m.verdict (less E (2 ^ i)) ≡ false) (less E rest) l.common)

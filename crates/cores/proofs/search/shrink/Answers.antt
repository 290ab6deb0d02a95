use Rattle.std.proofs.Common.{◌^◌, subst, ◌∙◌}
use Rattle.itemset.specs.Sets.{◌∈◌}
use Rattle.itemset.proofs.Members.{less_sub}
use Rattle.cores.specs.Rows.{Pruned}
use Rattle.cores.proofs.Judged.{judged}
use Rattle.cores.proofs.Coming.{more_done, coming_less, all_done}
use Rattle.cores.proofs.Pruning.{pruned_goes, pruned_stays}
use Rattle.cores.proofs.search.shrink.Goals as goal

pub loop-item-preserved-then-check : goal.loop-item-preserved-then-check
loop-item-preserved-then-check g c =
    let inv = c.loop-item.invariant in
    let turn = c.in-Some.ensures.steps in
    let cut = c.lacking-fewer.ensures.set in
    let told = c.check.ensures in (
      told.keeps_the_meaning ∙ inv.0,
      coming_less inv.1 turn,
      λ o t. pruned_goes cut (more_done inv.1 turn) (inv.2 o t) (g.met.C.Criterion.lawful c.args.criterion.now).monotone (judged _ inv.0 told.answers_the_verdict c.if-check.true o),
      λ j p. inv.3 j (less_sub c.loop-item.left.set (2 ^ c.in-Some.item) j (subst (λ x. j ∈ x) cut p)),
    )

pub loop-item-preserved : goal.loop-item-preserved
loop-item-preserved g c =
    let inv = c.loop-item.invariant in
    let turn = c.in-Some.ensures.steps in
    let told = c.check.ensures in (
      told.keeps_the_meaning ∙ inv.0,
      coming_less inv.1 turn,
      λ o t. pruned_stays c.lacking-fewer.ensures.set (more_done inv.1 turn) (inv.2 o t) (judged _ inv.0 told.answers_the_verdict c.if-check.false o),
      inv.3,
    )

pub returns-clause-answer : goal.returns-clause-answer
returns-clause-answer g c =
    let V = (g.C.Criterion.meaning c.args.criterion.now).verdict in
    λ o t. subst (λ d. Pruned V c.args.scope.set d c.loop-item.left.set) (all_done c.args.loose c.loop-item.item-iterator.0 c.in-None.ensures.steps.0) (c.loop-item.invariant.2 o t)

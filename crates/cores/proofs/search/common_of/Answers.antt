use Rattle.std.proofs.Common.{◌≡◌, ◌^◌, false, sym, ap, subst, ◌∙◌}
use Rattle.std.proofs.lemmas.Bool.{both_ways}
use Rattle.itemset.specs.Sets.{less}
use Rattle.cores.proofs.Judged.{judged}
use Rattle.cores.proofs.Coming.{more_done, coming_less, all_done, item_small}
use Rattle.cores.proofs.Sifting.{Sifted, sifted_past, sifted_adds, common_are}
use Rattle.cores.proofs.search.common_of.Goals as goal

pub overflow_shl-common : goal.overflow_shl-common
overflow_shl-common g c = item_small c.args.scope c.in-Some.item (c.loop-item.invariant.1.inside c.in-Some.item c.in-Some.ensures.steps.0.member)

pub loop-item-preserved-then-not-check-2 : goal.loop-item-preserved-then-not-check-2
loop-item-preserved-then-not-check-2 g c =
    let V = (g.C.Criterion.meaning c.args.criterion.now).verdict in
    let inv = c.loop-item.invariant in
    let i = c.in-Some.item in
    let turn = c.in-Some.ensures.steps in
    let told = c.check-in-loop-item.ensures in (
      told.keeps_the_meaning ∙ inv.0,
      coming_less inv.1 turn,
      λ o. sifted_adds (more_done inv.1 turn) (inv.2 o) (item_small c.args.scope i (inv.1.inside i turn.0.member)) (ap V (sym c.lacking.ensures.set) ∙ judged _ inv.0 told.answers_the_verdict c.if-not-check-2.true o),
    )

pub loop-item-preserved : goal.loop-item-preserved
loop-item-preserved g c =
    let V = (g.C.Criterion.meaning c.args.criterion.now).verdict in
    let inv = c.loop-item.invariant in
    let turn = c.in-Some.ensures.steps in
    let told = c.check-in-loop-item.ensures in (
      told.keeps_the_meaning ∙ inv.0,
      coming_less inv.1 turn,
      λ o. sifted_past (more_done inv.1 turn) (inv.2 o) (λ f. both_ways _ (ap V c.lacking.ensures.set ∙ f) (judged _ inv.0 told.answers_the_verdict c.if-not-check-2.false o)),
    )

pub returns-clause-answers_the_common_items : goal.returns-clause-answers_the_common_items
returns-clause-answers_the_common_items g c =
    let V = (g.C.Criterion.meaning c.args.criterion.now).verdict in
    let E = c.args.scope.set in
    λ o.
    let t = sym (c.check.ensures.answers_the_verdict o) ∙ c.if-not-check.false in (
      t,
      common_are V (g.met.C.Criterion.lawful c.args.criterion.now).monotone E c.loop-item.common t
          (subst (λ d. Sifted (λ j. V (less E (2 ^ j)) ≡ false) d c.loop-item.common) (all_done E c.loop-item.item-iterator.0 c.in-None.ensures.steps.0) (c.loop-item.invariant.2 o)),
    )

use Rattle.std.proofs.Common.{◌≡◌, ℕ, ◌↔◌, sym, subst, ◌∙◌}
use Rattle.itemset.specs.Sets.{◌∈◌}
use Rattle.criterion.specs.Meaning.{Meaning}
use Rattle.criterion.proofs.Grouping.{rank_at}
use Rattle.cores.proofs.Pruning.{pruned_at}
use Rattle.cores.proofs.Ranking.{ranked_more, ranked_core}
use Rattle.cores.proofs.search.core_by_groups_of.Goals as goal

pub loop-group-preserved : goal.loop-group-preserved
loop-group-preserved g c =
    let meaning = g.C.Criterion.meaning in
    let m = meaning c.args.criterion.now in
    let at = meaning c.loop-group.criterion in
    let inv = c.loop-group.invariant in
    let group = c.loop-group.group-index in
    let left = c.loop-group.left.set in
    let loose = c.in_group-loose.result in
    let next = c.shrink-left.result.set in
    let are = subst (λ (x : Meaning). (i : ℕ) → i ∈ loose ↔ ((i ∈ left) × (x.group i ≡ group))) inv.0 (subst (λ (n : ℕ). (i : ℕ) → i ∈ loose ↔ ((i ∈ left) × (at.group i ≡ n))) (rank_at _ group c.loop-group-test.true) c.in_group-loose.ensures) in (
      c.shrink-left.ensures.same ∙ inv.0,
      λ o.
          let h = inv.1 o in
          ranked_more m (g.met.C.Criterion.lawful c.args.criterion.now).monotone c.args.scope.set left group loose next are (pruned_at m at left loose next inv.0 c.shrink-left.ensures.answer o h.gets) h,
    )

pub returns-clause-answers_a_core_by_groups : goal.returns-clause-answers_a_core_by_groups
returns-clause-answers_a_core_by_groups g c =
    let m = g.C.Criterion.meaning c.args.criterion.now in
    let E = c.args.scope.set in
    λ o. (
      sym (c.check.ensures.answers_the_verdict o) ∙ c.if-not-check.false,
      ranked_core m (g.met.C.Criterion.lawful c.args.criterion.now) E c.loop-group.left.set c.loop-group.group-index c.loop-group-test.false (c.loop-group.invariant.1 o),
    )

use Rattle.std.proofs.Common.{◌≡◌, ℕ, ◌↔◌, ◌+◌, true, sym, ◌∙◌, subst, arith}
use Rattle.itemset.specs.Sets.{◌∈◌}
use Rattle.joints.specs.Closed.{touches}
use Rattle.joints.specs.Views.{plan_of}
use Rattle.joints.proofs.Kept.{kept_at, kept_length}
use Rattle.joints.proofs.Stripping.{tally_hit, tally_miss, tally_all, tally_same}
use Rattle.joints.proofs.plan.JointPlan.loose_bodies.Goals as goal
use Rattle.joints.proofs.plan.JointPlan.loose_bodies.Goals.{then-holds, else-holds}

pub ends-ends-requires : goal.ends-ends-requires
ends-ends-requires c = let k = kept_at c.args.self.now _ c.loop-k.k _ c.deref-joint-items.ensures.value c.loop-k-test.true in (k.first, k.second)

pub loop-k-preserved : goal.loop-k-preserved
loop-k-preserved c =
    let p = plan_of c.args.self.now in
    let k = c.loop-k.k in
    let at = kept_at c.args.self.now c.deref-joint-items.result.now k _ c.deref-joint-items.ensures.value c.loop-k-test.true in
    elim c.if-holds.branch [
      | then-holds w ↦
          tally_same p c.args.set (k + 1) _ _ _ _ w.once-is w.more-is
          (tally_hit p c.args.set k c.loop-k.once c.loop-k.more c.loop-k.invariant w.ends-ends.result w.ends-ends.type_inv (sym c.holds.ensures ∙ w.if-holds.true)
          (subst (λ j. (b : ℕ) → b ∈ w.ends-ends.result ↔ (touches j b ≡ true)) at.same w.ends-ends.ensures))
      | else-holds w ↦
          tally_same p c.args.set (k + 1) _ _ _ _ w.once-is w.more-is
          (tally_miss p c.args.set k c.loop-k.once c.loop-k.more c.loop-k.invariant (sym c.holds.ensures ∙ w.if-holds.false))
    ]

pub returns : goal.returns
returns c =
    let p = plan_of c.args.self.now in
    tally_all p c.args.set c.loop-k.k c.loop-k.once c.loop-k.more c.loop-k.invariant (omega (arith, c.loop-k.auto.k-end, c.loop-k-test.false, kept_length c.args.self.now c.deref-joint-items.result.now c.deref-joint-items.ensures.value))

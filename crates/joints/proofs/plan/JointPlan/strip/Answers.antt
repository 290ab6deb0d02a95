use Rattle.std.proofs.Common.{◌≡◌, ℕ, ◌↔◌, ◌+◌, true, sym, ◌∙◌, subst, arith}
use Rattle.std.proofs.lemmas.Bool.{both_ways}
use Rattle.itemset.specs.Sets.{◌∈◌}
use Rattle.itemset.proofs.Members.{decides_has}
use Rattle.joints.specs.Closed.{touches}
use Rattle.joints.specs.Views.{plan_of}
use Rattle.joints.proofs.Kept.{kept_at}
use Rattle.joints.proofs.Stripping.{Sieve, sieve_skip, sieve_keep, stays, goes}
use Rattle.joints.proofs.plan.JointPlan.strip.Goals as goal
use Rattle.joints.proofs.plan.JointPlan.strip.Goals.{then-holds+then-ends-loose-eq0, else-holds, else-holds-via-then-holds+else-ends-loose-eq0, else-holds-via-else-holds}

pub ends-requires : goal.ends-requires
ends-requires c = let k = kept_at c.args.self.now _ c.loop-k.k _ c.deref-joint-items.ensures.value c.loop-k-test.true in (k.first, k.second)

pub loop-k-preserved : goal.loop-k-preserved
loop-k-preserved c =
    let p = plan_of c.args.self.now in
    let set = c.args.set in
    let k = c.loop-k.k in
    let loose = c.loose_bodies-loose in
    let at = kept_at c.args.self.now c.deref-joint-items.result.now k _ c.deref-joint-items.ensures.value c.loop-k-test.true in
    let inside : c.holds.result ≡ true → k ∈ set = λ t. (decides_has k set).0 (sym c.holds.ensures ∙ t) in
    elim c.if-holds.branch [
      | then-holds+then-ends-loose-eq0 w ↦
          let ends = subst (λ j. (b : ℕ) → b ∈ w.ends.result ↔ (touches j b ≡ true)) at.same w.ends.ensures in
          subst (Sieve p set (k + 1)) (sym w.rest-is)
          (sieve_keep p set k c.loop-k.rest c.loop-k.invariant (omega (arith, at.low)) (stays p set loose.result w.ends.result k at.at (inside w.if-holds.true) loose.ensures ends w.if-ends-loose-eq0.true))
      | else-holds w ↦
          subst (Sieve p set (k + 1)) (sym w.rest-is)
          (sieve_skip p set k c.loop-k.rest c.loop-k.invariant
          (elim w.else-holds.branch [
            | else-holds-via-then-holds+else-ends-loose-eq0 v ↦
                let ends = subst (λ j. (b : ℕ) → b ∈ v.ends.result ↔ (touches j b ≡ true)) at.same v.ends.ensures in
                goes p set loose.result v.ends.result k at.at (inside v.if-holds.true) loose.ensures ends v.if-ends-loose-eq0.false
            | else-holds-via-else-holds v ↦ λ s. both_ways c.holds.result v.if-holds.false (c.holds.ensures ∙ (decides_has k set).1 s.member)
          ]))
    ]

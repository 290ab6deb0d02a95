use Rattle.std.proofs.Common.{◌≡◌, not, eqb, sym, refl, ◌∙◌, subst, arith}
use Rattle.itemset.specs.Sets.{◌∈◌}
use Rattle.itemset.proofs.Members.{subset_le}
use Rattle.joints.specs.Closed.{has_closed_part}
use Rattle.joints.specs.Views.{plan_of}
use Rattle.joints.specs.Lawful.{search_right}
use Rattle.joints.proofs.Closing.{strip_right, fixed_right}
use Rattle.joints.proofs.sets.JointSetsCriterion.check.Goals as goal

pub loop-rest-preserved : goal.loop-rest-preserved
loop-rest-preserved c =
    let p = c.args.self.now.plan in
    (strip_right (plan_of p) p.ok c.loop-rest.rest c.strip-next.result c.strip-next.ensures ∙ c.loop-rest.invariant.0, c.strip-next.type_inv)

pub loop-rest-smaller : goal.loop-rest-smaller
loop-rest-smaller c =
    let h = subset_le c.strip-next.result c.loop-rest.rest (λ i m. ((c.strip-next.ensures i).0 m).member) in
    let ne = c.if-next-rest.false in
    omega arith

pub returns-then-next-rest : goal.returns-then-next-rest
returns-then-next-rest c =
    let p = plan_of c.args.self.now.plan in
    let rest = c.loop-rest.rest in
    let v : not (eqb rest 0) ≡ has_closed_part p c.args.set =
    fixed_right p rest (λ i m. (c.strip-next.ensures i).0 (subst (λ x. i ∈ x) (sym c.if-next-rest.true) m)) ∙ c.loop-rest.invariant.0 in
    record {
      answers_the_verdict = λ o. v;
      keeps_the_meaning = refl;
      yes_exactly_with_a_closed_part = ((λ t. (search_right p c.args.set).0 (sym v ∙ t)), (λ h. v ∙ (search_right p c.args.set).1 h));
    }

use Rattle.std.proofs.Common.{◌≡◌, ◌^◌, ◌<◌}
use Rattle.joints.specs.Closed.{has_closed_part}
use Rattle.joints.specs.Views.{plan_of}
use Rattle.joints.proofs.sets.JointSetsCriterion.check.Given as goal

abbrev pub invariant-loop-rest : goal.invariant-loop-rest
invariant-loop-rest l = (has_closed_part (plan_of l.self.plan) l.rest ≡ has_closed_part (plan_of l.self.plan) l.set) × (l.rest < 2 ^ 32)

abbrev pub decreases-loop-rest : goal.decreases-loop-rest
decreases-loop-rest l = l.rest

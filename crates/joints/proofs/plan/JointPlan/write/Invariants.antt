use Rattle.std.proofs.Common.{◌≡◌, ◌+◌, map}
use lib.Seq.{paste}
use Rattle.joints.specs.Plans.{word}
use Rattle.joints.specs.Views.{plan_of}
use Rattle.joints.proofs.plan.JointPlan.write.Given as goal

abbrev pub invariant-loop-k : goal.invariant-loop-k
invariant-loop-k l = l.places ≡ paste l.initial.places (l.bodies + 2) (map word (plan_of l.self).joints) l.k

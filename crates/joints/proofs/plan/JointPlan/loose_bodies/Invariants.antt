use Rattle.joints.specs.Views.{plan_of}
use Rattle.joints.proofs.Stripping.{Tally}
use Rattle.joints.proofs.plan.JointPlan.loose_bodies.Given as goal

abbrev pub invariant-loop-k : goal.invariant-loop-k
invariant-loop-k l = Tally (plan_of l.self) l.set l.k l.once l.more

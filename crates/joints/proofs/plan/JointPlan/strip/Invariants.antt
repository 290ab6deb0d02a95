use Rattle.joints.specs.Views.{plan_of}
use Rattle.joints.proofs.Stripping.{Sieve}
use Rattle.joints.proofs.plan.JointPlan.strip.Given as goal

abbrev pub invariant-loop-k : goal.invariant-loop-k
invariant-loop-k l = Sieve (plan_of l.self) l.set l.k l.rest

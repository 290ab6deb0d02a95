use Rattle.std.proofs.Common.{◌≡◌, map, take}
use Rattle.joints.specs.Admission.{joint}
use Rattle.joints.specs.Views.{plan_of}
use Rattle.joints.proofs.plan.JointPlan.replace.Given as goal

abbrev pub invariant-loop-word : goal.invariant-loop-word
invariant-loop-word l = plan_of l.self ≡ record { bodies = l.draft.bodies; joints = map joint (take l.word-index l.draft.joints.now) }

-- What a plan of the code stands for, and what was read of a sheet.
use Rattle.std.specs.Prelude.{◌≡◌, ℕ, ◌/◌, ◌^◌, ◌<◌, map, Ok, Err, Result}
use Rattle.joints.specs.declared.draft.Draft.{Draft}
use Rattle.joints.specs.declared.joint.Joint.{Joint}
use Rattle.joints.specs.declared.plan.JointPlan.{JointPlan}
use Rattle.joints.specs.Plans as pure
use Rattle.joints.specs.Admission.{joint}
use Rattle.joints.specs.Held.{held, joint_of}

abbrev pub plan_of : JointPlan → pure.Plan
plan_of p = held p.bodies p.joints

abbrev pub draft_of : Draft → pure.Plan
draft_of d = record { bodies = d.bodies; joints = map joint d.joints.now }

-- the joint of a word; a word with a bit from 24 upward or a class above 2 has none, and comes back
abbrev pub Unpacks : ℕ → Result Joint ℕ → Type 0
Unpacks w (Ok j) = (w < 2 ^ 24) × (joint_of j ≡ joint w)
Unpacks w (Err v) = (v ≡ w) × (w < 2 ^ 24 → 2 < w / 65536)

-- What the fields of a plan of the code stand for.
use Rattle.std.specs.Prelude.{ℕ, map, vec_items, Vec}
use Rattle.std.specs.declared.alloc.Global.{Global}
use Rattle.criterion.specs.Groups.{rank}
use Rattle.joints.specs.declared.joint.Joint.{Joint}
use Rattle.joints.specs.Plans as pure

-- the joint that the code keeps
abbrev pub joint_of : Joint → pure.Joint
joint_of j = record { first = j.first; second = j.second; class = rank j.class }

-- the plan with so many bodies and these joints
abbrev pub held : ℕ → Vec Joint Global → pure.Plan
held bodies joints = record { bodies = bodies; joints = map joint_of (vec_items joints) }

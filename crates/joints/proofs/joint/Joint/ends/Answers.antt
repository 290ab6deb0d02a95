use Rattle.joints.specs.Held.{joint_of}
use Rattle.joints.proofs.Stripping.{ends_in}
use Rattle.joints.proofs.joint.Joint.ends.Goals as goal

pub returns : goal.returns
returns c = ends_in (joint_of c.args.self.now) c.requires.0 c.requires.1

use Rattle.std.proofs.Common.{rules}
use Rattle.joints.proofs.Kept.{class_told}
use Rattle.joints.proofs.sets.JointSetsGroupedCriterion.group.Goals as goal

pub returns : goal.returns
returns c = record { tells_the_group = class_told c.args.self.now.plan c.deref.result.now c.args.item c.map_or.result c.get-joint.result c.deref.ensures.value c.get-joint.ensures.lookup (search rules) }

use Rattle.std.proofs.Common.{refl}
use Rattle.criterion.specs.Cores.{cores}
use Rattle.joints.specs.Closed.{has_closed_part, touching}
use Rattle.joints.specs.Lawful.{search_right, sets_lawful}
use Rattle.joints.proofs.Closing.{strip_right}
use Rattle.joints.proofs.closed_laws.Goals as goal

pub returns : goal.returns
unfolding has_closed_part touching cores
returns c = record { search_is_right = search_right; stripping_keeps_the_verdict = strip_right; joint_sets_keep_the_law = sets_lawful; worked_plan_computes = (refl, refl, refl) }

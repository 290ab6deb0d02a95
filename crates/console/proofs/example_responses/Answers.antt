use Rattle.std.proofs.Common.{refl}
use Rattle.std.specs.Fmt.{digits}
use Rattle.itemset.specs.Sets.{members}
use Rattle.criterion.specs.Cores.{cores}
use Rattle.joints.specs.Closed.{has_closed_part, touching}
use Rattle.console.specs.Response.{listed, response, shared}
use Rattle.console.proofs.example_responses.Goals as goal

pub returns : goal.returns
unfolding response listed shared members cores has_closed_part touching digits
returns c = record { examples_compute = (refl, refl, refl, refl, refl, refl) }

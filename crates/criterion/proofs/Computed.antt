-- Cores by computation.
use Rattle.std.proofs.Common.{refl}
use Rattle.criterion.specs.Cores.{cores}
use Rattle.criterion.specs.Examples.{Computed}

pub computed : Computed
unfolding cores
computed = (refl, refl, refl)

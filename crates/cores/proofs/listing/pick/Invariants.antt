use Rattle.std.proofs.Common.{take}
use Rattle.cores.proofs.Picking.{Best}
use Rattle.cores.proofs.listing.pick.Given as goal

abbrev pub invariant-loop-set : goal.invariant-loop-set
invariant-loop-set l = Best (take l.set-index l.row) l.within l.held l.best l.fewest

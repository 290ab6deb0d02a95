use Rattle.itemset.proofs.Counts.{some_right, every_right}
use Rattle.itemset.proofs.counting_laws.Goals as goal

pub returns : goal.returns
returns c = record { some_right = some_right; every_right = every_right }

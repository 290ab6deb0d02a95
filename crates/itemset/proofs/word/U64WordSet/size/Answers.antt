use Rattle.std.proofs.Common.{arith}
use Rattle.itemset.proofs.Bits.{ones_are}
use Rattle.itemset.proofs.word.U64WordSet.size.Goals as goal

pub returns : goal.returns
returns c = ones_are 64 c.args.self (omega arith)

use Rattle.std.proofs.Common.{arith}
use Rattle.itemset.proofs.Bits.{less_beyond, less_code}
use Rattle.itemset.proofs.word.U64WordSet.without.Goals as goal

pub returns-then-item-ge64 : goal.returns-then-item-ge64
returns-then-item-ge64 c = less_beyond 64 c.args.item c.args.self (omega arith) (omega arith)

pub returns : goal.returns
returns c = less_code 64 c.args.item c.args.self (omega arith) (omega arith)

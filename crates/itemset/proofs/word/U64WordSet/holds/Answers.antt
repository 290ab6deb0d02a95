use Rattle.std.proofs.Common.{◌∙◌, sym, arith}
use Rattle.std.proofs.lemmas.Bool.{le-ltb}
use Rattle.itemset.proofs.Bits.{has_beyond}
use Rattle.itemset.proofs.word.U64WordSet.holds.Goals as goal

pub returns-else-item-lt64 : goal.returns-else-item-lt64
returns-else-item-lt64 c = le-ltb c.args.item 64 c.if-item-lt64.false ∙ sym (has_beyond 64 c.args.item c.args.self (omega arith) (omega arith))

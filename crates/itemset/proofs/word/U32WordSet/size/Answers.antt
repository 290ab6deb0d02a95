use Rattle.std.proofs.Common.{ℕ, length, sym, ap, ◌∙◌, arith}
use Rattle.itemset.specs.Sets.{members}
use Rattle.itemset.proofs.Bits.{ones_are}
use Rattle.itemset.proofs.word.U32WordSet.size.Goals as goal

pub returns : goal.returns
returns c = c.size.ensures ∙ (ap (λ (s : ℕ). length (members 64 s)) c.from.ensures ∙ (sym (ones_are 64 c.args.self (omega arith)) ∙ ones_are 32 c.args.self (omega arith)))

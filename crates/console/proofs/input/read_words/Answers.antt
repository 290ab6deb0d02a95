use Rattle.std.proofs.Common.{arith}
use Rattle.std.proofs.lemmas.Grind.{common_steps}
use Rattle.console.proofs.Words.{words_are}
use Rattle.console.proofs.input.read_words.Goals as goal

pub returns-clause-words : goal.returns-clause-words
returns-clause-words c = grind (arith, common_steps, words_are c.args.bytes.now)

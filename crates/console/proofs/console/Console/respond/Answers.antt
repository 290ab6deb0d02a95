use Rattle.console.specs.Response.{response}
use Rattle.console.proofs.Printing.{cut_is}
use Rattle.console.proofs.console.Console.respond.Goals as goal

pub returns-clause-answers_the_length : goal.returns-clause-answers_the_length
unfolding response
returns-clause-answers_the_length c = let cut = cut_is c.args.input.now 24656 c.min-len.result c.min-len.ensures in cc

pub returns-clause-fills_the_front : goal.returns-clause-fills_the_front
unfolding response
returns-clause-fills_the_front c = let cut = cut_is c.args.input.now 24656 c.min-len.result c.min-len.ensures in cc

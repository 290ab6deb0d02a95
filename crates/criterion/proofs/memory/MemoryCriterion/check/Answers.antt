use Rattle.std.proofs.Common.{arith}
use Rattle.criterion.specs.Held.{row}
use Rattle.criterion.proofs.Recalled.{recall_right, meaning_kept}
use Rattle.criterion.proofs.memory.MemoryCriterion.check.Goals as goal

pub returns-in-Some-clause-answers_the_verdict : goal.returns-in-Some-clause-answers_the_verdict
returns-in-Some-clause-answers_the_verdict g c =
    let m = c.args.self.now in
    let right = recall_right (g.C.Criterion.meaning m.below).verdict (g.met.C.Criterion.lawful m.below).monotone c.args.set (row m) in
    grind arith

pub returns-clause-keeps_the_meaning : goal.returns-clause-keeps_the_meaning
returns-clause-keeps_the_meaning g c =
    let m = c.args.self.now in
    let kept = meaning_kept (g.C.Criterion.meaning m.below) (g.met.C.Criterion.lawful m.below) c.args.set (row m) c.check-verdict.result in
    grind arith

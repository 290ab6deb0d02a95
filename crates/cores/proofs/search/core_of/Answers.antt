use Rattle.std.proofs.Common.{sym, ◌∙◌}
use Rattle.cores.proofs.Pruning.{pruned_core, pruned_at}
use Rattle.cores.proofs.search.core_of.Goals as goal

pub returns-clause-answers_a_core : goal.returns-clause-answers_a_core
returns-clause-answers_a_core g c =
    let meaning = g.C.Criterion.meaning in
    let m = meaning c.args.criterion.now in
    let E = c.args.scope.set in
    λ o.
    let t = sym (c.check.ensures.answers_the_verdict o) ∙ c.if-not-check.false in
    (t, pruned_core m.verdict (g.met.C.Criterion.lawful c.args.criterion.now).monotone E c.shrink.result.set (pruned_at m (meaning c.check.new.self) E E c.shrink.result.set c.check.ensures.keeps_the_meaning c.shrink.ensures.answer o t))

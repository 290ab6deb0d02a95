use Rattle.std.proofs.Common.{length, ◌∙◌, rules, arith}
use Rattle.cores.proofs.Whole.{row_few, lists_no, lists_full, lists_all}
use Rattle.cores.proofs.listing.list_of.Goals as goal

pub returns-in-Err-clause-lists_every_core : goal.returns-in-Err-clause-lists_every_core
returns-in-Err-clause-lists_every_core g c =
    let m = g.C.Criterion.meaning c.args.criterion.now in
    let law = (g.met.C.Criterion.lawful c.args.criterion.now).monotone in
    let size = length c.args.places.now in
    λ o. lists_full m law c.args.scope.set c.new-found.result c.explore.new.found o c.new-found.ensures.empty size c.fill.new.self c.in-Err.refusal (search rules) c.new-found.ensures.room c.in-Err.ensures.answer

pub returns-then-found-eq0-clause-lists_every_core : goal.returns-then-found-eq0-clause-lists_every_core
returns-then-found-eq0-clause-lists_every_core g c =
    let m = g.C.Criterion.meaning c.args.criterion.now in
    let law = (g.met.C.Criterion.lawful c.args.criterion.now).monotone in
    let size = length c.args.places.now in
    let f = c.explore.new.found in
    λ o. lists_no m law c.args.scope.set c.new-found.result f o c.new-found.ensures.empty size _ (search rules) (c.explore.ensures.row.buffer.1 ∙ c.new-found.ensures.room) c.if-found-eq0.true c.in_default.ensures.answer

pub overflow_cast-result : goal.overflow_cast-result
overflow_cast-result g c = omega (arith, row_few c.explore.new.found)

pub returns-clause-lists_every_core : goal.returns-clause-lists_every_core
returns-clause-lists_every_core g c =
    let m = g.C.Criterion.meaning c.args.criterion.now in
    let law = (g.met.C.Criterion.lawful c.args.criterion.now).monotone in
    let size = length c.args.places.now in
    let f = c.explore.new.found in
    λ o. lists_all m law c.args.scope.set c.new-found.result f o c.new-found.ensures.empty size _ (search rules) (c.explore.ensures.row.buffer.1 ∙ c.new-found.ensures.room) c.if-found-eq0.false c.in_default.ensures.answer

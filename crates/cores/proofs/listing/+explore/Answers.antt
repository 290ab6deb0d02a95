use Rattle.std.proofs.Common.{Ok, Err, ◌∙◌, arith}
use Rattle.std.proofs.lemmas.Result.{err_from_is_err_and}
use Rattle.itemset.proofs.Members.{less_falls}
use Rattle.cores.proofs.Coming.{more_done, coming_less, item_small}
use Rattle.cores.proofs.Exploring.{holding_more, turning_more, grown_trans, explored_at, explored_none, explored_all, explored_full, items_are, of_scope}
use Rattle.cores.proofs.listing.+explore.Goals as goal

pub returns-in_default-clause-answer : goal.returns-in_default-clause-answer
returns-in_default-clause-answer g t c =
    let m = g.C.Criterion.meaning c.args.criterion.now in
    explored_none m (g.met.C.Criterion.lawful c.args.criterion.now).monotone c.args.scope.set c.args.held c.args.found.now c.pivot.new.found (rw c.in_default.is at c.in_ok-core.ensures.answer)

pub explore-requires : goal.explore-requires
explore-requires g t c κs within =
    let s = c.args.scope in
    let i = c.in-Some-item.item in
    let core = rw c.in-Some.is at c.in_ok-core.ensures.core in
    let here = of_scope s c.in-Some.core c.args.held c.into_iter-item-iterator.ensures.into_iter_gives core.0 c.ranges.held.fits c.loop-item.invariant.2 c.in-Some-item.ensures.steps.0 in
    (omega (arith, less_falls s.set i here, c.lacking.ensures.set), within)

pub returns-in_err-explore-clause-row : goal.returns-in_err-explore-clause-row
returns-in_err-explore-clause-row g t c = grown_trans c.in_ok-core.ensures.row (grown_trans c.loop-item.invariant.1 c.in_err-explore.ensures.row)

pub returns-in_err-explore-clause-answer : goal.returns-in_err-explore-clause-answer
returns-in_err-explore-clause-answer g t c =
    let m = g.C.Criterion.meaning c.args.criterion.now in
    let inv = c.loop-item.invariant in
    let told = c.in_err-explore.ensures in
    let first = rw c.in-Some.is at c.in_ok-core.ensures.answer in
    let p = err_from_is_err_and c.from_residual-in_err-explore.result c.from_residual-in_err-explore.ensures.1 in
    rw (p.1, p.2) (explored_full m c.args.scope.set c.args.held c.in-Some.core c.into_iter-item-iterator.result.0 c.loop-item.item-iterator.0 c.args.found.now c.pivot.new.found c.loop-item.found first inv.4
    c.in-Some-item.item c.loop-item.held c.explore.new.found c.in_err-explore.field-0.0 (inv.1.buffer.1 ∙ c.in_ok-core.ensures.row.buffer.1) (explored_at c.loop-item.held c.loop-item.found c.explore.new.found (Err c.in_err-explore.field-0.0) inv.0 c.lacking.ensures.set told.answer))

pub overflow_shl-held : goal.overflow_shl-held
overflow_shl-held g t c =
    let s = c.args.scope in
    let core = rw c.in-Some.is at c.in_ok-core.ensures.core in
    item_small s c.in-Some-item.item (of_scope s c.in-Some.core c.args.held c.into_iter-item-iterator.ensures.into_iter_gives core.0 c.ranges.held.fits c.loop-item.invariant.2 c.in-Some-item.ensures.steps.0)

pub loop-item-preserved : goal.loop-item-preserved
loop-item-preserved g t c =
    let s = c.args.scope in
    let inv = c.loop-item.invariant in
    let turn = c.in-Some-item.ensures.steps in
    let told = c.in_ok-explore.ensures in
    let adds = more_done inv.2 turn in
    let core = rw c.in-Some.is at c.in_ok-core.ensures.core in
    let here = of_scope s c.in-Some.core c.args.held c.into_iter-item-iterator.ensures.into_iter_gives core.0 c.ranges.held.fits inv.2 turn.0 in (
      told.same ∙ inv.0,
      grown_trans inv.1 told.row,
      coming_less inv.2 turn,
      holding_more (item_small s c.in-Some-item.item here) adds inv.3,
      turning_more turn.0 inv.2 adds inv.3 told.row (explored_at c.loop-item.held c.loop-item.found c.explore.new.found (Ok tt) inv.0 c.lacking.ensures.set told.answer) inv.4,
    )

pub returns-clause-answer : goal.returns-clause-answer
returns-clause-answer g t c =
    let m = g.C.Criterion.meaning c.args.criterion.now in
    let C = c.in-Some.core in
    let K = c.args.held in
    let items = c.into_iter-item-iterator.result in
    let inv = c.loop-item.invariant in
    let core = rw c.in-Some.is at c.in_ok-core.ensures.core in
    let first = rw c.in-Some.is at c.in_ok-core.ensures.answer in
    explored_all m c.args.scope.set K C items.0 c.loop-item.item-iterator.0 c.args.found.now c.pivot.new.found c.loop-item.found first inv.4 (items_are c.args.scope C K c.into_iter-item-iterator.ensures.into_iter_gives core.0 c.ranges.held.fits) c.in-None.ensures.steps.0 core.1 inv.1

use Rattle.std.proofs.Common.{All, Contains, sym, subst, pow_mono, arith}
use Rattle.std.proofs.lemmas.Result.{err_from_is_err_and}
use Rattle.criterion.specs.Cores.{Core}
use Rattle.itemset.proofs.Members.{subset_le}
use Rattle.cores.specs.Founds.{known}
use Rattle.cores.proofs.Placing.{placed_keeps, placed_has, all_placed}
use Rattle.cores.proofs.Exploring.{core_wider, is_new, crowded}
use Rattle.cores.proofs.listing.pivot.Goals as goal

pub insert-requires-clause-below : goal.insert-requires-clause-below
insert-requires-clause-below g c =
    let s = c.args.scope in
    omega (arith, subset_le c.in-Ok.core s.set c.in-Ok.ensures.stays_within_the_scope, s.ok.1, pow_mono s.ok.0)

pub insert-requires-clause-new : goal.insert-requires-clause-new
insert-requires-clause-new g c = is_new c.args.scope.set c.in-Ok.core (known c.args.found.now) c.in-Ok.ensures.stays_within_the_scope (rw c.known.ensures at c.in_default.ensures)

pub returns-in_err-insert-clause-answer : goal.returns-in_err-insert-clause-answer
returns-in_err-insert-clause-answer g c =
    let V = (g.C.Criterion.meaning c.args.criterion.now).verdict in
    let f = c.args.found.now in
    let told = c.in_err-insert.ensures.row in
    let p = err_from_is_err_and c.from_residual.result c.from_residual.ensures.1 in
    rw (p.1, p.2) (λ o S s all. (told.0, crowded V S c.args.scope.set c.in-Ok.core f (rw c.known.ensures at c.in_default.ensures) (c.in-Ok.ensures.answers_a_core o).1 s all told.1))

pub returns-clause-row : goal.returns-clause-row
returns-clause-row g c = record { buffer = c.insert.ensures.buffer; keeps = λ K h. subst (λ zs. Contains zs K) (sym c.in_ok-insert.ensures.row) (placed_keeps c.in-Ok.core K _ h) }

pub returns-clause-core : goal.returns-clause-core
returns-clause-core g c = (c.in-Ok.ensures.stays_within_the_scope, subst (λ zs. Contains zs c.in-Ok.core) (sym c.in_ok-insert.ensures.row) (placed_has c.in-Ok.core (known c.args.found.now)))

pub returns-clause-answer : goal.returns-clause-answer
returns-clause-answer g c =
    let V = (g.C.Criterion.meaning c.args.criterion.now).verdict in
    let E = c.args.scope.set in
    let C = c.in-Ok.core in
    λ o S s all. let core = (c.in-Ok.ensures.answers_a_core o).1 in (core, subst (All (Core V S)) (sym c.in_ok-insert.ensures.row) (all_placed (Core V S) C (known c.args.found.now) (core_wider V S E C s core) all))

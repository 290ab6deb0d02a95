use Rattle.std.proofs.Common.{◌+◌, get_or, take, Some, sym, ◌∙◌, subst, arith}
use Rattle.itemset.specs.Sets.{◌⊆◌}
use Rattle.itemset.proofs.Members.{sub_of_and, and_of_sub}
use Rattle.cores.proofs.Picking.{Best, best_none, best_past, best_here, best_stays, fewest_zero, best_all, spare_is}
use Rattle.cores.proofs.listing.pick.Goals as goal
use Rattle.cores.proofs.listing.pick.Goals.{then-spare-fewest, else-spare-fewest}

pub loop-set-init : goal.loop-set-init
loop-set-init c = best_none c.args.within c.args.held

pub loop-set-preserved-then-set-within : goal.loop-set-preserved-then-set-within
loop-set-preserved-then-set-within c =
    best_past c.args.row.now c.args.within c.args.held c.loop-set.set-index c.loop-set-test.true c.loop-set.best c.loop-set.fewest
    (λ s. c.if-set-within.true (and_of_sub _ _ s)) c.loop-set.invariant

pub returns-then-spare-eq0 : goal.returns-then-spare-eq0
returns-then-spare-eq0 c =
    let row = c.args.row.now in
    let i = c.loop-set.set-index in
    let s : get_or row i 0 ⊆ c.args.within = sub_of_and _ _ c.if-set-within.false in
    fewest_zero row c.args.within c.args.held i c.loop-set-test.true s (sym (spare_is c.args.within c.args.held (get_or row i 0) c.ranges.within.fits c.ranges.held.fits s) ∙ c.if-spare-eq0.true)

pub loop-set-preserved : goal.loop-set-preserved
loop-set-preserved c =
    let row = c.args.row.now in
    let E = c.args.within in
    let K = c.args.held in
    let i = c.loop-set.set-index in
    let x = get_or row i 0 in
    let s : x ⊆ E = sub_of_and _ _ c.if-set-within.false in
    let is = spare_is E K x c.ranges.within.fits c.ranges.held.fits s in
    elim c.if-spare-fewest.branch [
      | then-spare-fewest w ↦
          subst (λ b. Best (take (i + 1) row) E K b c.if-spare-fewest.fewest) (sym w.best-is)
          (subst (λ n. Best (take (i + 1) row) E K (Some x) n) (sym (w.fewest-is ∙ is))
          (best_here row E K i c.loop-set-test.true c.loop-set.best c.loop-set.fewest s (omega (arith, is, w.if-spare-fewest.true)) c.loop-set.invariant))
      | else-spare-fewest w ↦
          subst (λ b. Best (take (i + 1) row) E K b c.if-spare-fewest.fewest) (sym w.best-is)
          (subst (λ n. Best (take (i + 1) row) E K c.loop-set.best n) (sym w.fewest-is)
          (best_stays row E K i c.loop-set-test.true c.loop-set.best c.loop-set.fewest c.ranges.within.fits s (omega (arith, is, w.if-spare-fewest.false)) c.loop-set.invariant))
    ]

pub returns : goal.returns
returns c = best_all c.args.row.now c.args.within c.args.held c.loop-set.set-index c.loop-set.best c.loop-set.fewest c.loop-set-test.false c.loop-set.invariant

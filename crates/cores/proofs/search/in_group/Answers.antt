use Rattle.std.proofs.Common.{sym, ◌∙◌}
use Rattle.criterion.proofs.Grouping.{same_rank, other_rank}
use Rattle.cores.proofs.Coming.{more_done, coming_less, item_small}
use Rattle.cores.proofs.Sifting.{sifted_past, sifted_adds}
use Rattle.cores.proofs.search.in_group.Goals as goal

pub overflow_shl-chosen : goal.overflow_shl-chosen
overflow_shl-chosen g c = item_small c.args.scope c.in-Some.item (c.loop-item.invariant.0.inside c.in-Some.item c.in-Some.ensures.steps.0.member)

pub loop-item-preserved-then-eq : goal.loop-item-preserved-then-eq
loop-item-preserved-then-eq g c =
    let inv = c.loop-item.invariant in
    let i = c.in-Some.item in
    let turn = c.in-Some.ensures.steps in (
      coming_less inv.0 turn,
      sifted_adds (more_done inv.0 turn) inv.1 (item_small c.args.scope i (inv.0.inside i turn.0.member)) (sym c.group.ensures.tells_the_group ∙ same_rank c.group.result c.args.group (sym c.eq.ensures ∙ c.if-eq.true)),
    )

pub loop-item-preserved : goal.loop-item-preserved
loop-item-preserved g c =
    let inv = c.loop-item.invariant in
    let turn = c.in-Some.ensures.steps in (
      coming_less inv.0 turn,
      sifted_past (more_done inv.0 turn) inv.1 (λ e. other_rank c.group.result c.args.group (sym c.eq.ensures ∙ c.if-eq.false) (c.group.ensures.tells_the_group ∙ e)),
    )

use Rattle.std.proofs.Common.{◌≤◌, length, vec_items, vec_len, ap, ◌∙◌, arith}
use Rattle.inquiry.proofs.Replaying.{going_turn, behind_kept, behind_more}
use Rattle.inquiry.proofs.run.replay.Goals as goal

pub loop-call-preserved : goal.loop-call-preserved
loop-call-preserved g c =
    let inv = c.loop-call.invariant in
    let did = c.perform.ensures in
    let pushed = c.push_reserved.ensures in
    let xs = vec_items c.loop-call.answers in
    let ys = vec_items c.push_reserved.new.self in
    let n = vec_len c.args.answers in
    let a = c.perform.result in
    let le : n ≤ length xs = omega (arith, inv.3, c.loop-call.answers.ok.0) in
    let step = c.in-Some.ensures.steps.0 in
    let fewer = ap length step in (
      did.same ∙ inv.0,
      did.items ∙ inv.1,
      omega (arith, pushed.capacity, pushed.len, inv.2, fewer),
      omega (arith, pushed.len, inv.3),
      behind_kept n xs ys (vec_items c.args.answers) a (omega (arith, c.args.answers.ok.0)) inv.4 pushed.items le,
      going_turn c.in-Some.call a inv.0 inv.1 inv.5 step (behind_more n xs ys a pushed.items le) did.scope did.answer,
    )

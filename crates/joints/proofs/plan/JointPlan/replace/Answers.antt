use Rattle.std.proofs.Common.{◌≡◌, map, length, get_or, take, vec_items, ap, ◌∙◌, ap₂, arith}
use Rattle.std.proofs.lemmas.List.{length-map, length-take-le}
use Rattle.joints.specs.Admission.{joint}
use Rattle.joints.specs.Held.{joint_of}
use Rattle.joints.specs.Plans.{Plan, links}
use Rattle.joints.proofs.Plans.{draft_bits, draft_few, draft_links}
use Rattle.joints.specs.Lawful.{links_parts}
use Rattle.joints.proofs.plan.JointPlan.replace.Goals as goal

pub unreachable-requires : goal.unreachable-requires
unreachable-requires c =
    let b = c.args.draft.now.bodies in
    let ws = c.args.draft.now.joints.now in
    let k = c.loop-word.word-index in
    let high = c.in_default.ensures.1 (draft_bits b ws k c.requires c.loop-word-test.true) in
    let low = (links_parts b (joint (get_or ws k 0)) (draft_links b ws k c.requires c.loop-word-test.true)).classed in
    omega (arith, high, low)

pub push-requires : goal.push-requires
push-requires c =
    let b = c.args.draft.now.bodies in
    let ws = c.args.draft.now.joints.now in
    let k = c.loop-word.word-index in
    let p = c.loop-word.self in
    let n = length-map (vec_items p.joints) joint_of in
    let m : length (map joint (take k ws)) ≡ length (take k ws) = length-map (take k ws) joint in
    let t : length (take k ws) ≡ k = length-take-le k ws (omega (arith, c.loop-word-test.true)) in
    let same : length (map joint_of (vec_items p.joints)) ≡ length (map joint (take k ws)) = ap (λ (q : Plan). length q.joints) c.loop-word.invariant in
    let few = (draft_few b ws c.requires).1 in
    record {
      few = omega (arith, n, m, t, same, few, p.joints.ok.0, c.loop-word-test.true);
      links = ap₂ links (ap (λ (q : Plan). q.bodies) c.loop-word.invariant) c.in-Ok.ensures.1 ∙ draft_links b ws k c.requires c.loop-word-test.true;
    }

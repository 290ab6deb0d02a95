use Rattle.std.proofs.Common.{◌≡◌, ◌+◌, ◌≤◌, length, take, drop, vec_items, vec_len, vec_capacity}
use Rattle.std.specs.Vec.Iter.{into_iter_items}
use Rattle.inquiry.proofs.Replaying.{Going}
use Rattle.inquiry.proofs.run.replay.Given as goal

abbrev pub invariant-loop-call : goal.invariant-loop-call
invariant-loop-call g l =
    let meaning = g.C.Criterion.meaning in
    let m = meaning l.initial.inquiry.criterion in
    let n = vec_len l.initial.answers in
    (meaning l.inquiry.criterion ≡ m)
    × (l.inquiry.scope.items ≡ m.count)
    × (vec_len l.answers + length (into_iter_items l.call-iterator) ≤ vec_capacity l.answers)
    × (n ≤ vec_len l.answers)
    × (take n (vec_items l.answers) ≡ vec_items l.initial.answers)
    × Going m (into_iter_items l.initial.call-iterator) l.yielded (into_iter_items l.call-iterator) (drop n (vec_items l.answers)) l.inquiry.scope.set

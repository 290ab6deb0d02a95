use Rattle.std.proofs.Common.{◌≡◌, ◌+◌, ◌-◌, ◌≤◌, length, set, map, sym, ap, ap₂, ◌∙◌, arith, rules}
use lib.Seq.{paste}
use borrow.Rule.Slice.PartMut.{put_mid}
use Rattle.std.proofs.lemmas.List.{get_or-map, length-map, length-replicate, length-set}
use Rattle.std.proofs.lemmas.List.Edits.{paste_more}
use Rattle.base.proofs.Writing.{overwritten_ok}
use Rattle.joints.specs.Plans.{no_joint, sheet, word}
use Rattle.joints.specs.Views.{plan_of}
use Rattle.joints.proofs.Kept.{kept_at, kept_length}
use Rattle.joints.proofs.Trips.{admission_of_sheet}
use Rattle.joints.proofs.Plans.{bodies_length, length_sheet, sheet_laid}
use Rattle.joints.proofs.plan.JointPlan.write.Goals as goal

pub returns-then-places-len-clause-is_admitted_as_the_plan : goal.returns-then-places-len-clause-is_admitted_as_the_plan
returns-then-places-len-clause-is_admitted_as_the_plan c = admission_of_sheet (plan_of c.args.self.now) c.args.self.now.ok

pub loop-k-preserved : goal.loop-k-preserved
loop-k-preserved c =
    let p = plan_of c.args.self.now in
    let b = p.bodies in
    let k = c.loop-k.k in
    let at = kept_at c.args.self.now c.deref-joint-items.result.now k _ c.deref-joint-items.ensures.value c.loop-k-test.true in
    let d = c.args.places.now in
    let fit : b + 2 ≤ length d = omega (arith, c.words-len.ensures.counts_the_words, length_sheet p, c.if-places-len.false) in
    let zeros : length c.fill.new.self ≡ b = ap length (c.fill.ensures.after (λ y e. e)) ∙ length-replicate _ 0 ∙ search rules in
    let long = length-set _ (b + 1) c.len.result ∙ bodies_length d c.fill.new.self b c.from.result zeros fit in
    ap₂ (λ xs x. set xs (b + 2 + k) x) c.loop-k.invariant (c.into.ensures ∙ ap word at.same ∙ sym (get_or-map word p.joints k no_joint 0 at.at))
    ∙ paste_more _ (b + 2) (map word p.joints) k 0 (omega (arith, long, c.words-len.ensures.counts_the_words, length_sheet p, c.if-places-len.false, at.at)) (omega (arith, at.at, length-map p.joints word))

pub returns-clause-fills_the_front : goal.returns-clause-fills_the_front
returns-clause-fills_the_front c =
    let p = plan_of c.args.self.now in
    let s = sheet p in
    let d = c.args.places.now in
    let xs = c.deref-joint-items.result.now in
    let n = kept_length c.args.self.now xs c.deref-joint-items.ensures.value in
    let fit : length s ≤ length d = omega (arith, c.words-len.ensures.counts_the_words, c.if-places-len.false) in
    c.loop-k.invariant
    ∙ ap₂ (λ v m. paste (set (put_mid 1 (p.bodies + 1 - 1) (set d 0 v) c.fill.new.self) (p.bodies + 1) m) (p.bodies + 2) (map word p.joints) c.loop-k.k) c.from.ensures (c.len.ensures ∙ search rules)
    ∙ sheet_laid d c.fill.new.self p c.loop-k.k fit (c.fill.ensures.after (λ y e. e) ∙ search rules) (omega (arith, n, c.loop-k.auto.k-end, c.loop-k-test.false))
    ∙ sym (overwritten_ok s d fit)

pub returns-clause-is_admitted_as_the_plan : goal.returns-clause-is_admitted_as_the_plan
returns-clause-is_admitted_as_the_plan c = admission_of_sheet (plan_of c.args.self.now) c.args.self.now.ok

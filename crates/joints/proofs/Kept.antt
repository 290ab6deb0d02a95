-- The joints that a plan of the code keeps.
use Rattle.std.proofs.Common.{◌≡◌, ℕ, ◌<◌, List, length, get_or, map, vec_items, Some, None, MatchOption, Option, Bor, sym, ap, ◌∙◌, arith}
use Rattle.std.specs.Slice.{IsItemAt}
use Rattle.std.proofs.lemmas.List.{get_or-map, length-map}
use Rattle.criterion.specs.declared.group.Group.{Group}
use Rattle.criterion.specs.declared.group.Group.TheVariants.{Third}
use Rattle.criterion.specs.Groups.{rank}
use Rattle.joints.specs.declared.joint.Joint.{Joint}
use Rattle.joints.specs.declared.plan.JointPlan.{JointPlan}
use Rattle.joints.specs.Held.{joint_of}
use Rattle.joints.specs.Plans.{joint_at, no_joint}
use Rattle.joints.specs.Views.{plan_of}
use Rattle.joints.specs.Lawful.{links_at, sound_parts, class_at, class_past}

-- joint k of the list is joint k of the plan, and its bodies fit a word of 32 bits
pub record KeptAt (p : JointPlan) (k : ℕ) (x : Joint) : Type 0 where
  pub at : k < length (plan_of p).joints
  pub low : k < 31
  pub same : joint_of x ≡ joint_at (plan_of p) k
  pub first : x.first < 32
  pub second : x.second < 32

pub kept_at : (p : JointPlan) (xs : List Joint) (k : ℕ) (d : Joint) → xs ≡ vec_items p.joints → k < length xs → KeptAt p k (get_or xs k d)
kept_at p xs k d e lt =
    let ys = vec_items p.joints in
    let n = length-map ys joint_of in
    let at : k < length (plan_of p).joints = omega (arith, lt, ap length e, n) in
    let same : joint_of (get_or xs k d) ≡ joint_at (plan_of p) k = ap (λ (zs : List Joint). joint_of (get_or zs k d)) e ∙ sym (get_or-map joint_of ys k d no_joint (omega (arith, at, n))) in
    let s = sound_parts (plan_of p) p.ok in
    let l = links_at (plan_of p) p.ok k at in
    record {
      at = at;
      low = omega (arith, at, s.1);
      same = same;
      first = omega (arith, ap (λ j. j.first) same, l.low, s.0);
      second = omega (arith, ap (λ j. j.second) same, l.high, s.0);
    }

-- the class of joint i, or 2 where there is none
pub class_told : (p : JointPlan) (xs : List Joint) (i : ℕ) (n : Group) (r : Option (Bor Joint)) → xs ≡ vec_items p.joints → IsItemAt xs i r
    → MatchOption r (n ≡ Third) (λ x. n ≡ x.now.class) → rank n ≡ get_or (map (λ j. j.class) (plan_of p).joints) i 2
class_told p xs i n None e h t =
    ap rank t ∙ sym (class_past (plan_of p) i (omega (arith, ap length e, length-map (vec_items p.joints) joint_of, h.3)))
class_told p xs i n (Some x) e h t =
    let k = kept_at p xs i x.now e h.3.0 in
    ap rank t ∙ ap (λ j. rank j.class) h.1 ∙ ap (λ j. j.class) k.same ∙ sym (class_at (plan_of p) i k.at)

pub kept_length : (p : JointPlan) (xs : List Joint) → xs ≡ vec_items p.joints → length xs ≡ length (plan_of p).joints
kept_length p xs e = ap length e ∙ sym (length-map (vec_items p.joints) joint_of)

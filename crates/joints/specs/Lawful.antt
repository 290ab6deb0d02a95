-- Joint sets keep the law of criteria. A proof: it stands among the definitions because the `impl` of the trait cites it.
use Rattle.std.specs.Prelude.{◌≡◌, ℕ, ◌%◌, ◌^◌, ◌<◌, ◌≤◌, Bool, true, not, ◌&&◌, map, length, ◌==◌, nat_le, nat_lt, slice_index_or}
use Rattle.std.proofs.Common.{sym, subst, ⊎_elim, arith}
use Rattle.std.proofs.lemmas.Bool.{and_from, and_parts, cases_lt, eqb-false, leb-true, ltb-true, ne_eqb, not-true, not_from_false}
use Rattle.std.proofs.lemmas.List.{get_or-map, get_or_past, length-map}
use Rattle.itemset.specs.Sets.{within}
use Rattle.itemset.proofs.Members.{decides_within, below, in_low}
use Rattle.itemset.proofs.Counts.{some_right, every_right, same_tests}
use Rattle.base.specs.Sheets.{all_of}
use Rattle.base.proofs.Tests.{all_at}
use Rattle.joints.specs.Plans.{Joint, Plan, links, sound, joint_at, no_joint}
use Rattle.joints.specs.Closed.{touching, ClosedPart, no_loose_body, has_closed_part}
use Rattle.joints.specs.Laws.{SearchRight, SetsLawful}

-- the parts of a sound plan
pub sound_parts : (p : Plan) → sound p ≡ true → (p.bodies ≤ 32) × (length p.joints ≤ 31) × (all_of (links p.bodies) p.joints ≡ true)
sound_parts p t =
    let q = and_parts (nat_le p.bodies 32) _ t in
    let r = and_parts (nat_le (length p.joints) 31) (all_of (links p.bodies) p.joints) q.1 in
    (leb-true p.bodies 32 q.0, leb-true (length p.joints) 31 r.0, r.1)

-- what the test of a joint says
pub record Links (bodies : ℕ) (j : Joint) : Type 0 where
  pub low : j.first < bodies
  pub high : j.second < bodies
  pub apart : j.first ≡ j.second → ⊥
  pub classed : j.class ≤ 2

pub links_parts : (b : ℕ) (j : Joint) → links b j ≡ true → Links b j
links_parts b j t =
    let q = and_parts (nat_lt j.first b) _ t in
    let r = and_parts (nat_lt j.second b) _ q.1 in
    let s = and_parts (not (j.first == j.second)) _ r.1 in
    record {
      low = ltb-true j.first b q.0;
      high = ltb-true j.second b r.0;
      apart = eqb-false j.first j.second (not-true (j.first == j.second) s.0);
      classed = leb-true j.class 2 s.1;
    }

pub links_at : (p : Plan) → sound p ≡ true → (i : ℕ) → i < length p.joints → Links p.bodies (joint_at p i)
links_at p s i lt = links_parts p.bodies (joint_at p i) (all_at (links p.bodies) p.joints i no_joint (sound_parts p s).2 lt)

-- ---- the search through the parts

test : Plan → ℕ → ℕ → Bool
test p set part = not (part == 0) && (within part set && no_loose_body p part)

pub search_right : SearchRight
unfolding has_closed_part test
search_right p set = (found, kept)
  where
    n : ℕ
    n = length p.joints

    found : has_closed_part p set ≡ true → (part : ℕ) × ClosedPart p set part
    found e =
        let r = (some_right (2 ^ length p.joints) (test p set)).0 e in
        let part = r.0 in
        let a = and_parts (not (part == 0)) (within part set && no_loose_body p part) r.2 in
        let b = and_parts (within part set) (no_loose_body p part) a.1 in (
          part,
          record {
            joints = (below (length p.joints) part).0 r.1;
            filled = eqb-false part 0 (not-true (part == 0) a.0);
            inside = (decides_within part set).0 b.0;
            closed = λ k l. eqb-false (touching p part k) 1 (not-true (touching p part k == 1) ((every_right p.bodies (λ b. not (touching p part b == 1))).0 b.1 k l));
          },
        )

    kept : (part : ℕ) × ClosedPart p set part → has_closed_part p set ≡ true
    kept h =
        let part = h.0 in
        let c = h.1 in
        (some_right (2 ^ length p.joints) (test p set)).1 (
          part,
          (below (length p.joints) part).1 c.joints,
          and_from (not (part == 0)) (within part set && no_loose_body p part) (not_from_false (part == 0) (ne_eqb part 0 c.filled))
              (and_from (within part set) (no_loose_body p part) ((decides_within part set).1 c.inside)
              ((every_right p.bodies (λ b. not (touching p part b == 1))).1 (λ k l. not_from_false (touching p part k == 1) (ne_eqb (touching p part k) 1 (c.closed k l))))),
        )

-- ---- the law

pub class_at : (p : Plan) (i : ℕ) → i < length p.joints → slice_index_or (map (λ j. j.class) p.joints) i 2 ≡ (joint_at p i).class
class_at p i l = get_or-map (λ j. j.class) p.joints i no_joint 2 l

pub class_past : (p : Plan) (i : ℕ) → length p.joints ≤ i → slice_index_or (map (λ j. j.class) p.joints) i 2 ≡ 2
class_past p i l = get_or_past (map (λ j. j.class) p.joints) i 2 (subst (λ n. n ≤ i) (sym (length-map p.joints (λ j. j.class))) l)

pub sets_lawful : SetsLawful
sets_lawful p s = record {
  few = (sound_parts p s).1;
  monotone = λ a b sub e.
      let h = (search_right p a).0 e in
      let c = h.1 in
      (search_right p b).1 (h.0, record { joints = c.joints; filled = c.filled; inside = λ i m. sub i (c.inside i m); closed = c.closed });
  counts = λ w. same_tests (has_closed_part p w) (has_closed_part p (w % 2 ^ length p.joints))
      (λ e. let h = (search_right p w).0 e in
      let c = h.1 in
      (search_right p (w % 2 ^ length p.joints)).1 (h.0, record { joints = c.joints; filled = c.filled; inside = λ i m. (in_low (length p.joints) w i).1 (c.inside i m, c.joints i m); closed = c.closed }))
      (λ e. let h = (search_right p (w % 2 ^ length p.joints)).0 e in
      let c = h.1 in
      (search_right p w).1 (h.0, record { joints = c.joints; filled = c.filled; inside = λ i m. ((in_low (length p.joints) w i).0 (c.inside i m)).0; closed = c.closed }));
  groups = λ i. ⊎_elim (λ l. subst (λ x. x ≤ 2) (sym (class_at p i l)) (links_at p s i l).classed) (λ l. subst (λ x. x ≤ 2) (sym (class_past p i l)) (omega arith)) (cases_lt i (length p.joints));
  beyond = class_past p;
}

-- Closed parts: stripping keeps them.
use Rattle.std.specs.Prelude.{◌≡◌, ℕ, ◌<◌, ◌≤◌, true, false, not, length, ◌==◌, refl}
use Rattle.std.proofs.Common.{sym, ap, ◌∙◌, ⊎_elim, arith}
use Rattle.std.proofs.lemmas.Bool.{and_from, and_parts, or_cases, or_left, or_right, cases_lt, cases_eq, eq-eqb, eqb-true, eqb-false, ne_eqb, not-true, not_from_false, both_ways}
use Rattle.itemset.specs.Sets.{◌∈◌, ◌⊆◌, has}
use Rattle.itemset.proofs.Members.{decides_has, subset_le}
use Rattle.itemset.proofs.Counts.{count_up, count_pos, count_some, same_tests}
use Rattle.joints.specs.Plans.{Joint, Plan, sound, joint_at}
use Rattle.joints.specs.Closed.{touches, meets, touching, ClosedPart, has_closed_part, Stays}
use Rattle.joints.specs.Laws.{StripRight}
use Rattle.joints.specs.Lawful.{links_at, search_right}

-- ---- touching

touching_up : (p : Plan) (a s b : ℕ) → a ⊆ s → touching p a b ≤ touching p s b
unfolding touching
touching_up p a s b sub = count_up (length p.joints) (meets p a b) (meets p s b) (λ i t.
    let h = and_parts (has i a) (touches (joint_at p i) b) t in
    and_from (has i s) (touches (joint_at p i) b) ((decides_has i s).1 (sub i ((decides_has i a).0 h.0))) h.1)

touching_pos : (p : Plan) (a b i : ℕ) → i < length p.joints → i ∈ a → touches (joint_at p i) b ≡ true → 1 ≤ touching p a b
unfolding touching
touching_pos p a b i lt m t = count_pos (length p.joints) (meets p a b) i lt (and_from (has i a) (touches (joint_at p i) b) ((decides_has i a).1 m) t)

touching_some : (p : Plan) (a b : ℕ) → 1 ≤ touching p a b → (i : ℕ) × (i < length p.joints) × (i ∈ a) × (touches (joint_at p i) b ≡ true)
unfolding touching
touching_some p a b h =
    let r = count_some (length p.joints) (meets p a b) h in
    let q = and_parts (has r.0 a) (touches (joint_at p r.0) b) r.2 in
    (r.0, r.1, (decides_has r.0 a).0 q.0, q.1)

touches_first : (j : Joint) → touches j j.first ≡ true
touches_first j = or_left (j.first == j.first) (j.second == j.first) (eq-eqb j.first j.first refl)

touches_second : (j : Joint) → touches j j.second ≡ true
touches_second j = or_right (j.first == j.second) (j.second == j.second) (eq-eqb j.second j.second refl)

-- ---- stripping

pub strip_right : StripRight
strip_right p sound set rest f =
    same_tests (has_closed_part p rest) (has_closed_part p set)
    (λ e. let h = (search_right p rest).0 e in
    let c = h.1 in
    (search_right p set).1 (h.0, record { joints = c.joints; filled = c.filled; inside = λ i m. ((f i).0 (c.inside i m)).member; closed = c.closed }))
    (λ e. let h = (search_right p set).0 e in
    let c = h.1 in
    (search_right p rest).1 (h.0, record { joints = c.joints; filled = c.filled; inside = λ i m. (f i).1 (stays h.0 c i m); closed = c.closed }))
  where
    twice : (part : ℕ) → ClosedPart p set part → (i b : ℕ) → i ∈ part → b < p.bodies → touches (joint_at p i) b ≡ true → touching p set b ≡ 1 → ⊥
    twice part c i b m l t e =
        let some_one = touching_pos p part b i (c.joints i m) m t in
        let not_one = c.closed b l in
        let up = touching_up p part set b c.inside in
        not_one (omega arith)

    stays : (part : ℕ) → ClosedPart p set part → (i : ℕ) → i ∈ part → Stays p set i
    stays part c i m =
        let k = links_at p sound i (c.joints i m) in
        record {
          joint = c.joints i m;
          member = c.inside i m;
          first = twice part c i (joint_at p i).first m k.low (touches_first (joint_at p i));
          second = twice part c i (joint_at p i).second m k.high (touches_second (joint_at p i));
        }

-- what loses nothing is a closed part, unless it is empty
pub fixed_part : (p : Plan) (set : ℕ) → ((i : ℕ) → i ∈ set → Stays p set i) → (set ≡ 0 → ⊥) → ClosedPart p set set
fixed_part p set f ne = record {
  joints = λ i m. (f i m).joint;
  filled = ne;
  inside = λ i m. m;
  closed = λ b l one. loose b one (touching_some p set b (omega (arith, one)));
}
  where
    loose : (b : ℕ) → touching p set b ≡ 1 → (i : ℕ) × (i < length p.joints) × (i ∈ set) × (touches (joint_at p i) b ≡ true) → ⊥
    loose b one w =
        let s = f w.0 w.2 in
        ⊎_elim
        (λ t. s.first (ap (touching p set) (eqb-true (joint_at p w.0).first b t) ∙ one))
        (λ t. s.second (ap (touching p set) (eqb-true (joint_at p w.0).second b t) ∙ one))
        (or_cases ((joint_at p w.0).first == b) ((joint_at p w.0).second == b) w.3)

pub none_closed : (p : Plan) → has_closed_part p 0 ≡ false
none_closed p = same_tests (has_closed_part p 0) false
    (λ e. let h = (search_right p 0).0 e in
    let z = subset_le h.0 0 h.1.inside in
    absurd (h.1.filled (omega arith)))
    (λ e. absurd (Rattle.std.proofs.lemmas.Bool.false≢true e))

pub fixed_right : (p : Plan) (set : ℕ) → ((i : ℕ) → i ∈ set → Stays p set i) → not (set == 0) ≡ has_closed_part p set
fixed_right p set f =
    ⊎_elim
    (λ z. ap not (eq-eqb set 0 z) ∙ sym (none_closed p) ∙ ap (has_closed_part p) (sym z))
    (λ ne. not_from_false (set == 0) (ne_eqb set 0 ne) ∙ sym ((search_right p set).1 (set, fixed_part p set f ne)))
    (cases_eq set 0)

-- Stripping: the bodies touched once and more than once, and the joints that stay.
use Rattle.std.proofs.Common.{◌≡◌, ℕ, ◌+◌, ◌-◌, ◌*◌, ◌%◌, ◌^◌, ◌<◌, ◌≤◌, true, false, cond, eqb, ◌⊎◌, ◌↔◌, length, sym, refl, ap, ◌∙◌, subst, inl, inr, ⊎_elim, arith}
use lib.Bits.{bit_and, bit_or, or_lt, and_lt}
use Rattle.std.proofs.lemmas.Bool.{and_from, and_parts, and_left, cond-true, cond-false, cases_Bool, both_ways, or_cases, or_left, or_right, eqb-true, eq-eqb, cases_lt, cases_eq}
use Rattle.std.proofs.lemmas.Nat.{one_shl, pow_below}
use Rattle.itemset.specs.Sets.{◌∈◌, has, less}
use Rattle.itemset.specs.Counting.{count}
use Rattle.itemset.proofs.Members.{in_and, in_or, in_less, in_one, none_in, some_member}
use Rattle.itemset.proofs.Bits.{and_not}
use Rattle.itemset.proofs.Counts.{count_more}
use Rattle.joints.specs.Plans.{Joint, Plan, joint_at}
use Rattle.joints.specs.Closed.{touches, meets, touching, Stays}

-- the bodies that the first k joints touch, and those that they touch more than once
pub record Tally (p : Plan) (set k once more : ℕ) : Type 0 where
  pub once_fits : once < 2 ^ 32
  pub more_fits : more < 2 ^ 32
  pub onces : (b : ℕ) → b ∈ once ↔ (1 ≤ count k (meets p set b))
  pub mores : (b : ℕ) → b ∈ more ↔ (2 ≤ count k (meets p set b))

module _ (p : Plan) (set : ℕ) where
  pub tally_none : Tally p set 0 0 0
  tally_none = record {
    once_fits = omega arith;
    more_fits = omega arith;
    onces = λ b. ((λ m. absurd (none_in b m)), (λ h. absurd (omega arith)));
    mores = λ b. ((λ m. absurd (none_in b m)), (λ h. absurd (omega arith)));
  }

  module _ (k once more : ℕ) (h : Tally p set k once more) where
    pub tally_miss : has k set ≡ false → Tally p set (k + 1) once more
    tally_miss f = record {
      once_fits = h.once_fits;
      more_fits = h.more_fits;
      onces = λ b. ((λ m. subst (λ n. 1 ≤ n) (sym (same b)) ((h.onces b).0 m)), (λ l. (h.onces b).1 (subst (λ n. 1 ≤ n) (same b) l)));
      mores = λ b. ((λ m. subst (λ n. 2 ≤ n) (sym (same b)) ((h.mores b).0 m)), (λ l. (h.mores b).1 (subst (λ n. 2 ≤ n) (same b) l)));
    }
      where
        same : (b : ℕ) → count (k + 1) (meets p set b) ≡ count k (meets p set b)
        same b =
            let z : ◌≡◌ {A = ℕ} (cond (meets p set b k) 1 0) 0 = cond-false (meets p set b k) 1 0 (and_left (has k set) (touches (joint_at p k) b) f) in
            count_more k (meets p set b) ∙ omega arith

    pub tally_hit : (ends : ℕ) → ends < 2 ^ 32 → has k set ≡ true → ((b : ℕ) → b ∈ ends ↔ (touches (joint_at p k) b ≡ true)) → Tally p set (k + 1) (bit_or once ends) (bit_or more (bit_and once ends))
    tally_hit ends fits t e = record {
      once_fits = or_lt 32 once ends h.once_fits fits;
      more_fits = or_lt 32 more (bit_and once ends) h.more_fits (omega (arith, lib.Bits.and_le_l once ends, h.once_fits));
      onces = λ b. (once_in b, in_once b (cases_Bool (touches (joint_at p k) b)));
      mores = λ b. (more_in b, in_more b (cases_Bool (touches (joint_at p k) b)));
    }
      where
        up : (b : ℕ) → touches (joint_at p k) b ≡ true → count (k + 1) (meets p set b) ≡ 1 + count k (meets p set b)
        up b y =
            let z : ◌≡◌ {A = ℕ} (cond (meets p set b k) 1 0) 1 = cond-true (meets p set b k) 1 0 (and_from (has k set) (touches (joint_at p k) b) t y) in
            count_more k (meets p set b) ∙ omega arith

        level : (b : ℕ) → touches (joint_at p k) b ≡ false → count (k + 1) (meets p set b) ≡ count k (meets p set b)
        level b y =
            let z : ◌≡◌ {A = ℕ} (cond (meets p set b k) 1 0) 0 = cond-false (meets p set b k) 1 0 (Rattle.std.proofs.lemmas.Bool.and_right (has k set) (touches (joint_at p k) b) y) in
            count_more k (meets p set b) ∙ omega arith

        grows : (b : ℕ) → count k (meets p set b) ≤ count (k + 1) (meets p set b)
        grows b = omega (arith, count_more k (meets p set b))

        once_in : (b : ℕ) → b ∈ bit_or once ends → 1 ≤ count (k + 1) (meets p set b)
        once_in b m =
            ⊎_elim (λ o. let a = (h.onces b).0 o in let g = grows b in omega arith) (λ o. let u = up b ((e b).0 o) in omega arith) ((in_or b once ends).0 m)

        in_once : (b : ℕ) → (touches (joint_at p k) b ≡ true) ⊎ (touches (joint_at p k) b ≡ false) → 1 ≤ count (k + 1) (meets p set b) → b ∈ bit_or once ends
        in_once b (inl y) l = (in_or b once ends).1 (inr ((e b).1 y))
        in_once b (inr y) l = (in_or b once ends).1 (inl ((h.onces b).1 (subst (λ n. 1 ≤ n) (level b y) l)))

        more_in : (b : ℕ) → b ∈ bit_or more (bit_and once ends) → 2 ≤ count (k + 1) (meets p set b)
        more_in b m =
            ⊎_elim
            (λ o. let a = (h.mores b).0 o in let g = grows b in omega arith)
            (λ o. let u = up b ((e b).0 ((in_and b once ends).0 o).1) in let a = (h.onces b).0 ((in_and b once ends).0 o).0 in omega arith)
            ((in_or b more (bit_and once ends)).0 m)

        in_more : (b : ℕ) → (touches (joint_at p k) b ≡ true) ⊎ (touches (joint_at p k) b ≡ false) → 2 ≤ count (k + 1) (meets p set b) → b ∈ bit_or more (bit_and once ends)
        in_more b (inl y) l = let u = up b y in (in_or b more (bit_and once ends)).1 (inr ((in_and b once ends).1 ((h.onces b).1 (omega arith), (e b).1 y)))
        in_more b (inr y) l = (in_or b more (bit_and once ends)).1 (inl ((h.mores b).1 (subst (λ n. 2 ≤ n) (level b y) l)))

    -- `once & !more`
    pub tally_all : k ≡ length p.joints → (b : ℕ) → b ∈ bit_and once (2 ^ 32 - 1 - more) ↔ (touching p set b ≡ 1)
    unfolding touching
    tally_all all b = (there, back)
      where
        e : bit_and once (2 ^ 32 - 1 - more) ≡ less once more
        e = and_not 32 once more h.once_fits h.more_fits

        n : ℕ
        n = count k (meets p set b)

        whole : count k (meets p set b) ≡ count (length p.joints) (meets p set b)
        whole = ap (λ m. count m (meets p set b)) all

        there : b ∈ bit_and once (2 ^ 32 - 1 - more) → touching p set b ≡ 1
        there m =
            let l = subst (λ (x : ℕ). b ∈ x) e m in
            let one = (h.onces b).0 ((in_less b once more).0 l).0 in
            ⊎_elim
            (λ two. absurd (((in_less b once more).0 l).1 ((h.mores b).1 two)))
            (λ few. omega (arith, whole, one, few))
            (Rattle.std.proofs.lemmas.Bool.cases_lt 1 (count k (meets p set b)))

        back : touching p set b ≡ 1 → b ∈ bit_and once (2 ^ 32 - 1 - more)
        back one =
            subst (λ (x : ℕ). b ∈ x) (sym e)
            ((in_less b once more).1 ((h.onces b).1 (omega (arith, whole, one)), λ m. let two = (h.mores b).0 m in omega (arith, whole, one, two)))

-- the two bodies of a joint as a mask
pub ends_in : (j : Joint) → j.first < 32 → j.second < 32 → (b : ℕ) → b ∈ bit_or ((1 * 2 ^ j.first) % 2 ^ 32) ((1 * 2 ^ j.second) % 2 ^ 32) ↔ (touches j b ≡ true)
ends_in j p q b =
    let f = j.first in
    let s = j.second in
    let e : bit_or ((1 * 2 ^ f) % 2 ^ 32) ((1 * 2 ^ s) % 2 ^ 32) ≡ bit_or (2 ^ f) (2 ^ s) = ap (λ (x : ℕ). bit_or x ((1 * 2 ^ s) % 2 ^ 32)) (one_shl f 32 p) ∙ ap (bit_or (2 ^ f)) (one_shl s 32 q) in (
      (λ m. ⊎_elim
          (λ k. or_left (eqb f b) (eqb s b) (eq-eqb f b (sym ((in_one b f).0 k))))
          (λ k. or_right (eqb f b) (eqb s b) (eq-eqb s b (sym ((in_one b s).0 k))))
          ((in_or b (2 ^ f) (2 ^ s)).0 (subst (λ (x : ℕ). b ∈ x) e m))),
      (λ t. subst (λ (x : ℕ). b ∈ x) (sym e)
          (⊎_elim
          (λ k. (in_or b (2 ^ f) (2 ^ s)).1 (inl ((in_one b f).1 (sym (eqb-true f b k)))))
          (λ k. (in_or b (2 ^ f) (2 ^ s)).1 (inr ((in_one b s).1 (sym (eqb-true s b k)))))
          (or_cases (eqb f b) (eqb s b) t))),
    )

-- the joints among the first k that stay
pub record Sieve (p : Plan) (set k rest : ℕ) : Type 0 where
  pub fits : rest < 2 ^ 32
  pub stay : (i : ℕ) → i ∈ rest ↔ ((i < k) × Stays p set i)

module _ (p : Plan) (set : ℕ) where
  pub sieve_none : Sieve p set 0 0
  sieve_none = record { fits = omega arith; stay = λ i. ((λ m. absurd (none_in i m)), (λ h. absurd (omega (arith, h.0)))) }

  module _ (k rest : ℕ) (h : Sieve p set k rest) where
    pub sieve_skip : (Stays p set k → ⊥) → Sieve p set (k + 1) rest
    sieve_skip out = record {
      fits = h.fits;
      stay = λ i. (
        (λ m. let s = (h.stay i).0 m in let l = s.0 in (omega arith, s.1)),
        (λ s. ⊎_elim (λ l. (h.stay i).1 (l, s.1)) (λ l. let l' = s.0 in let e : i ≡ k = omega arith in absurd (out (subst (Stays p set) e s.1))) (cases_lt i k)),
      );
    }

    pub sieve_keep : k < 32 → Stays p set k → Sieve p set (k + 1) (bit_or rest ((1 * 2 ^ k) % 2 ^ 32))
    sieve_keep lt st = subst (Sieve p set (k + 1)) (ap (bit_or rest) (sym (one_shl k 32 lt))) (record {
      fits = or_lt 32 rest (2 ^ k) h.fits (pow_below k 32 lt);
      stay = λ i. (
        (λ m. ⊎_elim (λ o. let s = (h.stay i).0 o in let l = s.0 in (omega arith, s.1)) (λ o. let e = (in_one i k).0 o in (omega arith, subst (Stays p set) (sym e) st)) ((in_or i rest (2 ^ k)).0 m)),
        (λ s. ⊎_elim (λ l. (in_or i rest (2 ^ k)).1 (inl ((h.stay i).1 (l, s.1)))) (λ l. let l' = s.0 in let e : i ≡ k = omega arith in (in_or i rest (2 ^ k)).1 (inr ((in_one i k).1 e))) (cases_lt i k)),
      );
    })

  pub sieve_all : (k rest : ℕ) → Sieve p set k rest → length p.joints ≤ k → (i : ℕ) → i ∈ rest ↔ Stays p set i
  sieve_all k rest h all i = ((λ m. ((h.stay i).0 m).1), (λ s. let l = s.joint in (h.stay i).1 (omega arith, s)))

-- one joint: its mask shares no body with the loose ones exactly when it stays
module _ (p : Plan) (set loose ends k : ℕ) (at : k < length p.joints) (inside : k ∈ set)
    (l : (b : ℕ) → b ∈ loose ↔ (touching p set b ≡ 1)) (e : (b : ℕ) → b ∈ ends ↔ (touches (joint_at p k) b ≡ true)) where
  first_end : (joint_at p k).first ∈ ends
  first_end = (e (joint_at p k).first).1 (or_left (eqb (joint_at p k).first (joint_at p k).first) (eqb (joint_at p k).second (joint_at p k).first) (eq-eqb (joint_at p k).first (joint_at p k).first refl))

  second_end : (joint_at p k).second ∈ ends
  second_end = (e (joint_at p k).second).1 (or_right (eqb (joint_at p k).first (joint_at p k).second) (eqb (joint_at p k).second (joint_at p k).second) (eq-eqb (joint_at p k).second (joint_at p k).second refl))

  pub stays : bit_and ends loose ≡ 0 → Stays p set k
  stays z = record {
    joint = at;
    member = inside;
    first = λ one. none_in (joint_at p k).first (subst (λ (x : ℕ). (joint_at p k).first ∈ x) z ((in_and (joint_at p k).first ends loose).1 (first_end, (l (joint_at p k).first).1 one)));
    second = λ one. none_in (joint_at p k).second (subst (λ (x : ℕ). (joint_at p k).second ∈ x) z ((in_and (joint_at p k).second ends loose).1 (second_end, (l (joint_at p k).second).1 one)));
  }

  pub goes : (bit_and ends loose ≡ 0 → ⊥) → Stays p set k → ⊥
  goes ne s =
      let w = some_member (bit_and ends loose) ne in
      let one = (l w.0).0 ((in_and w.0 ends loose).0 w.1).1 in
      let t = (e w.0).0 ((in_and w.0 ends loose).0 w.1).0 in
      ⊎_elim
      (λ x. s.first (ap (touching p set) (eqb-true (joint_at p k).first w.0 x) ∙ one))
      (λ x. s.second (ap (touching p set) (eqb-true (joint_at p k).second w.0 x) ∙ one))
      (or_cases (eqb (joint_at p k).first w.0) (eqb (joint_at p k).second w.0) t)

pub tally_same : (p : Plan) (set k o m o' m' : ℕ) → o' ≡ o → m' ≡ m → Tally p set k o m → Tally p set k o' m'
tally_same p set k o m o' m' e f t = subst (λ x. Tally p set k x m') (sym e) (subst (Tally p set k o) (sym f) t)

-- The members of sets, bit by bit.
use Rattle.std.proofs.Common.{◌≡◌, ℕ, zero, suc, ◌+◌, ◌-◌, ◌*◌, ◌/◌, ◌%◌, ◌^◌, ◌<◌, ◌≤◌, min, max, ◌⊎◌, Decides, sym, refl, ap, ◌∙◌, subst, inl, inr, ⊎_elim, le_refl, mod-eq_of_lt, mul-div_cancel, add-one, one-add, arith, pow_pos, pow_mono, pow-add, shr-shr}
use native.Mathlib.Nat.{div_self, div-eq_of_lt, zero-div}
use lib.Arith.{half_le}
use lib.Bits.{bit_and, bit_or, and_step, and_shr, and_le_l, and_le_r, and_mask, or_step, or_shr}
use lib.Pow.{pow-lt}
use Rattle.std.proofs.lemmas.Bool.{cases_eq, cases_lt, cases_order, eqb-true, eq-eqb}
use Rattle.itemset.specs.Sets.{◌∈◌, ◌⊆◌, Meets, less, full, has, within}
use Rattle.itemset.specs.Laws.{SameMembers, TestsRight, InAnd, InOr, InLess, InOne, InFull, InLow, Below, SubsetLe}

-- ---- one step of the digits

shr_suc : (n i : ℕ) → n / 2 ^ suc i ≡ n / 2 ^ i / 2
shr_suc n i = ap (λ (k : ℕ). n / 2 ^ k) (sym (add-one i)) ∙ sym (shr-shr n i 1)

pub shr_half : (n i : ℕ) → n / 2 ^ suc i ≡ n / 2 / 2 ^ i
shr_half n i = ap (λ (k : ℕ). n / 2 ^ k) (sym (one-add i)) ∙ sym (shr-shr n 1 i)

pub less_half : (s d : ℕ) → less s d / 2 ≡ less (s / 2) (d / 2)
less_half s d = omega (arith, and_step s d, and_le_l (s / 2) (d / 2))

pub less_odd : (s d : ℕ) → less s d % 2 ≡ s % 2 - min (s % 2) (d % 2)
less_odd s d = omega (arith, and_step s d, and_le_l (s / 2) (d / 2))

less_shr : (i s d : ℕ) → less s d / 2 ^ i ≡ less (s / 2 ^ i) (d / 2 ^ i)
less_shr zero s d = div_1 (less s d) ∙ sym (ap (λ (x : ℕ). less x (d / 1)) (div_1 s) ∙ ap (less s) (div_1 d))
  where
    div_1 : (n : ℕ) → n / 1 ≡ n
    div_1 n = omega arith
less_shr (suc i) s d =
    shr_suc (less s d) i ∙ ap (λ (x : ℕ). x / 2) (less_shr i s d) ∙ less_half (s / 2 ^ i) (d / 2 ^ i)
    ∙ sym (ap (λ (x : ℕ). less x (d / 2 ^ suc i)) (shr_suc s i) ∙ ap (less (s / 2 ^ i / 2)) (shr_suc d i))

-- ---- bit i of an intersection, of a union, and of one set less another

bit_of_and : (a b i : ℕ) → bit_and a b / 2 ^ i % 2 ≡ min (a / 2 ^ i % 2) (b / 2 ^ i % 2)
bit_of_and a b i = ap (λ (x : ℕ). x % 2) (and_shr a b i) ∙ odd (a / 2 ^ i) (b / 2 ^ i)
  where
    odd : (x y : ℕ) → bit_and x y % 2 ≡ min (x % 2) (y % 2)
    odd x y = omega (arith, and_step x y)

bit_of_or : (a b i : ℕ) → bit_or a b / 2 ^ i % 2 ≡ max (a / 2 ^ i % 2) (b / 2 ^ i % 2)
bit_of_or a b i = ap (λ (x : ℕ). x % 2) (or_shr a b i) ∙ odd (a / 2 ^ i) (b / 2 ^ i)
  where
    odd : (x y : ℕ) → bit_or x y % 2 ≡ max (x % 2) (y % 2)
    odd x y = omega (arith, or_step x y)

bit_less : (s d i : ℕ) → less s d / 2 ^ i % 2 ≡ s / 2 ^ i % 2 - min (s / 2 ^ i % 2) (d / 2 ^ i % 2)
bit_less s d i = ap (λ (x : ℕ). x % 2) (less_shr i s d) ∙ less_odd (s / 2 ^ i) (d / 2 ^ i)

pub digit : (n : ℕ) → n % 2 < 2
digit n = omega arith

pub in_or_out : (i s : ℕ) → (i ∈ s) ⊎ (s / 2 ^ i % 2 ≡ 0)
in_or_out i s = go (s / 2 ^ i)
  where
    go : (x : ℕ) → (x % 2 ≡ 1) ⊎ (x % 2 ≡ 0)
    go x = ⊎_elim inl (λ ne. inr (omega (arith, ne))) (cases_eq (x % 2) 1)

-- ---- the laws of members

pub in_and : InAnd
in_and i a b = (λ p. (omega (arith, bit_of_and a b i, digit (a / 2 ^ i)), omega (arith, bit_of_and a b i, digit (b / 2 ^ i))), λ p. let q = p.0 in let r = p.1 in omega (arith, bit_of_and a b i))

pub in_or : InOr
in_or i a b = (
  λ p. ⊎_elim inl (λ q. inr (omega (arith, bit_of_or a b i))) (in_or_out i a),
  λ p. ⊎_elim (λ q. omega (arith, bit_of_or a b i, digit (b / 2 ^ i))) (λ q. omega (arith, bit_of_or a b i, digit (a / 2 ^ i))) p,
)

pub in_less : InLess
in_less i s d = (
  λ p. (omega (arith, bit_less s d i, digit (s / 2 ^ i)), λ q. omega (arith, bit_less s d i, digit (s / 2 ^ i))),
  λ p. ⊎_elim (λ q. absurd (p.1 q)) (λ q. let r = p.0 in omega (arith, bit_less s d i)) (in_or_out i d),
)

pub less_sub : (s d : ℕ) → less s d ⊆ s
less_sub s d i p = ((in_less i s d).0 p).0

-- ---- sets with the same members are one number

pub same_bits : (a b : ℕ) → ((i : ℕ) → a / 2 ^ i % 2 ≡ b / 2 ^ i % 2) → a ≡ b
same_bits a b e = go (a + b) a b (omega arith) (omega arith) e
  where
    go : (f a b : ℕ) → a ≤ f → b ≤ f → ((i : ℕ) → a / 2 ^ i % 2 ≡ b / 2 ^ i % 2) → a ≡ b
    go zero a b p q e = omega arith
    go (suc f) a b p q e =
        let halves : a / 2 ≡ b / 2 = go f (a / 2) (b / 2) (half_le p) (half_le q) (λ i. ap (λ (x : ℕ). x % 2) (sym (shr_half a i)) ∙ e (suc i) ∙ ap (λ (x : ℕ). x % 2) (shr_half b i)) in
        let odds : a / 1 % 2 ≡ b / 1 % 2 = e 0 in
        omega arith

pub same_members : SameMembers
same_members a b f g = same_bits a b (λ i. at i (in_or_out i a) (in_or_out i b))
  where
    at : (i : ℕ) → (i ∈ a) ⊎ (a / 2 ^ i % 2 ≡ 0) → (i ∈ b) ⊎ (b / 2 ^ i % 2 ≡ 0) → a / 2 ^ i % 2 ≡ b / 2 ^ i % 2
    at i (inl p) r = p ∙ sym (f i p)
    at i (inr p) (inl q) = g i q ∙ sym q
    at i (inr p) (inr q) = p ∙ sym q

pub and_of_sub : (a b : ℕ) → a ⊆ b → bit_and a b ≡ a
and_of_sub a b f = same_members (bit_and a b) a (λ i p. ((in_and i a b).0 p).0) (λ i p. (in_and i a b).1 (p, f i p))

pub sub_of_and : (a b : ℕ) → bit_and a b ≡ a → a ⊆ b
sub_of_and a b e i p = ((in_and i a b).0 (subst (λ (x : ℕ). i ∈ x) (sym e) p)).1

pub subset_le : SubsetLe
subset_le a b f = omega (arith, and_of_sub a b f, and_le_r a b)

-- ---- the tests

pub decides_has : (i s : ℕ) → Decides (has i s) (i ∈ s)
decides_has i s = (eqb-true (s / 2 ^ i % 2) 1, eq-eqb (s / 2 ^ i % 2) 1)

pub decides_within : (a b : ℕ) → Decides (within a b) (a ⊆ b)
decides_within a b = (λ e. sub_of_and a b (eqb-true (bit_and a b) a e), λ f. eq-eqb (bit_and a b) a (and_of_sub a b f))

pub tests_right : TestsRight
tests_right = (λ i s. ((decides_has i s).0, (decides_has i s).1), λ a b. ((decides_within a b).0, (decides_within a b).1))

-- ---- the set of one number, and the numbers below n

pub none_in : (i : ℕ) → i ∈ 0 → ⊥
none_in i m = omega (arith, m, ap (λ (x : ℕ). x % 2) (zero-div (2 ^ i)))

in_itself : (i : ℕ) → i ∈ (2 ^ i)
in_itself i = ap (λ (x : ℕ). x % 2) (div_self (pow_pos i))

pub in_one : InOne
in_one j i = (λ p. ⊎_elim (λ e. e) (⊎_elim (λ lt. absurd (lower p lt)) (λ gt. absurd (upper p gt))) (cases_order j i), λ e. subst (λ (x : ℕ). x ∈ (2 ^ i)) (sym e) (in_itself i))
  where
    upper : j ∈ (2 ^ i) → i < j → ⊥
    upper p gt = let none : 2 ^ i / 2 ^ j ≡ 0 = div-eq_of_lt (pow-lt gt) in omega (arith, p, ap (λ (x : ℕ). x % 2) none)

    lower : j ∈ (2 ^ i) → j < i → ⊥
    lower p lt =
        let d = i - suc j in
        let e : 2 ^ i ≡ 2 ^ (d + 1) * 2 ^ j = ap (λ (k : ℕ). 2 ^ k) (omega arith) ∙ pow-add 2 (d + 1) j in
        let q : 2 ^ i / 2 ^ j ≡ 2 ^ (d + 1) = ap (λ (x : ℕ). x / 2 ^ j) e ∙ mul-div_cancel (2 ^ (d + 1)) (pow_pos j) in
        let r : 2 ^ (d + 1) ≡ 2 ^ d * 2 = pow-add 2 d 1 in
        omega (arith, p, ap (λ (x : ℕ). x % 2) q, r)

below_members : (n a : ℕ) → a < 2 ^ n → (i : ℕ) → i ∈ a → i < n
below_members n a h i m =
    ⊎_elim (λ l. l)
    (λ l. let big : 2 ^ n ≤ 2 ^ i = pow_mono l in let none : a / 2 ^ i ≡ 0 = div-eq_of_lt (omega arith) in absurd (omega (arith, m, ap (λ (x : ℕ). x % 2) none)))
    (cases_lt i n)

pub in_full : InFull
in_full n i = (
  below_members n (full n) (let p = pow_pos n in omega arith) i,
  λ lt. ((in_and i (2 ^ i) (full n)).0 (subst (λ (x : ℕ). i ∈ x) (sym (and_mask (2 ^ i) n ∙ mod-eq_of_lt (pow-lt lt))) (in_itself i))).1,
)

pub below : Below
below n s = (below_members n s, λ f. let h = subset_le s (full n) (λ i m. (in_full n i).1 (f i m)) in let p = pow_pos n in omega arith)

pub in_low : InLow
in_low n s i = (
  λ m. let p = (in_and i s (full n)).0 (subst (λ (x : ℕ). i ∈ x) (sym (and_mask s n)) m) in (p.0, (in_full n i).0 p.1),
  λ p. subst (λ (x : ℕ). i ∈ x) (and_mask s n) ((in_and i s (full n)).1 (p.0, (in_full n i).1 p.1)),
)

-- ---- a set that is not empty has a member

pub some_member : (a : ℕ) → (a ≡ 0 → ⊥) → (i : ℕ) × (i ∈ a)
some_member a ne = go a a (le_refl a) ne
  where
    go : (f a : ℕ) → a ≤ f → (a ≡ 0 → ⊥) → (i : ℕ) × (i ∈ a)
    go zero a p ne = absurd (ne (omega arith))
    go (suc f) a p ne =
        ⊎_elim
        (λ odd. (0, omega arith))
        (λ even. let h : (i : ℕ) × (i ∈ (a / 2)) = go f (a / 2) (half_le p) (λ z. ne (omega arith)) in (suc h.0, ap (λ (x : ℕ). x % 2) (shr_half a h.0) ∙ h.1))
        (in_or_out 0 a)

pub meets_or_not : (a b : ℕ) → Meets a b ⊎ (Meets a b → ⊥)
meets_or_not a b =
    ⊎_elim
    (λ e. inr (λ m. none_in m.0 (subst (λ (x : ℕ). m.0 ∈ x) e ((in_and m.0 a b).1 (m.1, m.2)))))
    (λ ne. let h = some_member (bit_and a b) ne in let p = (in_and h.0 a b).0 h.1 in inl (h.0, p.0, p.1))
    (cases_eq (bit_and a b) 0)

-- k leaves p through a member, or lies within it
pub outside_or : (p k : ℕ) → ((i : ℕ) × (i ∈ k) × (i ∈ p → ⊥)) ⊎ (k ⊆ p)
outside_or p k =
    ⊎_elim
    (λ z. inr (λ i q. ⊎_elim (λ r. r) (λ r. absurd (none_in i (subst (λ (x : ℕ). i ∈ x) z ((in_less i k p).1 (q, λ t. omega (arith, r, t)))))) (in_or_out i p)))
    (λ ne. let h = some_member (less k p) ne in let q = (in_less h.0 k p).0 h.1 in inl (h.0, q.0, q.1))
    (cases_eq (less k p) 0)

-- a proper subset leaves a member out
pub one_outside : (p k : ℕ) → p ⊆ k → (p ≡ k → ⊥) → (i : ℕ) × (i ∈ k) × (i ∈ p → ⊥)
one_outside p k s ne = ⊎_elim (λ o. o) (λ t. absurd (ne (same_members p k s t))) (outside_or p k)

-- ---- a set less something, or less one member

pub less_mono : (a b d : ℕ) → a ⊆ b → less a d ⊆ less b d
less_mono a b d s i p = let q = (in_less i a d).0 p in (in_less i b d).1 (s i q.0, q.1)

pub sub_lacking : (a s i : ℕ) → a ⊆ s → (i ∈ a → ⊥) → a ⊆ less s (2 ^ i)
sub_lacking a s i h out j p = (in_less j s (2 ^ i)).1 (h j p, λ r. out (subst (λ (x : ℕ). x ∈ a) ((in_one j i).0 r) p))

pub out_lacking : (s i : ℕ) → i ∈ less s (2 ^ i) → ⊥
out_lacking s i p = ((in_less i s (2 ^ i)).0 p).1 ((in_one i i).1 refl)

pub less_falls : (s i : ℕ) → i ∈ s → less s (2 ^ i) < s
less_falls s i p =
    ⊎_elim (λ z. absurd (none_in i (subst (λ (x : ℕ). i ∈ x) z ((in_and i s (2 ^ i)).1 (p, (in_one i i).1 refl))))) (λ ne. omega (arith, ne, and_le_l s (2 ^ i))) (cases_eq (bit_and s (2 ^ i)) 0)

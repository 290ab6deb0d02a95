-- Sets collected by a test.
use Rattle.std.proofs.Common.{◌≡◌, ℕ, zero, suc, ◌+◌, ◌^◌, ◌<◌, Bool, true, false, cond, sym, refl, ap, ◌∙◌, subst, inl, inr, ⊎_elim, add-one, arith}
use lib.Bits.{bit_or, or_comm}
use Rattle.std.proofs.lemmas.Bool.{cases_lt, cond-true, cond-false}
use Rattle.itemset.specs.Sets.{◌∈◌, collect}
use Rattle.itemset.specs.Laws.{InCollect}
use Rattle.itemset.proofs.Members.{in_or, in_one, none_in, below}

picked : (b : Bool) (n i : ℕ) → i ∈ cond b (2 ^ n) 0 → (b ≡ true) × (i ≡ n)
picked true n i m = (refl, (in_one i n).0 m)
picked false n i m = absurd (none_in i m)

pub in_collect : InCollect
unfolding collect
in_collect zero p i = ((λ m. absurd (none_in i m)), (λ h. absurd (omega (arith, h.0))))
in_collect (suc n) p i = (
  λ m. ⊎_elim
      (λ k. let q = picked (p n) n i k in let e = q.1 in (omega arith, ap p e ∙ q.0))
      (λ k. let q = (in_collect n p i).0 k in let l = q.0 in (omega arith, q.1))
      ((in_or i (cond (p n) (2 ^ n) 0) (collect n p)).0 m),
  λ h. (in_or i (cond (p n) (2 ^ n) 0) (collect n p)).1
      (⊎_elim
      (λ l. inr ((in_collect n p i).1 (l, h.1)))
      (λ l. let k = h.0 in let e : i ≡ n = omega arith in inl (subst (λ (x : ℕ). i ∈ x) (sym (cond-true (p n) (2 ^ n) 0 (ap p (sym e) ∙ h.1))) ((in_one i n).1 e)))
      (cases_lt i n)),
)

pub collect_below : (n : ℕ) (p : ℕ → Bool) → collect n p < 2 ^ n
collect_below n p = (below n (collect n p)).1 (λ i m. ((in_collect n p i).0 m).0)

-- one number more: it passes the test, or it does not
pub collect_more : (n : ℕ) (p : ℕ → Bool) → p n ≡ true → collect (n + 1) p ≡ bit_or (collect n p) (2 ^ n)
unfolding collect
collect_more n p e = ap (λ k. collect k p) (add-one n) ∙ ap (λ x. bit_or x (collect n p)) (cond-true (p n) (2 ^ n) 0 e) ∙ or_comm (2 ^ n) (collect n p)

pub collect_skip : (n : ℕ) (p : ℕ → Bool) → p n ≡ false → collect (n + 1) p ≡ collect n p
unfolding collect
collect_skip n p e = ap (λ k. collect k p) (add-one n) ∙ ap (λ x. bit_or x (collect n p)) (cond-false (p n) (2 ^ n) 0 e)

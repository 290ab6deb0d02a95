-- Counts and tests over the numbers below n.
use Rattle.std.proofs.Common.{◌≡◌, ℕ, zero, suc, ◌+◌, ◌<◌, ◌≤◌, Bool, true, false, cond, ◌⊎◌, sym, refl, ap, ◌∙◌, subst, inl, inr, ⊎_elim, add-one, arith}
use Rattle.std.proofs.lemmas.Bool.{false≢true, and_from, and_parts, or_cases, or_left, or_right, cases_lt, cases_Bool, cond-true, cond-false}
use Rattle.itemset.specs.Counting.{count, some, every}
use Rattle.itemset.specs.Laws.{SomeRight, EveryRight}

-- ---- counts

pub count_up : (n : ℕ) (t u : ℕ → Bool) → ((i : ℕ) → t i ≡ true → u i ≡ true) → count n t ≤ count n u
count_up zero t u f = omega arith
count_up (suc n) t u f = let h = count_up n t u f in let k = go (t n) (u n) (f n) in omega arith
  where
    go : (x y : Bool) → (x ≡ true → y ≡ true) → cond x 1 0 ≤ cond y 1 0
    go false y f = omega arith
    go true y f = subst (λ b. 1 ≤ cond b 1 0) (sym (f refl)) (omega arith)

pub count_pos : (n : ℕ) (t : ℕ → Bool) (i : ℕ) → i < n → t i ≡ true → 1 ≤ count n t
count_pos zero t i lt e = absurd (omega arith)
count_pos (suc n) t i lt e =
    ⊎_elim
    (λ l. let h = count_pos n t i l e in omega arith)
    (λ l. let same : n ≡ i = omega arith in let h : ◌≡◌ {A = ℕ} (cond (t n) 1 0) 1 = cond-true (t n) 1 0 (ap t same ∙ e) in omega arith)
    (cases_lt i n)

pub count_some : (n : ℕ) (t : ℕ → Bool) → 1 ≤ count n t → (i : ℕ) × (i < n) × (t i ≡ true)
count_some zero t h = absurd (omega arith)
count_some (suc n) t h = go (count_some n t) (cases_Bool (t n))
  where
    go : (1 ≤ count n t → (i : ℕ) × (i < n) × (t i ≡ true)) → (t n ≡ true) ⊎ (t n ≡ false) → (i : ℕ) × (i < suc n) × (t i ≡ true)
    go ih (inl e) = (n, omega arith, e)
    go ih (inr e) =
        let z : ◌≡◌ {A = ℕ} (cond (t n) 1 0) 0 = cond-false (t n) 1 0 e in
        let r = ih (omega arith) in
        let l = r.1 in
        (r.0, omega arith, r.2)

pub count_more : (n : ℕ) (t : ℕ → Bool) → count (n + 1) t ≡ cond (t n) 1 0 + count n t
count_more n t = ap (λ k. count k t) (add-one n)

-- ---- searches

some_in : (n : ℕ) (t : ℕ → Bool) → some n t ≡ true → (k : ℕ) × (k < n) × (t k ≡ true)
some_in zero t e = absurd (false≢true e)
some_in (suc n) t e =
    ⊎_elim (λ h. (n, omega arith, h)) (λ h. let r = some_in n t h in let l = r.1 in (r.0, omega arith, r.2)) (or_cases (t n) (some n t) e)

in_some : (n : ℕ) (t : ℕ → Bool) (k : ℕ) → k < n → t k ≡ true → some n t ≡ true
in_some zero t k l e = absurd (omega arith)
in_some (suc n) t k l e =
    ⊎_elim (λ m. or_right (t n) (some n t) (in_some n t k m e)) (λ m. let same : n ≡ k = omega arith in or_left (t n) (some n t) (ap t same ∙ e)) (cases_lt k n)

every_in : (n : ℕ) (t : ℕ → Bool) → every n t ≡ true → (k : ℕ) → k < n → t k ≡ true
every_in zero t e k l = absurd (omega arith)
every_in (suc n) t e k l =
    let h = and_parts (t n) (every n t) e in
    ⊎_elim (λ m. every_in n t h.1 k m) (λ m. let same : k ≡ n = omega arith in ap t same ∙ h.0) (cases_lt k n)

in_every : (n : ℕ) (t : ℕ → Bool) → ((k : ℕ) → k < n → t k ≡ true) → every n t ≡ true
in_every zero t f = refl
in_every (suc n) t f = and_from (t n) (every n t) (f n (omega arith)) (in_every n t (λ k l. f k (omega arith)))

pub some_right : SomeRight
some_right n t = (some_in n t, λ h. in_some n t h.0 h.1 h.2)

pub every_right : EveryRight
every_right n t = (every_in n t, in_every n t)

-- tests that are true together are the same
pub same_tests : (x y : Bool) → (x ≡ true → y ≡ true) → (y ≡ true → x ≡ true) → x ≡ y
same_tests true y f g = sym (f refl)
same_tests false true f g = g refl
same_tests false false f g = refl

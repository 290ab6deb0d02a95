-- The members of a set in rising order: the lowest, and then those of the set without it.
use Rattle.std.proofs.Common.{◌≡◌, ℕ, zero, suc, ◌+◌, ◌^◌, ◌<◌, ◌≤◌, Bool, true, false, cond, List, [], ◌∷◌, filter, refl, sym, ap, ◌∙◌, ap₂, ⊎_elim, arith}
use Rattle.std.specs.List.{range_with_len}
use Rattle.std.proofs.lemmas.Bool.{cases_eq}
use Rattle.itemset.specs.Sets.{less, has, members, Lowest}
use Rattle.itemset.proofs.Members.{decides_has, in_less, in_one, less_sub, out_lacking}
use Rattle.itemset.proofs.Counts.{same_tests}

off : (b : Bool) → (b ≡ true → ⊥) → b ≡ false
off true h = absurd (h refl)
off false h = refl

-- taking i out leaves every other item
stays : (s i j : ℕ) → (j ≡ i → ⊥) → has j s ≡ has j (less s (2 ^ i))
stays s i j ne =
    same_tests (has j s) (has j (less s (2 ^ i))) (λ t. (decides_has j (less s (2 ^ i))).1 ((in_less j s (2 ^ i)).1 ((decides_has j s).0 t, λ o. ne ((in_one j i).0 o)))) (λ t. (decides_has j s).1 (less_sub s (2 ^ i) j ((decides_has j (less s (2 ^ i))).0 t)))

-- so from past i on the members are the same
past : (s i a n : ℕ) → i < a → filter (λ j. has j s) (range_with_len a n) ≡ filter (λ j. has j (less s (2 ^ i))) (range_with_len a n)
past s i a zero lt = refl
past s i a (suc n) lt = ap₂ (λ (b : Bool) (xs : List ℕ). cond b (a ∷ xs) xs) (stays s i a (λ e. omega (arith, lt, e))) (past s i (a + 1) n (omega arith))

-- from a number on that is not past i, i is the first
first : (s i a n : ℕ) → Lowest s i → a ≤ i → i < a + n → filter (λ j. has j s) (range_with_len a n) ≡ i ∷ filter (λ j. has j (less s (2 ^ i))) (range_with_len a n)
first s i a zero l h k = absurd (omega (arith, h, k))
first s i a (suc n) l h k = ⊎_elim here (λ ne. later ne (first s i (a + 1) n l (omega (arith, h, ne)) (omega (arith, k)))) (cases_eq a i)
  where
    kept : List ℕ
    kept = filter (λ j. has j (less s (2 ^ i))) (range_with_len (a + 1) n)

    here : a ≡ i → filter (λ j. has j s) (range_with_len a (suc n)) ≡ i ∷ filter (λ j. has j (less s (2 ^ i))) (range_with_len a (suc n))
    here e =
        let out : has a (less s (2 ^ i)) ≡ false = ap (λ (j : ℕ). has j (less s (2 ^ i))) e ∙ off (has i (less s (2 ^ i))) (λ t. out_lacking s i ((decides_has i (less s (2 ^ i))).0 t)) in
        ap₂ (λ (b : Bool) (xs : List ℕ). cond b (a ∷ xs) xs) (ap (λ (j : ℕ). has j s) e ∙ (decides_has i s).1 l.member) (past s i (a + 1) n (omega (arith, e)))
        ∙ ap₂ ◌∷◌ e (sym (ap (λ (b : Bool). cond b (a ∷ kept) kept) out))

    later : (a ≡ i → ⊥) → filter (λ j. has j s) (range_with_len (a + 1) n) ≡ i ∷ kept → filter (λ j. has j s) (range_with_len a (suc n)) ≡ i ∷ filter (λ j. has j (less s (2 ^ i))) (range_with_len a (suc n))
    later ne rest =
        let out : has a s ≡ false = off (has a s) (λ t. ne (omega (arith, h, l.least a ((decides_has a s).0 t)))) in
        ap (λ (b : Bool). cond b (a ∷ filter (λ j. has j s) (range_with_len (a + 1) n)) (filter (λ j. has j s) (range_with_len (a + 1) n))) out
        ∙ rest
        ∙ ap (λ (b : Bool). i ∷ cond b (a ∷ kept) kept) (sym (sym (stays s i a ne) ∙ out))

-- the members of a word
pub lowest_first : (s i : ℕ) → Lowest s i → i < 32 → members 32 s ≡ i ∷ members 32 (less s (2 ^ i))
unfolding members
lowest_first s i l lt = first s i 0 32 l (omega arith) lt

pub none_left : members 32 0 ≡ []
unfolding members
none_left = refl

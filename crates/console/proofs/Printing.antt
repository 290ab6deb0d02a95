-- What is printed.
use Rattle.std.proofs.Common.{◌≡◌, ℕ, min, true, leb, List, [], ◌∷◌, ◌++◌, length, take, Ok, Err, Result, sym, refl, ap, ◌∙◌, subst, ap₂, inl, inr, arith}
use Rattle.std.specs.List.{range_with_len, flat_map}
use Rattle.std.proofs.lemmas.List.{take_min, length-replicate}
use Rattle.std.proofs.lemmas.Bool.{MatchBool-at_true, and_from, and_parts, cond-true, cond-false, le-leb, lt-leb}
use Rattle.std.proofs.lemmas.List.Elements.{filter_agree}
use Rattle.base.specs.declared.refusal.Refusal.{Refusal}
use Rattle.base.proofs.Numbered.{no_index}
use Rattle.itemset.specs.Sets.{◌∈◌, full, has, members}
use Rattle.itemset.proofs.Members.{decides_has}
use Rattle.itemset.proofs.Counts.{same_tests}
use Rattle.itemset.proofs.Rows.{Mem}
use Rattle.criterion.specs.Meaning.{Meaning}
use Rattle.criterion.specs.Cores.{cores}
use Rattle.criterion.proofs.Found.{listed_is, mem_cores, cores_mem}
use Rattle.cores.specs.Answers.{Chooses, InEvery, Lists}
use Rattle.console.specs.Text.{common_line, core_line, items_line, refused_line}
use Rattle.console.specs.Reports.{reported, set_lines}
use Rattle.console.specs.Response.{in_each, listed, shared}

-- ---- the items of every core

each_in : (i : ℕ) (ks : List ℕ) → in_each i ks ≡ true → (K : ℕ) → Mem K ks → i ∈ K
each_in i [] t K m = absurd m
each_in i (k ∷ ks) t K (inl e) = subst (λ x. i ∈ x) (sym e) ((decides_has i k).0 (and_parts (has i k) (in_each i ks) t).0)
each_in i (k ∷ ks) t K (inr m) = each_in i ks (and_parts (has i k) (in_each i ks) t).1 K m

in_all : (i : ℕ) (ks : List ℕ) → ((K : ℕ) → Mem K ks → i ∈ K) → in_each i ks ≡ true
in_all i [] f = refl
in_all i (k ∷ ks) f = and_from (has i k) (in_each i ks) ((decides_has i k).1 (f k (inl refl))) (in_all i ks (λ K m. f K (inr m)))

shared_is : (m : Meaning) (E w : ℕ) → InEvery m E w → members 32 w ≡ shared (cores m.verdict E)
unfolding members shared
shared_is m E w f =
    filter_agree (λ i. has i w) (λ i. in_each i (cores m.verdict E)) (λ i.
    same_tests (has i w) (in_each i (cores m.verdict E))
    (λ t. in_all i (cores m.verdict E) (λ K k. (f i).0 ((decides_has i w).0 t) K (cores_mem m.verdict E K k)))
    (λ t. (decides_has i w).1 ((f i).1 (λ K c. each_in i (cores m.verdict E) t K (mem_cores m.verdict E K c)))))
    (range_with_len 0 32)

-- ---- the answers of an inquiry, printed

pub report_right : (m : Meaning) (n : ℕ) (common found : Result ℕ Refusal) (places : List ℕ) → n ≡ m.count
    → Chooses m (full m.count) (InEvery m (full m.count)) common → Lists m (full m.count) 4096 places found
    → reported n common found places ≡ listed m
unfolding listed
report_right m n (Err r) found places e (no', twelve) h =
    ap₂ refused_line twelve (no_index r (omega (arith, twelve))) ∙ sym (cond-false (m.verdict (full m.count)) _ (refused_line 12 0) no')
report_right m n (Ok w) (Err r) places e (gets, every) (zeros, why) =
    let h = MatchBool-at_true _ _ gets why in
    let cs = cores m.verdict (full m.count) in
    ap₂ refused_line h.1 (no_index r (omega (arith, h.1)))
    ∙ sym (cond-true (m.verdict (full m.count)) _ (refused_line 12 0) gets ∙ cond-false (leb (length cs) 4096) _ (refused_line 13 0) (lt-leb (length cs) 4096 h.0))
report_right m n (Ok w) (Ok k) places e (gets, every) (gets', fit, long, l) =
    let cs = cores m.verdict (full m.count) in
    let list : take k places ≡ cs = listed_is m.verdict (full m.count) (take k places) l.rising l.each in
    ap₂ (λ (j : ℕ) (ks : List ℕ). set_lines j w ks) e list
    ∙ ap (λ xs. items_line m.count ++ (common_line xs ++ flat_map core_line cs)) (shared_is m (full m.count) w every)
    ∙ sym (cond-true (m.verdict (full m.count)) _ (refused_line 12 0) gets ∙ cond-true (leb (length cs) 4096) _ (refused_line 13 0) (le-leb (length cs) 4096 fit))

pub lists_long : (m : Meaning) (E : ℕ) (places : List ℕ) (found : Result ℕ Refusal) → Lists m E 4096 places found → length places ≡ 4096
lists_long m E places (Ok k) h = h.2
lists_long m E places (Err r) h = ap length h.0 ∙ length-replicate {A = ℕ} 4096 0

-- a cut at the length or before it
pub cut_is : (xs : List ℕ) (n k : ℕ) → k ≡ min (length xs) n → take k xs ≡ take n xs
cut_is xs n k e = let same : k ≡ min n (length xs) = omega arith in ap (λ (j : ℕ). take j xs) same ∙ take_min n xs

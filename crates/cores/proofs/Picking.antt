-- The best set of a row so far.
use Rattle.std.proofs.Common.{◌≡◌, ℕ, ◌+◌, ◌-◌, ◌^◌, ◌<◌, ◌≤◌, List, [], ◌∷◌, length, get_or, take, Some, None, All, Contains, Option, sym, refl, ap, subst, arith}
use lib.Bits.{bit_and}
use lib.Count.{ones}
use Rattle.std.proofs.lemmas.Nat.{ones-le, and_le_l}
use Rattle.std.proofs.lemmas.List.{take_all, take_more}
use Rattle.std.proofs.lemmas.List.Elements.{All-nil, All-more, All-weaker, All-from_get_or, Contains-append_left, Contains-push, Contains-get_or}
use Rattle.itemset.specs.Sets.{◌⊆◌, less}
use Rattle.itemset.proofs.Members.{subset_le}
use Rattle.itemset.proofs.Bits.{and_not}
use Rattle.cores.specs.Rows.{Fewest, spare}

-- one of the fewest items outside K, and how many those are; where there is none, more than 32
abbrev pub Best : List ℕ → ℕ → ℕ → Option ℕ → ℕ → Type 0
Best row E K None least = All (λ D. D ⊆ E → ⊥) row × (32 < least)
Best row E K (Some C) least = Contains row C × (C ⊆ E) × (spare K C ≡ least) × All (λ D. D ⊆ E → least ≤ spare K D) row

pub best_none : (E K : ℕ) → Best [] E K None 33
best_none E K = (All-nil (λ D. D ⊆ E → ⊥), omega arith)

spare_small : (E K x : ℕ) → E < 2 ^ 32 → x ⊆ E → spare K x ≤ 32
spare_small E K x fits s = ones-le 32 (less x K) (omega (arith, subset_le x E s, and_le_l x K))

-- the count as the code makes it
pub spare_is : (E K x : ℕ) → E < 2 ^ 32 → K < 2 ^ 32 → x ⊆ E → ones (bit_and x (2 ^ 32 - 1 - K)) ≡ spare K x
spare_is E K x e k s = ap ones (and_not 32 x K (omega (arith, subset_le x E s)) k)

module _ (row : List ℕ) (E K i : ℕ) (lt : i < length row) where
  further : (C : ℕ) → Contains (take i row) C → Contains (take (i + 1) row) C
  further C h = subst (λ xs. Contains xs C) (sym (take_more row i 0 lt)) (Contains-append_left (take i row) (get_or row i 0 ∷ []) C h)

  pub best_past : (b : Option ℕ) (least : ℕ) → (get_or row i 0 ⊆ E → ⊥) → Best (take i row) E K b least → Best (take (i + 1) row) E K b least
  best_past None least out h = (All-more (λ D. D ⊆ E → ⊥) row i 0 lt h.0 out, h.1)
  best_past (Some C) least out h = (further C h.0, h.1, h.2, All-more (λ D. D ⊆ E → least ≤ spare K D) row i 0 lt h.3 (λ s. absurd (out s)))

  best_rest : (least more : ℕ) → more ≤ least → (b : Option ℕ) → Best (take i row) E K b least → All (λ D. D ⊆ E → more ≤ spare K D) (take i row)
  best_rest least more le None h = All-weaker (λ D. D ⊆ E → ⊥) (λ D. D ⊆ E → more ≤ spare K D) (λ D out s. absurd (out s)) (take i row) h.0
  best_rest least more le (Some C) h = All-weaker (λ D. D ⊆ E → least ≤ spare K D) (λ D. D ⊆ E → more ≤ spare K D) (λ D f s. omega (arith, f s)) (take i row) h.3

  pub best_here : (b : Option ℕ) (least : ℕ) → get_or row i 0 ⊆ E → spare K (get_or row i 0) < least → Best (take i row) E K b least → Best (take (i + 1) row) E K (Some (get_or row i 0)) (spare K (get_or row i 0))
  best_here b least s less' h =
      let x = get_or row i 0 in (
        subst (λ xs. Contains xs x) (sym (take_more row i 0 lt)) (Contains-push (take i row) x),
        s,
        refl,
        All-more (λ D. D ⊆ E → spare K x ≤ spare K D) row i 0 lt (best_rest least (spare K x) (omega arith) b h) (λ _. omega arith),
      )

  pub best_stays : (b : Option ℕ) (least : ℕ) → E < 2 ^ 32 → get_or row i 0 ⊆ E → least ≤ spare K (get_or row i 0) → Best (take i row) E K b least → Best (take (i + 1) row) E K b least
  best_stays None least fits s le h = absurd (omega (arith, spare_small E K (get_or row i 0) fits s, h.1))
  best_stays (Some C) least fits s le h = (further C h.0, h.1, h.2, All-more (λ D. D ⊆ E → least ≤ spare K D) row i 0 lt h.3 (λ _. le))

  -- none has fewer than none
  pub fewest_zero : get_or row i 0 ⊆ E → spare K (get_or row i 0) ≡ 0 → Fewest row E K (Some (get_or row i 0))
  fewest_zero s z = (Contains-get_or row i 0 lt, s, All-from_get_or (λ D. D ⊆ E → spare K (get_or row i 0) ≤ spare K D) row 0 (λ _ _ _. omega (arith, z)))

pub best_all : (row : List ℕ) (E K i : ℕ) (b : Option ℕ) (least : ℕ) → length row ≤ i → Best (take i row) E K b least → Fewest row E K b
best_all row E K i None least le h = subst (All (λ D. D ⊆ E → ⊥)) (take_all i row le) h.0
best_all row E K i (Some C) least le h =
    let e = take_all i row le in
    (subst (λ xs. Contains xs C) e h.0, h.1, All-weaker (λ D. D ⊆ E → least ≤ spare K D) (λ D. D ⊆ E → spare K C ≤ spare K D) (λ D f s. omega (arith, f s, h.2)) row (subst (All (λ D. D ⊆ E → least ≤ spare K D)) e h.3))

-- One group after another pruned.
use Rattle.std.proofs.Common.{◌≡◌, ℕ, ◌+◌, ◌^◌, ◌<◌, ◌≤◌, true, false, ◌↔◌, refl, subst, ⊎_elim, arith}
use Rattle.std.proofs.lemmas.Bool.{cases_eq, cases_lt, both_ways}
use Rattle.itemset.specs.Sets.{◌∈◌, ◌⊆◌, less}
use Rattle.itemset.proofs.Members.{in_or_out, less_mono, sub_lacking}
use Rattle.criterion.specs.Meaning.{Lawful, Meaning, Monotone}
use Rattle.criterion.proofs.Found.{shrunk}
use Rattle.cores.specs.Answers.{GroupedCore, Part}
use Rattle.cores.specs.Rows.{Pruned}
use Rattle.cores.proofs.Pruning.{no_within}

-- the groups below r are done: a yes set of E that has of these up to j no item outside `left` has all that `left` has of j
pub record Ranked (m : Meaning) (E left r : ℕ) : Type 0 where
  pub inside : left ⊆ E
  pub gets : m.verdict left ≡ true
  pub spared : (i : ℕ) → i ∈ E → r ≤ m.group i → i ∈ left
  pub tight : (i : ℕ) → i ∈ left → m.group i < r → m.verdict (less left (2 ^ i)) ≡ false
  pub least : (j : ℕ) → j < r → (L : ℕ) → L ⊆ E → m.verdict L ≡ true → ((k : ℕ) → k ≤ j → Part m.group k L left) → Part m.group j left L

in_unless_out : (i s : ℕ) → ((i ∈ s → ⊥) → ⊥) → i ∈ s
in_unless_out i s f = ⊎_elim (λ p. p) (λ z. absurd (f (λ p. omega (arith, p, z)))) (in_or_out i s)

module _ (m : Meaning) (law : Monotone m.verdict) (E left r loose next : ℕ) (are : (i : ℕ) → i ∈ loose ↔ ((i ∈ left) × (m.group i ≡ r))) (p : Pruned m.verdict left loose next) (h : Ranked m E left r) where
  -- what is left of group r has to stay
  of_group : (i : ℕ) → i ∈ next → m.group i ≡ r → m.verdict (less next (2 ^ i)) ≡ false
  of_group i q e = p.tight i q ((are i).1 (p.inside i q, e))

  above : (i : ℕ) → i ∈ E → r < m.group i → i ∈ next
  above i q lt = p.spared i (h.spared i q (omega arith)) (λ d. let e = ((are i).0 d).1 in omega arith)

  pub ranked_more : Ranked m E next (r + 1)
  ranked_more = record {
    inside = λ i q. h.inside i (p.inside i q);
    gets = p.gets;
    spared = λ i q le. above i q (omega arith);
    tight = λ i q lt. ⊎_elim
        (of_group i q)
        (λ ne. no_within m.verdict law (less next (2 ^ i)) (less left (2 ^ i)) (less_mono next left (2 ^ i) p.inside) (h.tight i (p.inside i q) (omega (arith, ne))))
        (cases_eq (m.group i) r);
    least = λ j lt L s t parts. ⊎_elim
        (λ below i q. h.least j below L s t (λ k le x a b. p.inside x (parts k le x a b)) i (p.inside i q))
        (λ up i q e. in_unless_out i L (λ out. both_ways (m.verdict (less next (2 ^ i))) (of_group i q (omega arith)) (law L (less next (2 ^ i)) (sub_lacking L next i (within j lt up L s parts) out) t)))
        (cases_lt j r);
  }
    where
      within : (j : ℕ) → j < r + 1 → r ≤ j → (L : ℕ) → L ⊆ E → ((k : ℕ) → k ≤ j → Part m.group k L next) → L ⊆ next
      within j lt up L s parts x a = ⊎_elim (λ l. above x (s x a) l) (λ l. parts (m.group x) (omega arith) x a refl) (cases_lt r (m.group x))

-- all three
pub ranked_core : (m : Meaning) → Lawful m → (E K r : ℕ) → 3 ≤ r → Ranked m E K r → GroupedCore m E K
ranked_core m law E K r all h = record {
  core = shrunk m.verdict law.monotone E K h.inside h.gets (λ i p. h.tight i p (omega (arith, law.groups i)));
  first = λ L c a. h.least 0 (omega arith) L c.inside c.gets (λ k le. subst (λ (x : ℕ). Part m.group x L K) (omega arith) a);
  second = λ L c a _ b. h.least 1 (omega arith) L c.inside c.gets (λ k le. ⊎_elim (λ lt. subst (λ (x : ℕ). Part m.group x L K) (omega arith) a) (λ ge. subst (λ (x : ℕ). Part m.group x L K) (omega arith) b) (cases_lt k 1));
}

-- A loop over the items of a set, the lowest first: those in `rest` are still to come, and the others are done.
use Rattle.std.proofs.Common.{◌≡◌, ℕ, ◌^◌, ◌<◌, ◌⊎◌, refl, sym, ap, ◌∙◌, subst, inl, inr, ⊎_elim, arith}
use lib.Bits.{and_zero_r}
use Rattle.std.proofs.lemmas.Bool.{cases_eq}
use Rattle.itemset.specs.Sets.{◌∈◌, ◌⊆◌, Lowest, less}
use Rattle.itemset.proofs.Members.{in_less, in_one, below}
use Rattle.cores.specs.declared.scope.Scope.{Scope}

-- those to come are of the set, and come after those that are done
pub record Coming (all rest : ℕ) : Type 0 where
  pub inside : rest ⊆ all
  pub later : (x y : ℕ) → x ∈ less all rest → y ∈ rest → x < y

-- one set has the items of another, and i
pub record Adds (before i now : ℕ) : Type 0 where
  pub still : before ⊆ now
  pub here : i ∈ now
  pub only : (j : ℕ) → j ∈ now → (j ≡ i) ⊎ (j ∈ before)

-- at last all are
pub all_done : (all rest : ℕ) → rest ≡ 0 → less all rest ≡ all
all_done all rest e = ap (less all) e ∙ omega (arith, and_zero_r all)

-- a turn
module _ {all rest i next : ℕ} (h : Coming all rest) (turn : Lowest rest i × (next ≡ less rest (2 ^ i))) where
  in_next : (j : ℕ) → j ∈ next → (j ∈ rest) × (j ≡ i → ⊥)
  in_next j p = let q = (in_less j rest (2 ^ i)).0 (subst (λ x. j ∈ x) turn.1 p) in (q.0, λ e. q.1 ((in_one j i).1 e))

  pub more_done : Adds (less all rest) i (less all next)
  more_done = record {
    still = λ j p. let q = (in_less j all rest).0 p in (in_less j all next).1 (q.0, λ r. q.1 (in_next j r).0);
    here = (in_less i all next).1 (h.inside i turn.0.member, λ r. (in_next i r).1 refl);
    only = only;
  }
    where
      only : (j : ℕ) → j ∈ less all next → (j ≡ i) ⊎ (j ∈ less all rest)
      only j p =
          let q = (in_less j all next).0 p in
          ⊎_elim inl (λ ne. inr ((in_less j all rest).1 (q.0, λ r. q.1 (subst (λ x. j ∈ x) (sym turn.1) ((in_less j rest (2 ^ i)).1 (r, λ o. ne ((in_one j i).0 o))))))) (cases_eq j i)

  pub coming_less : Coming all next
  coming_less = record {
    inside = λ j p. h.inside j (in_next j p).0;
    later = λ x y p q. let r = in_next y q in ⊎_elim (λ e. omega (arith, e, turn.0.least y r.0, r.1)) (λ d. h.later x y d r.0) (more_done.only x p);
  }

-- an item of a scope is below the width of a word
pub item_small : (s : Scope) (i : ℕ) → i ∈ s.set → i < 32
item_small s i p = let lt = (below s.items s.set).0 s.ok.1 i p in omega (arith, s.ok.0)

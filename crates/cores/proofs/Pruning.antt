-- Loose items taken out of a yes set one after another.
use Rattle.std.proofs.Common.{◌≡◌, ℕ, ◌^◌, Bool, true, false, sym, ap, ◌∙◌, subst, ⊎_elim}
use Rattle.std.proofs.lemmas.Bool.{cases_Bool, both_ways}
use Rattle.itemset.specs.Sets.{◌∈◌, ◌⊆◌, less}
use Rattle.itemset.proofs.Members.{in_less, in_one, less_mono, less_sub, out_lacking}
use Rattle.criterion.specs.Cores.{Core}
use Rattle.criterion.specs.Meaning.{Meaning, Monotone}
use Rattle.criterion.proofs.Found.{shrunk}
use Rattle.cores.specs.Rows.{Pruned}
use Rattle.cores.proofs.Coming.{Adds}

-- what is no in a set is no in its subsets
pub no_within : (V : ℕ → Bool) → Monotone V → (a b : ℕ) → a ⊆ b → V b ≡ false → V a ≡ false
no_within V law a b s f = ⊎_elim (λ t. absurd (both_ways (V b) f (law a b s t))) (λ e. e) (cases_Bool (V a))

-- one item more is tried
module _ {V : ℕ → Bool} {E left i fewer tried now : ℕ} (cut : fewer ≡ less left (2 ^ i)) (adds : Adds tried i now) (h : Pruned V E tried left) where
  pub pruned_stays : V fewer ≡ false → Pruned V E now left
  pruned_stays f = record {
    inside = h.inside;
    gets = h.gets;
    spared = λ j p out. h.spared j p (λ q. out (adds.still j q));
    tight = λ j p q. ⊎_elim (λ e. ap (λ (x : ℕ). V (less left (2 ^ x))) e ∙ ap V (sym cut) ∙ f) (h.tight j p) (adds.only j q);
  }

  pub pruned_goes : Monotone V → V fewer ≡ true → Pruned V E now fewer
  pruned_goes law t = subst (Pruned V E now) (sym cut) (record {
    inside = λ j p. h.inside j (less_sub left (2 ^ i) j p);
    gets = ap V (sym cut) ∙ t;
    spared = λ j p out. (in_less j left (2 ^ i)).1 (h.spared j p (λ q. out (adds.still j q)), λ q. out (subst (λ (x : ℕ). x ∈ now) (sym ((in_one j i).0 q)) adds.here));
    tight = λ j p q. ⊎_elim
        (λ e. absurd (out_lacking left i (subst (λ (x : ℕ). x ∈ less left (2 ^ i)) e p)))
        (λ d. no_within V law (less (less left (2 ^ i)) (2 ^ j)) (less left (2 ^ j)) (less_mono (less left (2 ^ i)) left (2 ^ j) (less_sub left (2 ^ i))) (h.tight j (less_sub left (2 ^ i) j p) d))
        (adds.only j q);
  })

-- all of its items tried: a core
pub pruned_core : (V : ℕ → Bool) → Monotone V → (E r : ℕ) → Pruned V E E r → Core V E r
pruned_core V law E r h = shrunk V law E r h.inside h.gets (λ j p. h.tight j p (h.inside j p))

-- what `shrink` promises at a criterion that has the meaning m still
pub pruned_at : (m at : Meaning) (E loose r : ℕ) → at ≡ m → (at.order ≡ true → at.verdict E ≡ true → Pruned at.verdict E loose r) → m.order ≡ true → m.verdict E ≡ true → Pruned m.verdict E loose r
pruned_at m at E loose r e = subst (λ (x : Meaning). x.order ≡ true → x.verdict E ≡ true → Pruned x.verdict E loose r) e

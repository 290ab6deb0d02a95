-- Items that have a property collected one after another.
use Rattle.std.proofs.Common.{◌≡◌, ℕ, Bool, true, false, ◌*◌, ◌%◌, ◌^◌, ◌<◌, ◌↔◌, sym, subst, inl, inr, ⊎_elim}
use lib.Bits.{bit_or}
use Rattle.std.proofs.lemmas.Nat.{one_shl}
use Rattle.itemset.specs.Sets.{◌∈◌, less}
use Rattle.itemset.proofs.Members.{in_or, in_one}
use Rattle.criterion.specs.Cores.{Core}
use Rattle.criterion.specs.Meaning.{Monotone}
use Rattle.criterion.proofs.Found.{found, needed}
use Rattle.cores.proofs.Coming.{Adds}

-- w holds the items tried that have P
pub record Sifted (P : ℕ → Type 0) (tried w : ℕ) : Type 0 where
  pub are : (j : ℕ) → j ∈ w ↔ ((j ∈ tried) × P j)

-- one item more is tried
module _ {P : ℕ → Type 0} {w i tried now : ℕ} (adds : Adds tried i now) (h : Sifted P tried w) where
  pub sifted_past : (P i → ⊥) → Sifted P now w
  sifted_past rare = record {
    are = λ j. (
      λ p. let q = (h.are j).0 p in (adds.still j q.0, q.1),
      λ p. ⊎_elim (λ e. absurd (rare (subst P e p.1))) (λ d. (h.are j).1 (d, p.1)) (adds.only j p.0),
    );
  }

  -- the set as the code makes it
  pub sifted_adds : i < 32 → P i → Sifted P now (bit_or w ((1 * 2 ^ i) % 2 ^ 32))
  sifted_adds small has = subst (λ x. Sifted P now (bit_or w x)) (sym (one_shl i 32 small)) (record {
    are = λ j. (
      λ p. ⊎_elim
          (λ q. let r = (h.are j).0 q in (adds.still j r.0, r.1))
          (λ q. let e = sym ((in_one j i).0 q) in (subst (λ (x : ℕ). x ∈ now) e adds.here, subst P e has))
          ((in_or j w (2 ^ i)).0 p),
      λ p. (in_or j w (2 ^ i)).1 (⊎_elim (λ e. inr ((in_one j i).1 e)) (λ d. inl ((h.are j).1 (d, p.1))) (adds.only j p.0)),
    );
  })

-- the items that E cannot spare are those of every core
pub common_are : (V : ℕ → Bool) → Monotone V → (E w : ℕ) → V E ≡ true → Sifted (λ i. V (less E (2 ^ i)) ≡ false) E w → (j : ℕ) → j ∈ w ↔ ((K : ℕ) → Core V E K → j ∈ K)
common_are V law E w t h j = (
  λ p. (needed V law E j).0 ((h.are j).0 p).1,
  λ c. let k = found V E t in (h.are j).1 (k.1.inside j (c k.0 k.1), (needed V law E j).1 c),
)

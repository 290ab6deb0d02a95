-- Cores: the test decides them, every yes set contains one, and what hits them all.
use Rattle.std.proofs.Common.{◌≡◌, ℕ, zero, suc, ◌+◌, ◌^◌, ◌<◌, ◌≤◌, Bool, true, false, not, ◌&&◌, ◌⊎◌, ◌↔◌, List, length, Decides, Contains, sym, refl, subst, inl, inr, ⊎_elim, arith}
use Rattle.std.specs.List.{range_with_len}
use Rattle.std.proofs.lemmas.Bool.{and_parts, cases_Bool, cases_eq, both_ways, false_from_ne_true}
use Rattle.std.proofs.lemmas.Bool.Decides.{Decides-below_and, Decides-and, Decides-not, Decides-like}
use Rattle.itemset.specs.Sets.{◌∈◌, ◌⊆◌, Meets, less, within}
use Rattle.itemset.specs.Lists.{Rising}
use Rattle.criterion.specs.Meaning.{Monotone}
use Rattle.criterion.specs.Cores.{Core, none_below, is_core, cores}
use Rattle.criterion.specs.Laws.{Hitting, Found, Unique, Counted, Shrunk, Needed, Branches}
use Rattle.itemset.proofs.Members.{decides_within, subset_le, less_sub, in_less, in_one, meets_or_not, one_outside, outside_or, sub_lacking}
use Rattle.itemset.proofs.Rows.{Mem, has_from_mem, mem_from_has, mem_le, mem_same, rising_kept, rising_counting, mem_counting, mem_kept, kept_passes}

module _ (V : ℕ → Bool) where
  -- ---- the test of a core

  decides_none : (k n : ℕ) → Decides (none_below V k n) ((m : ℕ) → m < n → ((m ⊆ k) × (V m ≡ true)) → ⊥)
  decides_none k n = Decides-below_and (λ m. not (within m k && V m)) (λ m. ((m ⊆ k) × (V m ≡ true)) → ⊥) (none_below V k) (λ m. Decides-not (within m k && V m) (Decides-and (within m k) (V m) (decides_within m k) (λ e. e, λ e. e))) refl (λ m. refl) n

  -- a yes set is a core if no smaller number is a yes set within it
  least_core : (E k : ℕ) → k ⊆ E → V k ≡ true → ((m : ℕ) → m < k → ((m ⊆ k) × (V m ≡ true)) → ⊥) → Core V E k
  least_core E k s t none = record {
    inside = s;
    gets = t;
    least = λ P p ne. false_from_ne_true (V P) (λ tp. none P (omega (arith, subset_le P k p, ne)) (p, tp));
  }

  pub decides_core : (E k : ℕ) → Decides (is_core V E k) (Core V E k)
  decides_core E k =
      Decides-like (is_core V E k)
      (λ h. least_core E k h.0 h.1.0 h.1.1)
      (λ c. (c.inside, (c.gets, λ m lt h. both_ways (V m) (c.least m h.0 (λ e. omega arith)) h.1)))
      (Decides-and (within k E) (V k && none_below V k k) (decides_within k E) (Decides-and (V k) (none_below V k k) (λ e. e, λ e. e) (decides_none k k)))

  -- ---- a set that gets yes contains a core

  core_or_none : (E n : ℕ) → ((K : ℕ) × Core V E K) ⊎ ((m : ℕ) → m < n → m ⊆ E → V m ≡ true → ⊥)
  core_or_none E zero = inr (λ m lt s t. omega arith)
  core_or_none E (suc n) = ⊎_elim inl (λ none. ⊎_elim (λ t. inl (n, here none t)) (λ f. inr (past none f)) (cases_Bool (within n E && V n))) (core_or_none E n)
    where
      here : ((m : ℕ) → m < n → m ⊆ E → V m ≡ true → ⊥) → (within n E && V n) ≡ true → Core V E n
      here none t =
          let p = and_parts (within n E) (V n) t in
          let s = (decides_within n E).0 p.0 in
          least_core E n s p.1 (λ m lt h. none m lt (λ i q. s i (h.0 i q)) h.1)

      past : ((m : ℕ) → m < n → m ⊆ E → V m ≡ true → ⊥) → (within n E && V n) ≡ false → (m : ℕ) → m < suc n → m ⊆ E → V m ≡ true → ⊥
      past none f m lt s t = grind (arith, none m, decides_within m E)

  pub a_core : (E : ℕ) → V E ≡ true → (K : ℕ) × Core V E K
  a_core E t = ⊎_elim (λ c. c) (λ none. absurd (none E (omega arith) (λ i p. p) t)) (core_or_none E (suc E))

  -- ---- the list of the cores

  pub cores_rise : (E : ℕ) → Rising (cores V E)
  unfolding cores
  cores_rise E = rising_kept (is_core V E) (range_with_len 0 (E + 1)) (rising_counting 0 (E + 1))

  pub mem_cores : (E K : ℕ) → Core V E K → Mem K (cores V E)
  unfolding cores
  mem_cores E K c = mem_kept (is_core V E) (range_with_len 0 (E + 1)) K (mem_counting 0 (E + 1) K (omega arith) (omega (arith, subset_le K E c.inside))) ((decides_core E K).1 c)

  pub cores_mem : (E K : ℕ) → Mem K (cores V E) → Core V E K
  unfolding cores
  cores_mem E K m = (decides_core E K).0 (kept_passes (is_core V E) (range_with_len 0 (E + 1)) K m)

  pub listed_is : (E : ℕ) (xs : List ℕ) → Rising xs → ((K : ℕ) → Contains xs K ↔ Core V E K) → xs ≡ cores V E
  listed_is E xs r h = mem_same xs (cores V E) r (cores_rise E) (λ K m. mem_cores E K ((h K).0 (has_from_mem K xs m))) (λ K m. mem_from_has K xs ((h K).1 (cores_mem E K m)))

  pub listed_le : (E : ℕ) (xs : List ℕ) → Rising xs → ((K : ℕ) → Contains xs K → Core V E K) → length xs ≤ length (cores V E)
  listed_le E xs r h = mem_le xs (cores V E) r (cores_rise E) (λ K m. mem_cores E K (h K (has_from_mem K xs m)))

  -- ---- what hits every core

  module _ (law : Monotone V) where
    pub no_hits : (E D : ℕ) → V (less E D) ≡ false → (K : ℕ) → Core V E K → Meets K D
    no_hits E D f K c = ⊎_elim (λ m. m) (λ apart. absurd (both_ways (V (less E D)) f (law K (less E D) (λ i p. (in_less i E D).1 (c.inside i p, λ q. apart (i, p, q))) c.gets))) (meets_or_not K D)

    pub hits_no : (E D : ℕ) → ((K : ℕ) → Core V E K → Meets K D) → V (less E D) ≡ false
    hits_no E D h = false_from_ne_true (V (less E D)) (λ t. contra (a_core (less E D) t))
      where
        contra : (K : ℕ) × Core V (less E D) K → ⊥
        contra c =
            let K = c.0 in
            let m : Meets K D = h K (record { inside = λ i p. less_sub E D i (c.1.inside i p); gets = c.1.gets; least = c.1.least }) in
            ((in_less m.0 E D).0 (c.1.inside m.0 m.1)).1 m.2

-- ---- the laws of the list and of what hits every core

pub hitting : Hitting
hitting V law E D = (no_hits V law E D, hits_no V law E D)

pub found : Found
found V E t = a_core V E t

pub unique : Unique
unique V E = (cores_rise V E, λ K. (λ h. cores_mem V E K (mem_from_has K (cores V E) h), λ c. has_from_mem K (cores V E) (mem_cores V E K c)), λ xs r h. listed_is V E xs r h)

pub counted : Counted
counted V E xs r h = listed_le V E xs r h

-- ---- cores by single items

pub shrunk : Shrunk
shrunk V law E K s t none = record {
  inside = s;
  gets = t;
  least = λ P p ne. false_from_ne_true (V P) (λ tp. let o = one_outside P K p ne in both_ways (V (less K (2 ^ o.0))) (none o.0 o.1) (law P (less K (2 ^ o.0)) (sub_lacking P K o.0 p o.2) tp));
}

pub needed : Needed
needed V law E i = (
  λ f K c. let m = no_hits V law E (2 ^ i) f K c in subst (λ x. x ∈ K) ((in_one m.0 i).0 m.2) m.1,
  λ h. hits_no V law E (2 ^ i) (λ K c. (i, h K c, (in_one i i).1 refl)),
)

-- ---- the cores of E, from one of them on

pub branches : Branches
branches V E K c L = (from (outside_or L K), ⊎_elim (λ e. subst (Core V E) (sym e) c) (λ b. record { inside = λ j p. less_sub E (2 ^ b.0) j (b.2.inside j p); gets = b.2.gets; least = b.2.least }))
  where
    from : ((i : ℕ) × (i ∈ K) × (i ∈ L → ⊥)) ⊎ (K ⊆ L) → Core V E L → (L ≡ K) ⊎ ((i : ℕ) × (i ∈ K) × Core V (less E (2 ^ i)) L)
    from (inl o) d = inr (o.0, o.1, record { inside = sub_lacking L E o.0 d.inside o.2; gets = d.gets; least = d.least })
    from (inr s) d = ⊎_elim inl (λ ne. absurd (both_ways (V K) (d.least K s (λ e. ne (sym e))) c.gets)) (cases_eq L K)

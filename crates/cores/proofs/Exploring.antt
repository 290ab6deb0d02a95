-- The cores within E that contain K, from one core of E on.
use Rattle.std.proofs.Common.{◌≡◌, ℕ, ◌-◌, ◌*◌, ◌/◌, ◌%◌, ◌^◌, ◌<◌, Bool, true, ◌⊎◌, List, length, Some, None, Ok, Err, All, Contains, Result, sym, ap, ◌∙◌, subst, inl, inr, ⊎_elim, arith}
use lib.Bits.{bit_and, bit_or}
use lib.Count.{count_trailing_zeros}
use Rattle.std.proofs.lemmas.Nat.{one_shl, pow_below}
use Rattle.std.proofs.lemmas.List.Elements.{All-weaker, All-contains}
use Rattle.std.proofs.lemmas.Bool.{cases_eq, both_ways}
use Rattle.base.specs.declared.refusal.Refusal.{Refusal}
use Rattle.itemset.specs.Sets.{◌∈◌, ◌⊆◌, Lowest, less}
use Rattle.itemset.proofs.Members.{in_or, in_or_out, in_less, in_one, less_sub, none_in, sub_lacking, subset_le}
use Rattle.itemset.proofs.Bits.{and_not, below_itself, lowest_is}
use Rattle.criterion.specs.Meaning.{Meaning, Monotone}
use Rattle.criterion.specs.Cores.{Core, cores}
use Rattle.criterion.proofs.Found.{listed_le}
use Rattle.cores.specs.declared.found.Found.{Found}
use Rattle.itemset.specs.declared.items.Items.{Items}
use Rattle.cores.specs.declared.scope.Scope.{Scope}
use Rattle.cores.specs.Founds.{known, room, Grown, Pivoted, Explored}
use Rattle.cores.specs.Rows.{placed}
use Rattle.cores.proofs.Coming.{Adds, Coming, all_done}
use Rattle.cores.proofs.Placing.{all_placed, length_placed, rising_placed}

-- ---- one core more

pub core_narrower : (V : ℕ → Bool) (S E C : ℕ) → C ⊆ E → Core V S C → Core V E C
core_narrower V S E C s c = record { inside = s; gets = c.gets; least = c.least }

pub core_wider : (V : ℕ → Bool) (S E C : ℕ) → E ⊆ S → Core V E C → Core V S C
core_wider V S E C s c = record { inside = λ i p. s i (c.inside i p); gets = c.gets; least = c.least }

-- a set within E is none of a row in which none has within E
pub is_new : (E C : ℕ) (row : List ℕ) → C ⊆ E → All (λ D. D ⊆ E → ⊥) row → All (λ D. D ≡ C → ⊥) row
is_new E C row s none = All-weaker (λ D. D ⊆ E → ⊥) (λ D. D ≡ C → ⊥) (λ D out e. out (subst (λ x. x ⊆ E) (sym e) s)) row none

pub crowded : (V : ℕ → Bool) (S E C : ℕ) (f : Found) → All (λ D. D ⊆ E → ⊥) (known f) → Core V E C → E ⊆ S → All (Core V S) (known f) → length (known f) ≡ room f → room f < length (cores V S)
crowded V S E C f none c s all full =
    let row = known f in
    let le = listed_le V S (placed C row) (rising_placed C row f.row.rising (is_new E C row c.inside none)) (λ K h. All-contains (Core V S) (placed C row) K (all_placed (Core V S) C row (core_wider V S E C s c) all) h) in
    omega (arith, le, length_placed C row, full)

-- ---- the turns over the items of a set, the lowest first

-- the items held: those held at first, and the ones that are done
pub record Holding (K done held : ℕ) : Type 0 where
  pub from : (j : ℕ) → j ∈ held → (j ∈ K) ⊎ (j ∈ done)

pub holding_more : {K done now i held : ℕ} → i < 32 → Adds done i now → Holding K done held → Holding K now (bit_or held ((1 * 2 ^ i) % 2 ^ 32))
holding_more {K} {done} {now} {i} {held} small adds h = record {
  from = λ j p. ⊎_elim
      (λ q. ⊎_elim inl (λ d. inr (adds.still j d)) (h.from j q))
      (λ q. inr (subst (λ (x : ℕ). x ∈ now) (sym ((in_one j i).0 q)) adds.here))
      ((in_or j held (2 ^ i)).0 (subst (λ x. j ∈ bit_or held x) (one_shl i 32 small) p));
}

-- the row has the cores of E that contain K and lack an item that is done, at the lowest that they lack
abbrev pub Reached : (ℕ → Bool) → ℕ → ℕ → ℕ → ℕ → List ℕ → Type 0
Reached V E K items done row = (L : ℕ) → Core V E L → K ⊆ L → (x : ℕ) → x ∈ done → (x ∈ L → ⊥) → ((y : ℕ) → y < x → y ∈ items → y ∈ L) → Contains row L

-- from the row before the turns to the row now
pub record Turning (m : Meaning) (E K items : ℕ) (before : List ℕ) (done : ℕ) (after : List ℕ) : Type 0 where
  pub reached : m.order ≡ true → (S : ℕ) → E ⊆ S → All (Core m.verdict S) before → All (Core m.verdict S) after × Reached m.verdict E K items done after

pub turning_more : {m : Meaning} {E K items rest i now held : ℕ} {before : List ℕ} {f g : Found} → Lowest rest i → Coming items rest → Adds (less items rest) i now → Holding K (less items rest) held → Grown f g → Explored m (less E (2 ^ i)) held f g (Ok tt)
    → Turning m E K items before (less items rest) (known f) → Turning m E K items before now (known g)
turning_more {m} {E} {K} {items} {rest} {i} {now} {held} low coming adds holds grown more turns = record {
  reached = λ o S s all.
      let was = turns.reached o S s all in
      let told = more o S (λ j p. s j (less_sub E (2 ^ i) j p)) was.0 in (
        told.0,
        λ L c k x p out lower. ⊎_elim
            (λ e. told.1 L (core_narrower m.verdict E (less E (2 ^ i)) L (sub_lacking L E i c.inside (λ r. out (subst (λ z. z ∈ L) (sym e) r))) c) (contains L k (λ y l r. lower y (omega (arith, e)) r)))
            (λ d. grown.keeps L (was.1 L c k x d out lower))
            (adds.only x p),
      );
}
  where
    contains : (L : ℕ) → K ⊆ L → ((y : ℕ) → y < i → y ∈ items → y ∈ L) → held ⊆ L
    contains L k lower j p = ⊎_elim (k j) (λ d. lower j (coming.later j i d low.member) ((in_less j items rest).0 d).0) (holds.from j p)

-- a core of E that contains K is C, or lacks an item of C less K
another : (V : ℕ → Bool) (E K C L : ℕ) → Core V E C → Core V E L → K ⊆ L → (L ≡ C) ⊎ ((x : ℕ) × (x ∈ less C K) × (x ∈ L → ⊥) × ((y : ℕ) → y < x → y ∈ less C K → y ∈ L))
another V E K C L c d k = ⊎_elim (λ z. inl (sym (same z))) (λ ne. inr (at ne)) (cases_eq (less (less C K) L) 0)
  where
    at : (less (less C K) L ≡ 0 → ⊥) → (x : ℕ) × (x ∈ less C K) × (x ∈ L → ⊥) × ((y : ℕ) → y < x → y ∈ less C K → y ∈ L)
    at ne =
        let s = less (less C K) L in
        let low = lowest_is s s ne (below_itself s) in
        let x = count_trailing_zeros s s in
        let p = (in_less x (less C K) L).0 low.member in
        (x, p.0, p.1, λ y lt q. ⊎_elim (λ r. r) (λ r. let le = low.least y ((in_less y (less C K) L).1 (q, λ t. omega (arith, r, t))) in absurd (omega arith)) (in_or_out y L))

    inside : less (less C K) L ≡ 0 → C ⊆ L
    inside z i p = ⊎_elim (λ q. q) (λ q. absurd (none_in i (subst (λ x. i ∈ x) z ((in_less i (less C K) L).1 ((in_less i C K).1 (p, λ r. out q (k i r)), out q))))) (in_or_out i L)
      where
        out : L / 2 ^ i % 2 ≡ 0 → i ∈ L → ⊥
        out q r = omega arith

    same : less (less C K) L ≡ 0 → C ≡ L
    same z = ⊎_elim (λ e. e) (λ ne. absurd (both_ways (V C) (d.least C (inside z) ne) c.gets)) (cases_eq C L)

-- ---- what `explore` answers

pub grown_trans : {f g h : Found} → Grown f g → Grown g h → Grown f h
grown_trans a b = record { buffer = (b.buffer.0 ∙ a.buffer.0, b.buffer.1 ∙ a.buffer.1); keeps = λ K p. b.keeps K (a.keeps K p) }

-- at a criterion that has the meaning m still, and in a scope that is E
pub explored_at : {m at : Meaning} {E e : ℕ} (K : ℕ) (f g : Found) (r : Result (Unit {0}) Refusal) → at ≡ m → e ≡ E → Explored at e K f g r → Explored m E K f g r
explored_at {m} {at} {E} {e} K f g r same is h = subst (λ (x : Meaning). Explored x E K f g r) same (subst (λ y. Explored at y K f g r) is h)

-- no core
pub explored_none : (m : Meaning) → Monotone m.verdict → (E K : ℕ) (f g : Found) → Pivoted m E f g (Ok None) → Explored m E K f g (Ok tt)
explored_none m law E K f g h o S s all = let p = h o S s all in (p.1, λ L c k. absurd (both_ways (m.verdict E) p.0 (law L E c.inside c.gets)))

module _ (m : Meaning) (E K C items rest : ℕ) (f g h : Found) (first : Pivoted m E f g (Ok (Some C))) (turns : Turning m E K items (known g) (less items rest) (known h)) where
  -- every turn was made
  pub explored_all : items ≡ less C K → rest ≡ 0 → Contains (known g) C → Grown g h → Explored m E K f h (Ok tt)
  explored_all is end has grown o S s all =
      let p = first o S s all in
      let t = turns.reached o S s p.1 in (
        t.0,
        λ L c k. ⊎_elim
            (λ e. subst (Contains (known h)) (sym e) (grown.keeps C has))
            (λ w. t.1 L c k w.0 (subst (λ z. w.0 ∈ z) (sym (all_done items rest end)) (subst (λ z. w.0 ∈ z) (sym is) w.1)) w.2 (λ y lt q. w.3 y lt (subst (λ z. y ∈ z) is q)))
            (another m.verdict E K C L p.0 c k),
      )

  -- one turn was refused
  pub explored_full : (i held : ℕ) (l : Found) (r : Refusal) → room h ≡ room f → Explored m (less E (2 ^ i)) held h l (Err r) → Explored m E K f l (Err r)
  explored_full i held l r long e o S s all =
      let t = turns.reached o S s (first o S s all).1 in
      let told = e o S (λ j p. s j (less_sub E (2 ^ i) j p)) t.0 in
      (told.0, omega (arith, told.1, long))

-- ---- what the code makes

module _ (s : Scope) (C K : ℕ) {it : Items ℕ} (made : it ≡ record { 0 = bit_and C (2 ^ 32 - 1 - K) }) (inside : C ⊆ s.set) (fits : K < 2 ^ 32) where
  pub items_are : it.0 ≡ less C K
  items_are = ap (λ (x : Items ℕ). x.0) made ∙ and_not 32 C K (omega (arith, subset_le C s.set inside, s.ok.1, pow_below s.items 32 (omega (arith, s.ok.0)))) fits

  pub of_scope : {rest i : ℕ} → Coming it.0 rest → Lowest rest i → i ∈ s.set
  of_scope {rest} {i} coming low = inside i ((in_less i C K).0 (subst (λ x. i ∈ x) items_are (coming.inside i low.member))).0

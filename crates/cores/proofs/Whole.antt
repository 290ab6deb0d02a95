-- The whole row is the list of the cores.
use Rattle.std.proofs.Common.{◌≡◌, ℕ, ◌^◌, ◌<◌, ◌≤◌, true, ◌↔◌, List, [], length, get_or, drop, replicate, Ok, Err, All, Contains, sym, refl, ap, ◌∙◌, subst, arith}
use Rattle.std.specs.List.{range_with_len}
use Rattle.std.proofs.lemmas.List.FromFn.{length-range_with_len}
use Rattle.std.proofs.lemmas.List.Elements.{All-nil, All-contains, Contains-get_or}
use Rattle.std.proofs.lemmas.List.{length-take-le}
use Rattle.std.proofs.lemmas.Bool.{false_from_ne_true}
use Rattle.itemset.specs.Sets.{◌⊆◌}
use Rattle.itemset.specs.Lists.{Rising}
use Rattle.criterion.specs.Cores.{Core, cores}
use Rattle.criterion.specs.Meaning.{Meaning, Monotone}
use Rattle.cores.specs.Answers.{Lists}
use Rattle.itemset.proofs.Members.{none_in}
use Rattle.itemset.proofs.Rows.{all_mem, mem_from_has, mem_le, rising_counting, mem_counting}
use Rattle.criterion.proofs.Found.{found, cores_mem, listed_is, no_hits, hits_no}
use Rattle.base.specs.declared.refusal.Refusal.{Refusal}
use Rattle.base.specs.declared.refusal.Refusal.TheVariants.{GetsNo}
use Rattle.cores.specs.declared.found.Found.{Found}
use Rattle.cores.specs.Founds.{known, room, Crowded, Explored}

-- there are no more sets of n items than this
few : (n : ℕ) (row : List ℕ) → Rising row → All (λ K. K < 2 ^ n) row → length row ≤ 2 ^ n
few n row r below = omega (arith, length-range_with_len 0 (2 ^ n), mem_le row (range_with_len 0 (2 ^ n)) r (rising_counting 0 (2 ^ n)) (λ x m. mem_counting 0 (2 ^ n) x (omega arith) (omega (arith, all_mem (λ K. K < 2 ^ n) row x below m))))

pub row_few : (f : Found) → f.count ≤ 2 ^ 31
row_few f = omega (arith, length-take-le f.count f.places.now f.row.high, few 31 (known f) f.row.rising f.row.below)

none_in_0 : (L : ℕ) → 0 ⊆ L
none_in_0 L i p = absurd (none_in i p)

-- from no row
module _ (m : Meaning) (law : Monotone m.verdict) (E : ℕ) (before after : Found) (o : m.order ≡ true) (empty : known before ≡ []) where
  none_yet : All (Core m.verdict E) (known before)
  none_yet = subst (All (Core m.verdict E)) (sym empty) (All-nil (Core m.verdict E))

  yes_by_core : (K : ℕ) → Core m.verdict E K → m.verdict E ≡ true
  yes_by_core K c = law K E c.inside c.gets

  -- no core: the set gets no
  pub lists_no : (size : ℕ) (places : List ℕ) → places ≡ after.places.now → room after ≡ size → after.count ≡ 0 → Explored m E 0 before after (Ok tt) → Lists m E size places (Err GetsNo)
  lists_no size places are l z h =
      let no' = false_from_ne_true (m.verdict E) none in
      (are ∙ ap (λ k. drop k after.places.now) (sym z) ∙ after.row.zeros ∙ ap (λ (k : ℕ). replicate {A = ℕ} k 0) (omega (arith, l, z)), rw no' refl)
    where
      none : m.verdict E ≡ true → ⊥
      none t = let k = found m.verdict E t in let c = (h o E (λ i p. p) none_yet).1 k.0 k.1 (none_in_0 k.0) in omega (arith, c.1, length-take-le after.count after.places.now after.row.high, z)

  -- refused: the cores outnumber the places
  pub lists_full : (size : ℕ) (places : List ℕ) (r : Refusal) → places ≡ replicate size 0 → room before ≡ size → Explored m E 0 before after (Err r) → Lists m E size places (Err r)
  lists_full size places r are l h =
      let cs = cores m.verdict E in
      let told : Crowded m.verdict E (room before) r = h o E (λ i p. p) none_yet in
      let many : size < length cs = omega (arith, told.1, l) in
      let first = get_or cs 0 0 in
      let yes' = yes_by_core first (cores_mem m.verdict E first (mem_from_has first cs (Contains-get_or cs 0 0 (omega (arith, many))))) in
      (are, rw yes' (many, told.0))

  -- all of them
  pub lists_all : (size : ℕ) (places : List ℕ) → places ≡ after.places.now → room after ≡ size → (after.count ≡ 0 → ⊥) → Explored m E 0 before after (Ok tt) → Lists m E size places (Ok after.count)
  lists_all size places are l ne h =
      let V = m.verdict in
      let told = h o E (λ i p. p) none_yet in
      let row = known after in
      let each : (K : ℕ) → Contains row K ↔ Core V E K = λ K. (All-contains (Core V E) row K told.0, λ c. told.1 K c (none_in_0 K)) in
      let long : length row ≡ after.count = length-take-le after.count after.places.now after.row.high in
      let count : after.count ≡ length (cores V E) = sym long ∙ ap length (listed_is V E row after.row.rising each) in
      let first = get_or row 0 0 in
      subst (λ xs. Lists m E size xs (Ok after.count)) (sym are) (
        yes_by_core first ((each first).0 (Contains-get_or row 0 0 (omega (arith, long, ne)))),
        omega (arith, count, after.row.high, l),
        l,
        record {
          counted = count;
          rising = after.row.rising;
          each = each;
          zeros = after.row.zeros;
          hitting = λ D _. (λ f K p. no_hits V law E D f K ((each K).0 p), λ p. hits_no V law E D (λ K c. p K ((each K).1 c)));
        },
      )

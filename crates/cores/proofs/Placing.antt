-- A set put into its place in a row.
use Rattle.std.proofs.Common.{◌≡◌, ℕ, zero, suc, ◌+◌, ◌-◌, ◌^◌, ◌<◌, ◌≤◌, Bool, true, false, cond, ltb, List, [], ◌∷◌, ◌++◌, length, get_or, take, drop, set, replicate, All, Contains, sym, refl, ap, ◌∙◌, subst, one-add, arith}
use lib.Seq.{paste}
use Rattle.std.specs.List.{prefix_len, insert}
use Rattle.std.proofs.lemmas.List.Elements.{All-nil, All-cons, All-head, All-tail, All-weaker, All-contains, All-contains_itself}
use Rattle.std.proofs.lemmas.List.{take_at, drop_at, take_more, take-take, length-take-le, length-append, length-drop, append_assoc, set_at, drop-drop, drop-replicate}
use Rattle.std.proofs.lemmas.Slice.{between_is}
use Rattle.std.proofs.lemmas.List.Sums.{prefix_len_is}
use Rattle.std.proofs.lemmas.List.Sorted.{IsPartitionedBy-ltb}
use Rattle.std.specs.List.Sorted.{IsNonDecreasing, IsPartitionedBy, IsPartitionPoint}
use Rattle.std.proofs.lemmas.Bool.{ltb-true, ltb-false}
use Rattle.itemset.specs.Lists.{Rising}
use Rattle.cores.specs.Rows.{Row, placed}

-- ---- what the code does

placed_is : (x : ℕ) (row : List ℕ) → placed x row ≡ insert row (prefix_len (λ y. ltb y x) row) x
placed_is x [] = refl
placed_is x (y ∷ ys) = go (ltb y x) (prefix_len (λ z. ltb z x) ys) (placed_is x ys)
  where
    go : (b : Bool) (n : ℕ) → placed x ys ≡ insert ys n x → cond b (y ∷ placed x ys) (x ∷ y ∷ ys) ≡ insert (y ∷ ys) (cond b (1 + n) 0) x
    go true n ih = ap (λ zs. y ∷ zs) ih ∙ ap (λ k. insert (y ∷ ys) k x) (sym (one-add n))
    go false n ih = refl

-- the places from `at` on moved by one, and x put there
shifted : (xs : List ℕ) (at count x : ℕ) → at ≤ count → count < length xs → set (paste xs (at + 1) (drop at xs) (count - at)) at x ≡ insert (take count xs) at x ++ drop (count + 1) xs
shifted xs at count x le lt =
    let n = count - at in
    let rest = drop (count + 1) xs in
    let mid = take n (drop at xs) in
    let y = get_or xs at 0 in
    let long : length (take at xs) ≡ at = length-take-le at xs (omega arith) in
    let first : take (at + 1) xs ≡ take at xs ++ y ∷ [] = take_more xs at 0 (omega arith) in
    let past : drop (at + 1 + n) xs ≡ rest = ap (λ k. drop k xs) (omega arith) in
    let whole : paste xs (at + 1) (drop at xs) n ≡ take at xs ++ y ∷ (mid ++ rest) =
    ap (λ zs. (take (at + 1) xs ++ mid) ++ zs) past ∙ ap (λ zs. (zs ++ mid) ++ rest) first ∙ append_assoc (take at xs ++ y ∷ []) mid rest ∙ append_assoc (take at xs) (y ∷ []) (mid ++ rest) in
    ap (λ zs. set zs at x) whole ∙ set_at (take at xs) y (mid ++ rest) x at long ∙ sym (append_assoc (take at xs) (x ∷ mid) rest)
    ∙ ap (λ zs. (zs ++ x ∷ mid) ++ rest) (sym (take-take at count xs le)) ∙ ap (λ zs. (take at (take count xs) ++ x ∷ zs) ++ rest) (between_is xs at count)

-- a rising row is one that a search by halves is for
rising_ordered : (row : List ℕ) → Rising row → IsNonDecreasing row
rising_ordered [] r i j d le lt = absurd (omega arith)
rising_ordered (x ∷ xs) r zero zero d le lt = omega arith
rising_ordered (x ∷ xs) r zero (suc j) d le lt = let h = r.0 j d (omega arith) in omega arith
rising_ordered (x ∷ xs) r (suc i) zero d le lt = absurd (omega arith)
rising_ordered (x ∷ xs) r (suc i) (suc j) d le lt = rising_ordered xs r.1 i j d (omega arith) (omega arith)

-- what `partition_point` asks, and where it finds that x belongs
pub rising_parted : (x : ℕ) (row : List ℕ) → Rising row → IsPartitionedBy (λ y. ltb y x) row
rising_parted x row r = IsPartitionedBy-ltb (λ y. y) row x (rising_ordered row r)

point_is : (x at : ℕ) (row : List ℕ) → at ≤ length row → IsPartitionPoint (λ y. ltb y x ≡ true) (λ y. ltb y x ≡ false) row at → at ≡ prefix_len (λ y. ltb y x) row
point_is x at row le h = sym (prefix_len_is (λ y. ltb y x) row at 0 le (λ k lt. h.0 k 0 (omega arith) lt) (λ lt. h.1 at 0 (omega arith) lt))

pub put_is : (xs ys : List ℕ) (at count x : ℕ) → count < length xs → at ≤ length (take count xs) → IsPartitionPoint (λ y. ltb y x ≡ true) (λ y. ltb y x ≡ false) (take count xs) at → ys ≡ paste xs (at + 1) (drop at xs) (count - at) → set ys at x ≡ placed x (take count xs) ++ drop (count + 1) xs
put_is xs ys at count x lt le h f =
    ap (λ zs. set zs at x) f ∙ shifted xs at count x (omega (arith, le, length-take-le count xs (omega arith))) lt
    ∙ ap (λ k. insert (take count xs) k x ++ drop (count + 1) xs) (point_is x at (take count xs) le h) ∙ ap (λ zs. zs ++ drop (count + 1) xs) (sym (placed_is x (take count xs)))

-- ---- what the row has then

pub all_placed : (P : ℕ → Type 0) (x : ℕ) (row : List ℕ) → P x → All P row → All P (placed x row)
all_placed P x [] p a = All-cons P x [] p a
all_placed P x (y ∷ ys) p a = go (ltb y x) (all_placed P x ys p (All-tail P y ys a))
  where
    go : (b : Bool) → All P (placed x ys) → All P (cond b (y ∷ placed x ys) (x ∷ y ∷ ys))
    go true h = All-cons P y (placed x ys) (All-head P y ys a) h
    go false h = All-cons P x (y ∷ ys) p a

pub length_placed : (x : ℕ) (row : List ℕ) → length (placed x row) ≡ length row + 1
length_placed x [] = refl
length_placed x (y ∷ ys) = go (ltb y x) (length_placed x ys)
  where
    go : (b : Bool) → length (placed x ys) ≡ length ys + 1 → length (cond b (y ∷ placed x ys) (x ∷ y ∷ ys)) ≡ length (y ∷ ys) + 1
    go true h = omega arith
    go false h = omega arith

pub rising_placed : (x : ℕ) (row : List ℕ) → Rising row → All (λ y. y ≡ x → ⊥) row → Rising (placed x row)
rising_placed x [] r new = (All-nil (λ y. x < y), tt)
rising_placed x (y ∷ ys) r new = go (ltb y x) refl (rising_placed x ys r.1 (All-tail (λ z. z ≡ x → ⊥) y ys new))
  where
    go : (b : Bool) → ltb y x ≡ b → Rising (placed x ys) → Rising (cond b (y ∷ placed x ys) (x ∷ y ∷ ys))
    go true e k = (all_placed (λ z. y < z) x ys (ltb-true y x e) r.0, k)
    go false e k = let lt : x < y = omega (arith, ltb-false y x e, All-head (λ z. z ≡ x → ⊥) y ys new) in (All-cons (λ z. x < z) y ys lt (All-weaker (λ z. y < z) (λ z. x < z) (λ z h. omega arith) ys r.0), r)

of_placed : (P : ℕ → Type 0) (x : ℕ) (row : List ℕ) → All P (placed x row) → P x × All P row
of_placed P x [] a = (All-head P x [] a, All-nil P)
of_placed P x (y ∷ ys) a = go (ltb y x) (of_placed P x ys) a
  where
    go : (b : Bool) → (All P (placed x ys) → P x × All P ys) → All P (cond b (y ∷ placed x ys) (x ∷ y ∷ ys)) → P x × All P (y ∷ ys)
    go true ih k = let h = ih (All-tail P y (placed x ys) k) in (h.0, All-cons P y ys (All-head P y (placed x ys) k) h.1)
    go false ih k = (All-head P x (y ∷ ys) k, All-tail P x (y ∷ ys) k)

pub placed_has : (x : ℕ) (row : List ℕ) → Contains (placed x row) x
placed_has x row = (of_placed (Contains (placed x row)) x row (All-contains_itself (placed x row))).0

pub placed_keeps : (x K : ℕ) (row : List ℕ) → Contains row K → Contains (placed x row) K
placed_keeps x K row = All-contains (Contains (placed x row)) row K (of_placed (Contains (placed x row)) x row (All-contains_itself (placed x row))).1

-- ---- the places

module _ (count x : ℕ) (xs ys : List ℕ) (r : Row count xs) (room : count < length xs) (is : ys ≡ placed x (take count xs) ++ drop (count + 1) xs) where
  many : length (placed x (take count xs)) ≡ count + 1
  many = length_placed x (take count xs) ∙ ap (λ k. k + 1) (length-take-le count xs r.high)

  pub front_is : take (count + 1) ys ≡ placed x (take count xs)
  front_is = ap (take (count + 1)) is ∙ take_at (placed x (take count xs)) (drop (count + 1) xs) (count + 1) many

  long : length ys ≡ length xs
  long = ap length is ∙ length-append (placed x (take count xs)) (drop (count + 1) xs) ∙ omega (arith, many, length-drop (count + 1) xs)

  behind : drop (count + 1) xs ≡ replicate (length xs - (count + 1)) 0
  behind = sym (drop-drop 1 count xs) ∙ ap (drop 1) r.zeros ∙ drop-replicate 1 (length xs - count) 0 ∙ ap (λ k. replicate k 0) (omega arith)

  pub row_more : x < 2 ^ 31 → All (λ y. y ≡ x → ⊥) (take count xs) → Row (count + 1) ys
  row_more small new = record {
    high = omega (arith, long);
    rising = subst Rising (sym front_is) (rising_placed x (take count xs) r.rising new);
    below = subst (All (λ K. K < 2 ^ 31)) (sym front_is) (all_placed (λ K. K < 2 ^ 31) x (take count xs) small r.below);
    zeros = ap (drop (count + 1)) is ∙ drop_at (placed x (take count xs)) (drop (count + 1) xs) (count + 1) many ∙ behind ∙ ap (λ k. replicate (k - (count + 1)) 0) (sym long);
  }

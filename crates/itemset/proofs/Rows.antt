-- Rising lists of numbers, by their members.
use Rattle.std.proofs.Common.{◌≡◌, ℕ, zero, suc, ◌+◌, ◌<◌, ◌≤◌, Bool, true, false, cond, ◌⊎◌, List, [], ◌∷◌, length, get_or, All, Contains, filter, sym, refl, ap, ◌∙◌, subst, ap₂, inl, inr, ⊎_elim, suc-le-suc, zero-le, le_of_suc-le-suc, arith}
use Rattle.std.specs.List.{range_with_len}
use Rattle.std.proofs.lemmas.List.Elements.{All-nil, All-cons, All-head, All-tail}
use Rattle.std.proofs.lemmas.Bool.{cases_eq}
use Rattle.itemset.specs.Lists.{Rising}
use Rattle.itemset.specs.Laws.{RisingLe, RisingSame}

-- ---- members

abbrev pub Mem : ℕ → List ℕ → Type 0
Mem x [] = ⊥
Mem x (y ∷ ys) = (x ≡ y) ⊎ Mem x ys

pub has_from_mem : (x : ℕ) (xs : List ℕ) → Mem x xs → Contains xs x
has_from_mem x [] m = absurd m
has_from_mem x (y ∷ ys) (inl e) = (0, suc-le-suc zero-le, sym e)
has_from_mem x (y ∷ ys) (inr m) = let h = has_from_mem x ys m in (suc h.0, suc-le-suc h.1, h.2)

pub mem_from_has : (x : ℕ) (xs : List ℕ) → Contains xs x → Mem x xs
mem_from_has x [] h = absurd (omega (arith, h.1))
mem_from_has x (y ∷ ys) h = go (mem_from_has x ys) h.0 h.1 h.2
  where
    go : (Contains ys x → Mem x ys) → (k : ℕ) → k < suc (length ys) → get_or (y ∷ ys) k x ≡ x → Mem x (y ∷ ys)
    go rest zero p e = inl (sym e)
    go rest (suc k) p e = inr (rest (k, le_of_suc-le-suc p, e))

pub all_mem : (P : ℕ → Type 0) (xs : List ℕ) (x : ℕ) → All P xs → Mem x xs → P x
all_mem P [] x a m = absurd m
all_mem P (y ∷ ys) x a (inl e) = subst P (sym e) (All-head P y ys a)
all_mem P (y ∷ ys) x a (inr m) = all_mem P ys x (All-tail P y ys a) m

-- ---- two rising lists

pub mem_le : (xs ys : List ℕ) → Rising xs → Rising ys → ((x : ℕ) → Mem x xs → Mem x ys) → length xs ≤ length ys
mem_le [] ys rx ry f = zero-le
mem_le (x ∷ xs) [] rx ry f = absurd (f x (inl refl))
mem_le (x ∷ xs) (y ∷ ys) rx ry f =
    ⊎_elim
    (λ e. suc-le-suc (mem_le xs ys rx.1 ry.1 (λ z m. ⊎_elim (λ ez. absurd (lower z m (ez ∙ sym e))) (λ k. k) (f z (inr m)))))
    (λ m. let h : length (x ∷ xs) ≤ length ys = mem_le (x ∷ xs) ys rx ry.1 (λ z mz. ⊎_elim (λ ez. absurd (beyond z mz ez m)) (λ k. k) (f z mz)) in omega arith)
    (f x (inl refl))
  where
    lower : (z : ℕ) → Mem z xs → z ≡ x → ⊥
    lower z m e = omega (arith, all_mem (λ w. x < w) xs z rx.0 m, e)

    beyond : (z : ℕ) → Mem z (x ∷ xs) → z ≡ y → Mem x ys → ⊥
    beyond z (inl e) ez m = omega (arith, all_mem (λ w. y < w) ys x ry.0 m, e, ez)
    beyond z (inr k) ez m = omega (arith, all_mem (λ w. y < w) ys x ry.0 m, all_mem (λ w. x < w) xs z rx.0 k, ez)

pub mem_same : (xs ys : List ℕ) → Rising xs → Rising ys → ((x : ℕ) → Mem x xs → Mem x ys) → ((y : ℕ) → Mem y ys → Mem y xs) → xs ≡ ys
mem_same [] [] rx ry f g = refl
mem_same [] (y ∷ ys) rx ry f g = absurd (g y (inl refl))
mem_same (x ∷ xs) [] rx ry f g = absurd (f x (inl refl))
mem_same (x ∷ xs) (y ∷ ys) rx ry f g =
    let e : x ≡ y = heads (f x (inl refl)) (g y (inl refl)) in
    ap₂ ◌∷◌ e (mem_same xs ys rx.1 ry.1 (λ z m. ⊎_elim (λ ez. absurd (above x xs z rx.0 m (ez ∙ sym e))) (λ k. k) (f z (inr m))) (λ z m. ⊎_elim (λ ez. absurd (above y ys z ry.0 m (ez ∙ e))) (λ k. k) (g z (inr m))))
  where
    above : (a : ℕ) (bs : List ℕ) (z : ℕ) → All (λ w. a < w) bs → Mem z bs → z ≡ a → ⊥
    above a bs z all m e = omega (arith, all_mem (λ w. a < w) bs z all m, e)

    heads : (x ≡ y) ⊎ Mem x ys → (y ≡ x) ⊎ Mem y xs → x ≡ y
    heads (inl e) r = e
    heads (inr m) (inl e) = sym e
    heads (inr m) (inr k) = absurd (omega (arith, all_mem (λ w. y < w) ys x ry.0 m, all_mem (λ w. x < w) xs y rx.0 k))

-- ---- what a filter keeps of the numbers in turn

all_at : (P Q : ℕ → Type 0) → ((x : ℕ) → P x → Q x) → (xs : List ℕ) → All P xs → All Q xs
all_at P Q f xs a = λ k d lt. f (get_or xs k d) (a k d lt)

all_kept : (p : ℕ → Bool) (P : ℕ → Type 0) (xs : List ℕ) → All P xs → All P (filter p xs)
all_kept p P [] a = All-nil P
all_kept p P (x ∷ xs) a = go (p x) (all_kept p P xs (All-tail P x xs a))
  where
    go : (b : Bool) → All P (filter p xs) → All P (cond b (x ∷ filter p xs) (filter p xs))
    go true r = All-cons P x (filter p xs) (All-head P x xs a) r
    go false r = r

pub rising_kept : (p : ℕ → Bool) (xs : List ℕ) → Rising xs → Rising (filter p xs)
rising_kept p [] r = tt
rising_kept p (x ∷ xs) r = go (p x) (rising_kept p xs r.1)
  where
    go : (b : Bool) → Rising (filter p xs) → Rising (cond b (x ∷ filter p xs) (filter p xs))
    go true k = (all_kept p (λ y. x < y) xs r.0, k)
    go false k = k

from_on : (a b n : ℕ) → a ≤ b → All (λ y. a ≤ y) (range_with_len b n)
from_on a b zero h = All-nil (λ y. a ≤ y)
from_on a b (suc n) h = All-cons (λ y. a ≤ y) b (range_with_len (b + 1) n) h (from_on a (b + 1) n (omega arith))

pub rising_counting : (a n : ℕ) → Rising (range_with_len a n)
rising_counting a zero = tt
rising_counting a (suc n) = (all_at (λ y. a + 1 ≤ y) (λ y. a < y) (λ y h. omega arith) (range_with_len (a + 1) n) (from_on (a + 1) (a + 1) n (omega arith)), rising_counting (a + 1) n)

pub mem_counting : (a n x : ℕ) → a ≤ x → x < a + n → Mem x (range_with_len a n)
mem_counting a zero x h k = absurd (omega arith)
mem_counting a (suc n) x h k = ⊎_elim inl (λ ne. inr (mem_counting (a + 1) n x (omega (arith, ne)) (omega arith))) (cases_eq x a)

pub mem_kept : (p : ℕ → Bool) (xs : List ℕ) (x : ℕ) → Mem x xs → p x ≡ true → Mem x (filter p xs)
mem_kept p [] x m t = m
mem_kept p (y ∷ ys) x (inl e) t = go (p y) (ap p (sym e) ∙ t)
  where
    go : (b : Bool) → b ≡ true → Mem x (cond b (y ∷ filter p ys) (filter p ys))
    go true h = inl e
    go false h = absurd (mathlib.Core.Bool.false≢true h)
mem_kept p (y ∷ ys) x (inr m) t = go (p y) (mem_kept p ys x m t)
  where
    go : (b : Bool) → Mem x (filter p ys) → Mem x (cond b (y ∷ filter p ys) (filter p ys))
    go true k = inr k
    go false k = k

pub kept_passes : (p : ℕ → Bool) (xs : List ℕ) (x : ℕ) → Mem x (filter p xs) → p x ≡ true
kept_passes p [] x m = absurd m
kept_passes p (y ∷ ys) x m = go (p y) refl (kept_passes p ys x) m
  where
    go : (b : Bool) → p y ≡ b → (Mem x (filter p ys) → p x ≡ true) → Mem x (cond b (y ∷ filter p ys) (filter p ys)) → p x ≡ true
    go true h rest (inl e) = ap p e ∙ h
    go true h rest (inr k) = rest k
    go false h rest k = rest k

-- ---- the laws, of what `Contains` says

pub rising_le : RisingLe
rising_le xs ys p q f = mem_le xs ys p q (λ x m. mem_from_has x ys (f x (has_from_mem x xs m)))

pub rising_same : RisingSame
rising_same xs ys p q f = mem_same xs ys p q (λ x m. mem_from_has x ys ((f x).0 (has_from_mem x xs m))) (λ y m. mem_from_has y xs ((f y).1 (has_from_mem y ys m)))

-- What the operations on words of k bits give.
use Rattle.std.proofs.Common.{◌≡◌, ℕ, zero, suc, ◌+◌, ◌-◌, ◌*◌, ◌/◌, ◌%◌, ◌^◌, ◌<◌, ◌≤◌, min, Bool, true, false, cond, eqb, List, ◌∷◌, length, filter, sym, refl, ap, ◌∙◌, ⊎_elim, zero-le, pow-suc, add-one, arith}
use lib.Bits.{bit_and, and_step, and_mask}
use lib.Count.{ones, ones_step, count_trailing_zeros, under}
use Rattle.std.specs.List.{range_with_len}
use Rattle.std.proofs.lemmas.Nat.{one_shl, pow_below}
use Rattle.std.proofs.lemmas.Bool.{ne_eqb}
use Rattle.itemset.specs.Sets.{◌∈◌, less, full, has, members, Lowest}
use Rattle.itemset.specs.Laws.{AndNot, LowestIs, OnesAre}
use Rattle.itemset.proofs.Members.{shr_half, less_half, less_odd, digit, in_or_out, below, in_one, in_less, same_members, decides_has}

-- ---- `s & !d`

pub and_not : AndNot
and_not zero s d p q = let z : s ≡ 0 = omega arith in ap (λ (x : ℕ). bit_and x (1 - 1 - d)) z ∙ sym (ap (λ (x : ℕ). less x d) z)
and_not (suc k) s d p q =
    let n = 2 ^ suc k - 1 - d in
    let two : 2 ^ suc k ≡ 2 ^ k * 2 = pow-suc 2 k in
    let half : n / 2 ≡ 2 ^ k - 1 - d / 2 = omega (arith, two, q) in
    let odd : n % 2 ≡ 1 - d % 2 = omega (arith, two, q) in
    let ih : bit_and (s / 2) (2 ^ k - 1 - d / 2) ≡ less (s / 2) (d / 2) = and_not k (s / 2) (d / 2) (omega (arith, two, p)) (omega (arith, two, q)) in
    let step : bit_and s n ≡ bit_and (s / 2) (n / 2) * 2 + min (s % 2) (n % 2) = and_step s n in
    let inner : bit_and (s / 2) (n / 2) ≡ less (s / 2) (d / 2) = ap (bit_and (s / 2)) half ∙ ih in
    let lh : less s d / 2 ≡ less (s / 2) (d / 2) = less_half s d in
    let lo : less s d % 2 ≡ s % 2 - min (s % 2) (d % 2) = less_odd s d in
    digits (bit_and s n) (less s d) (bit_and (s / 2) (n / 2)) (s % 2) (n % 2) (d % 2) step (inner ∙ sym lh) odd (digit s) (digit d) lo
  where
    digits : (x y h a b c : ℕ) → x ≡ h * 2 + min a b → h ≡ y / 2 → b ≡ 1 - c → a < 2 → c < 2 → y % 2 ≡ a - min a c → x ≡ y
    digits x y h a b c p q r s t u = omega arith

-- ---- the lowest member

low_next : (s i : ℕ) → s % 2 ≡ 0 → Lowest (s / 2) i → Lowest s (suc i)
low_next s i even l = record { member = ap (λ (x : ℕ). x % 2) (shr_half s i) ∙ l.member; least = least }
  where
    least : (j : ℕ) → j ∈ s → suc i ≤ j
    least zero m = let d : s / 1 % 2 ≡ 1 = m in absurd (omega arith)
    least (suc j) m = let h = l.least j (ap (λ (x : ℕ). x % 2) (sym (shr_half s j)) ∙ m) in omega arith

by_digit : (k s d t : ℕ) → s % 2 ≡ d → s % 2 < 2 → (s ≡ 0 → ⊥) → s < 2 ^ suc k → ((s / 2 ≡ 0 → ⊥) → s / 2 < 2 ^ k → Lowest (s / 2) t) → Lowest s (under d t)
by_digit k s zero t e l ne h ih = low_next s t e (ih (λ z. ne (omega arith)) (let two = pow-suc 2 k in omega arith))
by_digit k s (suc zero) t e l ne h ih = record { member = omega arith; least = λ j m. zero-le }
by_digit k s (suc (suc d)) t e l ne h ih = absurd (omega arith)

pub lowest_is : LowestIs
unfolding count_trailing_zeros
lowest_is zero s ne h = absurd (ne (omega arith))
lowest_is (suc k) s ne h = by_digit k s (s % 2) (count_trailing_zeros k (s / 2)) refl (digit s) ne h (λ ne' h'. lowest_is k (s / 2) ne' h')

-- ---- the count of members

-- the members from a on are those of the rest of the digits
kept_shift : (s n a : ℕ) → length (filter (λ i. has i s) (range_with_len (a + 1) n)) ≡ length (filter (λ i. has i (s / 2)) (range_with_len a n))
kept_shift s zero a = refl
kept_shift s (suc n) a = go (has (a + 1) s) (has a (s / 2)) same (kept_shift s n (a + 1))
  where
    same : has (a + 1) s ≡ has a (s / 2)
    same = ap (λ (x : ℕ). eqb (x % 2) 1) (ap (λ (k : ℕ). s / 2 ^ k) (add-one a) ∙ shr_half s a)

    go : (x y : Bool) → x ≡ y → length (filter (λ i. has i s) (range_with_len (a + 1 + 1) n)) ≡ length (filter (λ i. has i (s / 2)) (range_with_len (a + 1) n))
        → length (cond x ((a + 1) ∷ filter (λ i. has i s) (range_with_len (a + 1 + 1) n)) (filter (λ i. has i s) (range_with_len (a + 1 + 1) n)))
        ≡ length (cond y (a ∷ filter (λ i. has i (s / 2)) (range_with_len (a + 1) n)) (filter (λ i. has i (s / 2)) (range_with_len (a + 1) n)))
    go true true e h = ap suc h
    go false false e h = h
    go true false e h = absurd (Rattle.std.proofs.lemmas.Bool.true≢false e)
    go false true e h = absurd (Rattle.std.proofs.lemmas.Bool.false≢true e)

ones_none : ones 0 ≡ 0
unfolding ones
ones_none = refl

pub ones_are : OnesAre
unfolding members
ones_are zero s h = let z : s ≡ 0 = omega arith in ap ones z ∙ ones_none
ones_are (suc k) s h =
    let ih : ones (s / 2) ≡ length (members k (s / 2)) = ones_are k (s / 2) (let two = pow-suc 2 k in omega arith) in
    first (has 0 s) refl (filter (λ i. has i s) (range_with_len (0 + 1) k)) (ih ∙ sym (kept_shift s k 0))
  where
    first : (b : Bool) → has 0 s ≡ b → (rest : List ℕ) → ones (s / 2) ≡ length rest → ones s ≡ length (cond b (0 ∷ rest) rest)
    first true e rest r = let m : s / 1 % 2 ≡ 1 = (decides_has 0 s).0 e in omega (arith, ones_step s, r)
    first false e rest r = ⊎_elim (λ m. absurd (Rattle.std.proofs.lemmas.Bool.both_ways (has 0 s) e ((decides_has 0 s).1 m))) (λ m. let z : s / 1 % 2 ≡ 0 = m in omega (arith, ones_step s, r)) (in_or_out 0 s)

-- ---- the code's forms

pub has_code : (i s : ℕ) → eqb (bit_and (s / 2 ^ i) 1) 1 ≡ has i s
has_code i s = ap (λ (x : ℕ). eqb x 1) (and_mask (s / 2 ^ i) 1)

-- nothing from k upward lies in a word of k bits
pub has_beyond : (k i s : ℕ) → s < 2 ^ k → k ≤ i → has i s ≡ false
has_beyond k i s h up = ne_eqb (s / 2 ^ i % 2) 1 (λ m. let lt = (below k s).0 h i m in omega arith)

pub less_beyond : (k i s : ℕ) → s < 2 ^ k → k ≤ i → s ≡ less s (2 ^ i)
less_beyond k i s h up = same_members s (less s (2 ^ i)) (λ j m. (in_less j s (2 ^ i)).1 (m, λ o. let lt = (below k s).0 h j m in let e = (in_one j i).0 o in omega arith)) (λ j m. ((in_less j s (2 ^ i)).0 m).0)

pub less_code : (k i s : ℕ) → s < 2 ^ k → i < k → bit_and s (2 ^ k - 1 - (1 * 2 ^ i) % 2 ^ k) ≡ less s (2 ^ i)
less_code k i s h lt = ap (λ (x : ℕ). bit_and s (2 ^ k - 1 - x)) (one_shl i k lt) ∙ and_not k s (2 ^ i) h (pow_below i k lt)

pub full_code : (k n : ℕ) → n < k → (1 * 2 ^ n) % 2 ^ k - 1 ≡ full n
full_code k n lt = ap (λ (x : ℕ). x - 1) (one_shl n k lt)

-- ---- with no width: a number has no more bits than itself

pub below_itself : (n : ℕ) → n < 2 ^ n
below_itself zero = omega arith
below_itself (suc n) = let h = below_itself n in let e = pow-suc 2 n in omega arith

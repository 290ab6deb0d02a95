-- Steps of a reading, for the loops and the exits of the code.
use Rattle.std.proofs.Common.{◌≡◌, ℕ, suc, ◌+◌, ◌-◌, ◌<◌, ◌≤◌, Bool, true, false, cond, ltb, List, [], ◌∷◌, ◌++◌, length, get_or, take, drop, IsErrAnd, IfErr, Ok, Err, Result, sym, refl, ap, ◌∙◌, append_assoc, append-nil, arith, length-drop}
use Rattle.std.proofs.lemmas.List.{take_more, get_or-drop}
use Rattle.std.proofs.lemmas.Bool.{ltb-true}
use Rattle.base.specs.declared.refusal.Refusal.{Refusal}
use Rattle.base.specs.Refusals.{number, index}
use Rattle.base.specs.Readers.{told}
use Rattle.base.specs.Sheets.{Read, got, stop, and_then, word, passing, many}

-- ---- one part after another

-- what was got goes on
pub then_got : {X Y : Type 0} {r : Read X} {x : X} {j : ℕ} (h : X → ℕ → Read Y) → r ≡ got x j → and_then r h ≡ h x j
then_got h e = ap (λ s. and_then s h) e

-- a refusal ends the reading
pub then_stop : {X Y : Type 0} {r : Read X} {n k : ℕ} (h : X → ℕ → Read Y) → r ≡ stop n k → and_then r h ≡ stop n k
then_stop h e = ap (λ s. and_then s h) e

-- a reading that came to something, part by part
pub then_split : {X Y : Type 0} (r : Read X) (h : X → ℕ → Read Y) (y : Y) (k : ℕ) → and_then r h ≡ got y k → (x : X) × (j : ℕ) × (r ≡ got x j) × (h x j ≡ got y k)
then_split (got x j) h y k e = (x, j, refl, e)
then_split (stop n p) h y k e = let z : ◌≡◌ {A = ℕ} 0 1 = cc in absurd (omega arith)

pub cond_split : {X : Type 0} (b : Bool) (x y : X) (i j n p : ℕ) → cond b (got x i) (stop n p) ≡ got y j → (b ≡ true) × (x ≡ y) × (i ≡ j)
cond_split true x y i j n p e = (refl, cc, cc)
cond_split false x y i j n p e = let z : ◌≡◌ {A = ℕ} 0 1 = cc in absurd (omega arith)

pub got_same : {X : Type 0} {x y : X} {i j : ℕ} → got x i ≡ got y j → (x ≡ y) × (i ≡ j)
got_same e = (cc, cc)

-- the exit of `?`
pub told_break : {X Y : Type 0} (view : Y → X) (r : Result Y Refusal) (f : Refusal) (i : ℕ) → IsErrAnd r (λ d. d ≡ f) → told view r i ≡ stop (number f) (index f)
told_break view (Ok y) f i b = absurd b
told_break view (Err d) f i b = ap (λ g. stop (number g) (index g)) b

-- and where the reader then stands
pub stays_break : {Y : Type 0} (r : Result Y Refusal) (f : Refusal) (at : ℕ) → IsErrAnd r (λ d. d ≡ f) → at ≡ index f → IfErr r (λ d. at ≡ index d)
stays_break (Ok y) f at b e = absurd b
stays_break (Err d) f at b e = e ∙ ap index (sym b)

-- ---- a word that passes its test

pub passing_step : (test : ℕ → Bool) (n : ℕ) (ws : List ℕ) (i j w : ℕ) → passing test n ws i ≡ got w j
    → (w ≡ get_or ws i 0) × (j ≡ i + 1) × (i < length ws) × (test w ≡ true)
passing_step test n ws i j w e =
    let p = then_split (word ws i) _ w j e in
    let q = cond_split (ltb i (length ws)) (get_or ws i 0) p.0 (i + 1) p.1 1 i p.2 in
    let s = cond_split (test p.0) p.0 w p.1 j n i p.3 in
    (sym (q.1 ∙ s.1), sym (q.2 ∙ s.2), ltb-true i (length ws) q.0, ap test (sym s.1) ∙ s.0)

-- ---- a loop over many parts

-- what was read so far stands in front
abbrev pub behind : {X : Type 0} → List X → Read (List X) → Read (List X)
behind xs (got ys i) = got (xs ++ ys) i
behind xs (stop n k) = stop n k

module _ {X : Type 0} (part : ℕ → Read X) where
  behind_step : (xs : List X) (x : X) (r : Read (List X)) → behind xs (and_then r (λ ys k. got (x ∷ ys) k)) ≡ behind (xs ++ (x ∷ [])) r
  behind_step xs x (got ys k) = ap (λ zs. got zs k) (sym (append_assoc xs (x ∷ []) ys))
  behind_step xs x (stop n k) = refl

  step_of : (xs : List X) (n k i : ℕ) → k < n → behind xs (many part (n - k) i) ≡ behind xs (many part (suc (n - (k + 1))) i)
  step_of xs n k i l = let s : n - k ≡ suc (n - (k + 1)) = omega arith in ap (λ m. behind xs (many part m i)) s

  pub many_more : (xs : List X) (x : X) (n k i j : ℕ) → k < n → part i ≡ got x j
      → behind xs (many part (n - k) i) ≡ behind (xs ++ (x ∷ [])) (many part (n - (k + 1)) j)
  many_more xs x n k i j l e =
      step_of xs n k i l
      ∙ ap (λ r. behind xs (and_then r (λ y l. and_then (many part (n - (k + 1)) l) (λ ys h. got (y ∷ ys) h)))) e
      ∙ behind_step xs x (many part (n - (k + 1)) j)

  pub many_stop : (xs : List X) (n k i m h : ℕ) → k < n → part i ≡ stop m h → behind xs (many part (n - k) i) ≡ stop m h
  many_stop xs n k i m h l e =
      step_of xs n k i l ∙ ap (λ r. behind xs (and_then r (λ y l. and_then (many part (n - (k + 1)) l) (λ ys h. got (y ∷ ys) h)))) e

  pub many_all : (xs : List X) (n k i : ℕ) → n ≤ k → behind xs (many part (n - k) i) ≡ got xs i
  many_all xs n k i l = let s : n - k ≡ 0 = omega arith in ap (λ m. behind xs (many part m i)) s ∙ ap (λ ys. got ys i) (append-nil xs)

  pub many_none : (n i : ℕ) → behind [] (many part (n - 0) i) ≡ many part n i
  many_none n i = let s : n - 0 ≡ n = omega arith in ap (λ m. behind [] (many part m i)) s ∙ go (many part n i)
    where
      go : (r : Read (List X)) → behind [] r ≡ r
      go (got ys k) = refl
      go (stop m k) = refl

-- one word more of the slice that was read
pub slice_more : (ws : List ℕ) (start k w : ℕ) → start + k < length ws → w ≡ get_or ws (start + k) 0 → take (k + 1) (drop start ws) ≡ take k (drop start ws) ++ (w ∷ [])
slice_more ws start k w l e =
    take_more (drop start ws) k 0 (let h = length-drop start ws in omega arith)
    ∙ ap (λ x. take k (drop start ws) ++ (x ∷ [])) (get_or-drop start ws k 0 ∙ sym e)

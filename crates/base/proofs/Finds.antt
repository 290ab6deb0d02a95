-- What stands in the words is read.
use Rattle.std.proofs.Common.{◌≡◌, ℕ, suc, ◌+◌, ◌<◌, ◌≤◌, Bool, true, ltb, List, [], ◌∷◌, ◌++◌, length, get_or, drop, sym, refl, ap, ◌∙◌, append_assoc, arith, length-drop}
use Rattle.std.specs.List.{flat_map}
use Rattle.std.proofs.lemmas.List.{drop_more}
use Rattle.std.proofs.lemmas.Bool.{lt-ltb, le-ltb, and_parts, cond-true, cond-false}
use Rattle.base.specs.Outcomes.{accepted, refused}
use Rattle.base.specs.Sheets.{Read, got, stop, passing, many, whole, all_of}
use Rattle.base.proofs.Reading.{then_got}
use Rattle.base.proofs.Tells.{joined_each}

-- from index i on the words are us
abbrev pub At : List ℕ → ℕ → List ℕ → Type 0
At ws i us = (drop i ws ≡ us) × (i ≤ length ws)

-- a part reads what stands in the words, if it passes a test
abbrev pub Finds : {X : Type 0} → List ℕ → (X → List ℕ) → (X → Bool) → (ℕ → Read X) → Type 0
Finds {X} ws u ok part = (i : ℕ) (x : X) (us : List ℕ) → ok x ≡ true → At ws i (u x ++ us) → (j : ℕ) × (part i ≡ got x j) × At ws j us

pub passing_finds : (test : ℕ → Bool) (n : ℕ) (ws : List ℕ) → Finds ws (λ w. w ∷ []) test (passing test n ws)
passing_finds test n ws i w us ok a =
    let e : length (drop i ws) ≡ suc (length us) = ap length a.0 in
    let l : i < length ws = omega (arith, length-drop i ws) in
    let m = drop_more ws i 0 l in
    let d : get_or ws i 0 ∷ drop (i + 1) ws ≡ w ∷ us = sym m ∙ a.0 in
    let g : get_or ws i 0 ≡ w = cc in
    let s : drop (i + 1) ws ≡ us = cc in (
      i + 1,
      then_got _ (cond-true (ltb i (length ws)) (got (get_or ws i 0) (i + 1)) (stop 1 i) (lt-ltb i (length ws) l) ∙ ap (λ x. got x (i + 1)) g)
          ∙ cond-true (test w) (got w (i + 1)) (stop n i) ok,
      (s, omega arith),
    )

module _ {X : Type 0} (ws : List ℕ) (u : X → List ℕ) (ok : X → Bool) (part : ℕ → Read X) (finds : Finds ws u ok part) where
  pub many_finds : (i : ℕ) (xs : List X) (us : List ℕ) → all_of ok xs ≡ true → At ws i (flat_map u xs ++ us) → (j : ℕ) × (many part (length xs) i ≡ got xs j) × At ws j us
  many_finds i [] us t a = (i, refl, a)
  many_finds i (x ∷ xs) us t a =
      let p = and_parts (ok x) (all_of ok xs) t in
      let f = finds i x (flat_map u xs ++ us) p.0 (a.0 ∙ append_assoc (u x) (flat_map u xs) us, a.1) in
      let r = many_finds f.0 xs us p.1 f.2 in
      (r.0, then_got _ f.1 ∙ then_got _ r.1, r.2)

pub words_find : (test : ℕ → Bool) (c : ℕ) (ws : List ℕ) (i : ℕ) (xs us : List ℕ) → all_of test xs ≡ true → At ws i (xs ++ us)
    → (j : ℕ) × (many (passing test c ws) (length xs) i ≡ got xs j) × At ws j us
words_find test c ws i xs us t a =
    many_finds ws (λ w. w ∷ []) test (passing test c ws) (passing_finds test c ws) i xs us t (a.0 ∙ ap (λ vs. vs ++ us) (sym (joined_each xs)), a.1)

-- a sheet that is read to its end is accepted; one that goes on is refused at the first word left over
pub whole_finds : {X : Type 0} (ws : List ℕ) (r : Read X) (x : X) (i : ℕ) → r ≡ got x i → At ws i [] → whole ws r ≡ accepted x
whole_finds ws r x i e a =
    let n : length (drop i ws) ≡ 0 = ap length a.0 in
    ap (whole ws) e ∙ cond-false (ltb i (length ws)) (refused 5 i) (accepted x) (le-ltb i (length ws) (omega (arith, length-drop i ws)))

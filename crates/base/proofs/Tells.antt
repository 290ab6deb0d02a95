-- What was read stood in the words.
use Rattle.std.proofs.Common.{◌≡◌, ℕ, zero, suc, ◌≤◌, Bool, true, false, cond, ltb, List, [], ◌∷◌, ◌++◌, length, drop, sym, refl, ap, ◌∙◌, subst, ap₂, append_assoc, arith}
use Rattle.std.specs.List.{flat_map}
use Rattle.std.proofs.lemmas.List.{drop_more, drop_all}
use Rattle.std.proofs.lemmas.Bool.{and_from, ltb-false}
use Rattle.base.specs.Outcomes.{accepted, refused}
use Rattle.base.specs.Sheets.{Read, got, stop, passing, many, whole, all_of}
use Rattle.base.proofs.Reading.{then_split, got_same, passing_step}

-- a part says what stood there, and that it passed a test
abbrev pub Tells : {X : Type 0} → List ℕ → (X → List ℕ) → (X → Bool) → (ℕ → Read X) → Type 0
Tells {X} ws u ok part = (i j : ℕ) (x : X) → part i ≡ got x j → (drop i ws ≡ u x ++ drop j ws) × (ok x ≡ true)

pub passing_tells : (test : ℕ → Bool) (n : ℕ) (ws : List ℕ) → Tells ws (λ w. w ∷ []) test (passing test n ws)
passing_tells test n ws i j w e =
    let p = passing_step test n ws i j w e in
    (drop_more ws i 0 p.2 ∙ ap₂ (λ x k. x ∷ drop k ws) (sym p.0) (sym p.1), p.3)

module _ {X : Type 0} (ws : List ℕ) (u : X → List ℕ) (ok : X → Bool) (part : ℕ → Read X) (tells : Tells ws u ok part) where
  pub many_tells : (n i j : ℕ) (xs : List X) → many part n i ≡ got xs j → (drop i ws ≡ flat_map u xs ++ drop j ws) × (all_of ok xs ≡ true) × (length xs ≡ n)
  many_tells zero i j xs e =
      let p = got_same e in
      subst (λ ys. (drop i ws ≡ flat_map u ys ++ drop j ws) × (all_of ok ys ≡ true) × (length ys ≡ 0)) p.0 (ap (λ k. drop k ws) p.1, refl, refl)
  many_tells (suc n) i j xs e =
      let p = then_split (part i) _ xs j e in
      let q = then_split (many part n p.1) _ xs j p.3 in
      let s = got_same q.3 in
      let t = tells i p.1 p.0 p.2 in
      let r = many_tells n p.1 q.1 q.0 q.2 in
      subst (λ ys. (drop i ws ≡ flat_map u ys ++ drop j ws) × (all_of ok ys ≡ true) × (length ys ≡ suc n)) s.0 (
        t.0 ∙ ap (λ us. u p.0 ++ us) r.0 ∙ sym (append_assoc (u p.0) (flat_map u q.0) (drop q.1 ws)) ∙ ap (λ k. (u p.0 ++ flat_map u q.0) ++ drop k ws) s.1,
        and_from (ok p.0) (all_of ok q.0) t.1 r.1,
        ap suc r.2,
      )

-- words one by one
pub joined_each : (ws : List ℕ) → flat_map (λ w. w ∷ []) ws ≡ ws
joined_each [] = refl
joined_each (w ∷ ws) = ap (λ us. w ∷ us) (joined_each ws)

pub words_tell : (test : ℕ → Bool) (c : ℕ) (ws : List ℕ) (n i j : ℕ) (xs : List ℕ) → many (passing test c ws) n i ≡ got xs j
    → (drop i ws ≡ xs ++ drop j ws) × (all_of test xs ≡ true) × (length xs ≡ n)
words_tell test c ws n i j xs e =
    let t = many_tells ws (λ w. w ∷ []) test (passing test c ws) (passing_tells test c ws) n i j xs e in
    (t.0 ∙ ap (λ us. us ++ drop j ws) (joined_each xs), t.1, t.2)

-- a whole sheet that is accepted was all read
whole_cases : {X : Type 0} (ws : List ℕ) (x y : X) (i : ℕ) (b : Bool) → ltb i (length ws) ≡ b → cond b (refused 5 i) (accepted x) ≡ accepted y → (length ws ≤ i) × (x ≡ y)
whole_cases ws x y i true e h = let z : ◌≡◌ {A = ℕ} 0 1 = cc in absurd (omega arith)
whole_cases ws x y i false e h = (ltb-false i (length ws) e, cc)

pub whole_tells : {X : Type 0} (ws : List ℕ) (r : Read X) (y : X) → whole ws r ≡ accepted y → (i : ℕ) × (r ≡ got y i) × (drop i ws ≡ [])
whole_tells ws (got x i) y e =
    let p = whole_cases ws x y i (ltb i (length ws)) refl e in
    (i, ap (λ z. got z i) p.1, drop_all i ws p.0)
whole_tells ws (stop n k) y e = let z : ◌≡◌ {A = ℕ} 0 1 = cc in absurd (omega arith)

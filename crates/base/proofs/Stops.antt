-- Where a reading stops.
use Rattle.std.proofs.Common.{◌≡◌, ℕ, zero, suc, ◌+◌, ◌<◌, ◌≤◌, Bool, true, false, cond, ltb, List, [], ◌∷◌, length, get_or, sym, refl, ◌∙◌, subst, arith}
use Rattle.std.proofs.lemmas.Bool.{ltb-true, ltb-false}
use Rattle.base.specs.Sheets.{Read, got, stop, and_then, passing, many}
use Rattle.base.proofs.Reading.{then_split, got_same, passing_step}

pub stop_same : {X : Type 0} (m i n k : ℕ) → ◌≡◌ {A = Read X} (stop m i) (stop n k) → (m ≡ n) × (i ≡ k)
stop_same m i n k e = (cc, cc)

module _ (ws : List ℕ) (P : ℕ → ℕ → Type 0) where
  -- a part goes on within the words, and what it stops with keeps P
  pub record Placed {X : Type 0} (part : ℕ → Read X) : Type 0 where
    pub goes : (i j : ℕ) (x : X) → i ≤ length ws → part i ≡ got x j → j ≤ length ws
    pub stops : (i n k : ℕ) → i ≤ length ws → part i ≡ stop n k → P n k

  -- a word that has to pass a test
  pub passing_placed : (test : ℕ → Bool) (n : ℕ) → P 1 (length ws) → ((k : ℕ) → k < length ws → P n k) → Placed (passing test n ws)
  passing_placed test n none bad = record {
    goes = λ i j x le e. let p = passing_step test n ws i j x e in let a = p.1 in let b = p.2 in omega arith;
    stops = λ i m k le e. at i m k le (ltb i (length ws)) refl e;
  }
    where
      tested : (i m k : ℕ) (b : Bool) → i < length ws → cond b (got (get_or ws i 0) (i + 1)) (stop n i) ≡ stop m k → P m k
      tested i m k true lt e = let z : ◌≡◌ {A = ℕ} 0 1 = cc in absurd (omega arith)
      tested i m k false lt e = let s = stop_same {X = ℕ} n i m k e in subst (λ (c : ℕ). P c k) s.0 (subst (P n) s.1 (bad i lt))

      at : (i m k : ℕ) → i ≤ length ws → (b : Bool) → ltb i (length ws) ≡ b
          → and_then (cond b (got (get_or ws i 0) (i + 1)) (stop 1 i)) (λ w j. cond (test w) (got w j) (stop n i)) ≡ stop m k → P m k
      at i m k le true t e = tested i m k (test (get_or ws i 0)) (ltb-true i (length ws) t) e
      at i m k le false t e =
          let s = stop_same {X = ℕ} 1 i m k e in
          let end : i ≡ length ws = omega (arith, ltb-false i (length ws) t) in
          subst (λ (c : ℕ). P c k) s.0 (subst (P 1) (sym end ∙ s.1) none)

  -- one part after another
  pub then_placed : {X Y : Type 0} (part : ℕ → Read X) (f : X → ℕ → Read Y) → Placed part → ((x : X) → Placed (f x)) → Placed (λ i. and_then (part i) f)
  then_placed {X} {Y} part f p q = record {
    goes = λ i j y le e. let s = then_split (part i) f y j e in (q s.0).goes s.1 j y (p.goes i s.1 s.0 le s.2) s.3;
    stops = λ i n k le e. at i n k le (part i) refl e;
  }
    where
      at : (i n k : ℕ) → i ≤ length ws → (r : Read X) → part i ≡ r → and_then r f ≡ stop n k → P n k
      at i n k le (got x j) e h = (q x).stops j n k (p.goes i j x le e) h
      at i n k le (stop m l) e h = let s = stop_same {X = Y} m l n k h in p.stops i n k le (e ∙ cc)

  pub got_placed : {X : Type 0} (x : X) → Placed (λ i. got x i)
  got_placed x = record { goes = λ i j y le e. let s = (got_same e).1 in omega arith; stops = λ i n k le e. let z : ◌≡◌ {A = ℕ} 0 1 = cc in absurd (omega arith) }

  pub many_placed : {X : Type 0} (part : ℕ → Read X) → Placed part → (n : ℕ) → Placed (many part n)
  many_placed part p zero = got_placed []
  many_placed part p (suc n) = then_placed part _ p (λ x. then_placed (many part n) _ (many_placed part p n) (λ xs. got_placed (x ∷ xs)))

-- Lists whose members all pass a test.
use Rattle.std.proofs.Common.{◌≡◌, ℕ, zero, suc, ◌<◌, Bool, true, List, [], ◌∷◌, ◌++◌, length, get_or, refl, le_of_suc-le-suc, arith}
use Rattle.std.proofs.lemmas.Bool.{and_from, and_parts}
use Rattle.base.specs.Sheets.{all_of}

module _ {X : Type 0} (test : X → Bool) where
  pub all_at : (xs : List X) (k : ℕ) (d : X) → all_of test xs ≡ true → k < length xs → test (get_or xs k d) ≡ true
  all_at [] k d t l = absurd (omega arith)
  all_at (x ∷ xs) zero d t l = (and_parts (test x) (all_of test xs) t).0
  all_at (x ∷ xs) (suc k) d t l = all_at xs k d (and_parts (test x) (all_of test xs) t).1 (le_of_suc-le-suc l)

  pub all_push : (xs : List X) (x : X) → all_of test xs ≡ true → test x ≡ true → all_of test (xs ++ x ∷ []) ≡ true
  all_push [] x t u = and_from (test x) true u refl
  all_push (y ∷ xs) x t u = let p = and_parts (test y) (all_of test xs) t in and_from (test y) (all_of test (xs ++ x ∷ [])) p.0 (all_push xs x p.1 u)

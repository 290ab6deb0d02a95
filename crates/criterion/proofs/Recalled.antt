-- What is recalled from a row that agrees with a monotone verdict is right, and a row that learns goes on to agree.
use Rattle.std.proofs.Common.{◌≡◌, ℕ, ◌%◌, ◌^◌, Bool, true, false, List, [], ◌∷◌, Some, None, arith}
use Rattle.std.proofs.lemmas.List.Folds.{list_all-append}
use Rattle.std.specs.Cmp.{booleans_Decides}
use Rattle.std.specs.List.{list_any}
use Rattle.itemset.proofs.Members.{decides_within}
use Rattle.criterion.specs.declared.remembered.Remembered.{Remembered}
use Rattle.criterion.specs.Meaning.{Lawful, Meaning, Monotone}
use Rattle.criterion.specs.Recall.{says_yes, says_no, recall, grown}
use Rattle.criterion.specs.Over.{agrees, recalling}

module _ (V : ℕ → Bool) (law : Monotone V) (s : ℕ) where
  yes_right : (es : List Remembered) → agrees V es ≡ true → list_any (says_yes s) es ≡ true → V s ≡ true
  yes_right [] a h = cc
  yes_right (e ∷ es) a h = grind (arith, yes_right es, law e.set s, decides_within e.set s, booleans_Decides)

  no_right : (es : List Remembered) → agrees V es ≡ true → list_any (says_no s) es ≡ true → V s ≡ false
  no_right [] a h = cc
  no_right (e ∷ es) a h = grind (arith, no_right es, law s e.set, decides_within s e.set, booleans_Decides)

  pub recall_right : (es : List Remembered) → agrees V es ≡ true → (v : Bool) → recall es s ≡ Some v → v ≡ V s
  recall_right es a v h = grind (arith, yes_right, no_right)

-- a memory that learns a right verdict means the same
pub meaning_kept : (m : Meaning) → Lawful m → (s : ℕ) (es : List Remembered) (v : Bool) → (m.order ≡ true → v ≡ m.verdict s)
    → recalling m (grown None es (record { set = s % 2 ^ m.count; verdict = v })) ≡ recalling m es
meaning_kept m law s es v right = grind (arith, list_all-append, law.counts, booleans_Decides)

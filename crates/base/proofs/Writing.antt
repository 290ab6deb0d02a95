-- A buffer that is written from the front, or left.
use Rattle.std.proofs.Common.{◌≡◌, ℕ, ◌+◌, ◌<◌, ◌≤◌, Bool, true, false, cond, leb, List, [], ◌∷◌, ◌++◌, length, take, drop, set, IfOk, Ok, Err, Result, sym, refl, ap, ◌∙◌, ap₂, append_assoc, arith}
use lib.Seq.{paste, take-append_seam}
use Rattle.std.proofs.lemmas.List.{length-append}
use Rattle.std.proofs.lemmas.List.Edits.{paste_more, paste_all, paste_none}
use Rattle.std.proofs.lemmas.Slice.{drop-append-drop}
use Rattle.std.proofs.lemmas.Bool.{cond-true, cond-false, le-leb, leb-true, lt-leb}
use Rattle.base.specs.declared.refusal.Refusal.{Refusal}
use Rattle.base.specs.Outcomes.{accepted, refused}
use Rattle.base.specs.Refusals.{outcome}
use Rattle.base.specs.Places.{written, overwritten}

-- t is written behind s, which stands in front of what was there
pub front_paste : (d now s t : List ℕ) (at n : ℕ) → now ≡ s ++ drop (length s) d → at ≡ length s → n ≡ length t → paste now at t n ≡ (s ++ t) ++ drop (length (s ++ t)) d
front_paste d now s t at n e a b =
    let head : take at now ≡ s = ap₂ (λ (k : ℕ) (xs : List ℕ). take k xs) a e ∙ take-append_seam s (drop (length s) d) in
    let tail : drop (at + n) now ≡ drop (length (s ++ t)) d = ap (drop (at + n)) e ∙ drop-append-drop (length s) d s (at + n) (omega (arith, a)) refl ∙ ap (λ (k : ℕ). drop k d) (omega (arith, a, b, length-append s t)) in
    paste_all now at t n b ∙ ap₂ (λ (xs ys : List ℕ). xs ++ (t ++ ys)) head tail ∙ sym (append_assoc s t (drop (length (s ++ t)) d))

-- one word is
pub front_set : (d now s : List ℕ) (at v : ℕ) → now ≡ s ++ drop (length s) d → at ≡ length s → at < length now → set now at v ≡ (s ++ v ∷ []) ++ drop (length (s ++ v ∷ [])) d
front_set d now s at v e a l =
    let z : at ≡ at + 0 = omega arith in
    ap₂ (λ (xs : List ℕ) (k : ℕ). set xs k v) (paste_none now at (v ∷ [])) z ∙ paste_more now at (v ∷ []) 0 0 (omega arith) (omega arith) ∙ front_paste d now s (v ∷ []) at 1 e a refl

module _ {X : Type 0} (text places : List X) where
  -- there is room
  pub written_ok : length text ≤ length places → written text places ≡ accepted (length text)
  written_ok h = cond-true (leb (length text) (length places)) (accepted (length text)) (refused 8 0) (le-leb (length text) (length places) h)

  pub overwritten_ok : length text ≤ length places → overwritten text places ≡ text ++ drop (length text) places
  overwritten_ok h = cond-true (leb (length text) (length places)) (text ++ drop (length text) places) places (le-leb (length text) (length places) h)

  -- there is none
  pub written_short : length places < length text → written text places ≡ refused 8 0
  written_short h = cond-false (leb (length text) (length places)) (accepted (length text)) (refused 8 0) (lt-leb (length text) (length places) h)

  pub overwritten_short : length places < length text → overwritten text places ≡ places
  overwritten_short h = cond-false (leb (length text) (length places)) (text ++ drop (length text) places) places (lt-leb (length text) (length places) h)

-- what is answered is no more than there are places
pub written_fits : {X : Type 0} (text places : List X) (r : Result ℕ Refusal) → outcome (λ n. n) r ≡ written text places → IfOk r (λ n. n ≤ length places)
written_fits text places (Ok n) e = go (leb (length text) (length places)) refl e
  where
    go : (b : Bool) → leb (length text) (length places) ≡ b → accepted n ≡ cond b (accepted (length text)) (refused 8 0) → n ≤ length places
    go true t h = let same : n ≡ length text = cc in omega (arith, leb-true (length text) (length places) t)
    go false t h = let z : ◌≡◌ {A = ℕ} 0 1 = cc in absurd (omega arith)
written_fits text places (Err f) e = tt

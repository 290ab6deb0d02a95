-- A check made along the way, whose criterion still has the meaning m.
use Rattle.std.proofs.Common.{◌≡◌, ℕ, Bool, true, sym, ap, ◌∙◌}
use Rattle.criterion.specs.Meaning.{Meaning}

pub judged : {m at : Meaning} (s : ℕ) {x b : Bool} → at ≡ m → (at.order ≡ true → x ≡ at.verdict s) → x ≡ b → m.order ≡ true → m.verdict s ≡ b
judged {m} {at} s e h is o = sym (ap (λ (k : Meaning). k.verdict s) e) ∙ sym (h (ap (λ (k : Meaning). k.order) e ∙ o)) ∙ is

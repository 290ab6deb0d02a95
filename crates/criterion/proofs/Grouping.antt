-- Groups and their numbers.
use Rattle.std.proofs.Common.{◌≡◌, ℕ, zero, suc, ◌<◌, true, false, eqb, [], ◌∷◌, get_or, sym, refl, ◌∙◌, arith}
use denote.Enum.Bare.{sameb}
use Rattle.std.proofs.lemmas.Bool.{eqb-true, eqb-false}
use Rattle.criterion.specs.contracts.group.Group.{the_type}
use Rattle.criterion.specs.declared.group.Group.{Group}
use Rattle.criterion.specs.declared.group.Group.TheVariants.{First, Second, Third}
use Rattle.criterion.specs.Groups.{rank}

same_is : (a b : Group) → sameb the_type a b ≡ eqb (rank a) (rank b)
same_is First First = refl
same_is First Second = refl
same_is First Third = refl
same_is Second First = refl
same_is Second Second = refl
same_is Second Third = refl
same_is Third First = refl
same_is Third Second = refl
same_is Third Third = refl

-- groups are compared by their numbers
pub same_rank : (a b : Group) → sameb the_type a b ≡ true → rank a ≡ rank b
same_rank a b e = eqb-true (rank a) (rank b) (sym (same_is a b) ∙ e)

pub other_rank : (a b : Group) → sameb the_type a b ≡ false → rank a ≡ rank b → ⊥
other_rank a b e = eqb-false (rank a) (rank b) (sym (same_is a b) ∙ e)

-- the groups in their order
pub rank_at : (d : Group) (k : ℕ) → k < 3 → rank (get_or (First ∷ Second ∷ Third ∷ []) k d) ≡ k
rank_at d zero l = refl
rank_at d (suc zero) l = refl
rank_at d (suc (suc zero)) l = refl
rank_at d (suc (suc (suc k))) l = absurd (omega arith)

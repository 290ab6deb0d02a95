-- What holds of closed parts, and the worked plan.
use Rattle.std.specs.Prelude.{◌≡◌, ℕ, true, ◌↔◌, [], ◌∷◌}
use Rattle.itemset.specs.Sets.{◌∈◌, less}
use Rattle.base.specs.Outcomes.{accepted}
use Rattle.criterion.specs.Meaning.{Lawful}
use Rattle.criterion.specs.Cores.{cores}
use Rattle.joints.specs.Plans.{Plan, sound}
use Rattle.joints.specs.Admission.{admission}
use Rattle.joints.specs.Closed.{HasClosedPart, Stays, has_closed_part, joint_sets}

-- trying every part finds a closed part exactly where there is one
abbrev pub SearchRight : Type 0
SearchRight = (p : Plan) (set : ℕ) → (has_closed_part p set ≡ true) ↔ HasClosedPart p set

-- stripping the joints with a loose end changes no verdict
abbrev pub StripRight : Type 0
StripRight = (p : Plan) → sound p ≡ true → (set rest : ℕ) → ((i : ℕ) → i ∈ rest ↔ Stays p set i) → has_closed_part p rest ≡ has_closed_part p set

-- joint sets keep the law of criteria
abbrev pub SetsLawful : Type 0
SetsLawful = (p : Plan) → sound p ≡ true → Lawful (joint_sets p)

-- three bodies and four joints: 0 with 1, 1 with 2, 2 with 0, and 0 with 1 again
abbrev pub worked : Plan
worked = record {
  bodies = 3;
  joints = record { first = 0; second = 1; class = 0 } ∷ record { first = 1; second = 2; class = 0 } ∷ record { first = 2; second = 0; class = 0 } ∷ record { first = 0; second = 1; class = 0 } ∷ [];
}

-- its sheet, its cores, and its cores without joint 0
abbrev pub Worked : Type 0
Worked = (admission (3 ∷ 0 ∷ 0 ∷ 0 ∷ 4 ∷ 256 ∷ 513 ∷ 2 ∷ 256 ∷ []) ≡ accepted worked) × (cores (has_closed_part worked) 15 ≡ 7 ∷ 9 ∷ 14 ∷ []) × (cores (has_closed_part worked) (less 15 1) ≡ 14 ∷ [])

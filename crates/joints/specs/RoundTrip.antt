-- A plan and its sheet say the same.
use Rattle.std.specs.Prelude.{◌≡◌, ℕ, ◌<◌, true, ◌↔◌, List, [], ◌++◌, length, ◌≢◌}
use Rattle.base.specs.Outcomes.{accepted, refused}
use Rattle.joints.specs.Plans.{Plan, sheet, sound}
use Rattle.joints.specs.Admission.{admission}

-- the plan of an admitted sheet is sound, and its sheet is the list of words that it came from
abbrev pub SheetOfAdmitted : Type 0
SheetOfAdmitted = (ws : List ℕ) (p : Plan) → admission ws ≡ accepted p → (sheet p ≡ ws) × (sound p ≡ true)

-- the sheet of a sound plan is admitted as that plan
abbrev pub AdmissionOfSheet : Type 0
AdmissionOfSheet = (p : Plan) → sound p ≡ true → admission (sheet p) ≡ accepted p

-- the index of 1 is the sheet's length, and that of any other refusal the index of one of its words
abbrev pub RefusedWhere : Type 0
RefusedWhere = (ws : List ℕ) (n i : ℕ) → admission ws ≡ refused n i → (n ≡ 1 → i ≡ length ws) × ((n ≢ 1) → i < length ws)

-- 5 is given exactly where more words follow the sheet of a sound plan, at the first of them
abbrev pub LeftOver : Type 0
LeftOver = (ws : List ℕ) (i : ℕ) → (admission ws ≡ refused 5 i) ↔ ((p : Plan) × (rest : List ℕ) × (sound p ≡ true) × (rest ≢ []) × (ws ≡ sheet p ++ rest) × (i ≡ length (sheet p)))

-- Responses that compute.
use Rattle.std.specs.Prelude.{◌≡◌, ℕ, ◌/◌, ◌%◌, List, [], ◌∷◌, ◌++◌, codes}
use Rattle.std.specs.List.{flat_map}
use Rattle.console.specs.Response.{response}

-- a word below 65,536 in eight bytes
abbrev pub eight : ℕ → List ℕ
eight w = 0 ∷ 0 ∷ 0 ∷ 0 ∷ 0 ∷ 0 ∷ w / 256 ∷ w % 256 ∷ []

-- a text and byte 10
abbrev pub ended : List ℕ → List ℕ
ended text = text ++ 10 ∷ []

-- the worked plan; a chain of two joints; no input; half a word; a body word that is not 0; an unknown kind
abbrev pub Responses : Type 0
Responses =
    (response (flat_map eight (3 ∷ 3 ∷ 0 ∷ 0 ∷ 0 ∷ 4 ∷ 256 ∷ 513 ∷ 2 ∷ 256 ∷ [])) ≡ flat_map ended (codes "items 4" ∷ codes "common" ∷ codes "core 0 1 2" ∷ codes "core 0 3" ∷ codes "core 1 2 3" ∷ []))
    × (response (flat_map eight (3 ∷ 3 ∷ 0 ∷ 0 ∷ 0 ∷ 2 ∷ 256 ∷ 513 ∷ [])) ≡ ended (codes "refused 12 0"))
    × (response [] ≡ ended (codes "refused 15 0"))
    × (response (0 ∷ 0 ∷ 0 ∷ 3 ∷ []) ≡ ended (codes "refused 14 0"))
    × (response (flat_map eight (3 ∷ 3 ∷ 0 ∷ 0 ∷ 5 ∷ [])) ≡ ended (codes "refused 6 3"))
    × (response (flat_map eight (4 ∷ 0 ∷ 0 ∷ [])) ≡ ended (codes "refused 15 0"))

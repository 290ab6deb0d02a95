-- Joint plans, and the words that a sheet has for one.
use Rattle.std.specs.Prelude.{ℕ, ◌+◌, ◌*◌, Bool, not, ◌&&◌, List, [], ◌∷◌, ◌++◌, map, length, replicate, ◌==◌, nat_le, nat_lt, slice_index_or}
use Rattle.base.specs.Sheets.{all_of}

-- a joint: its two bodies and its class
pub record Joint : Type 0 where
  pub first : ℕ
  pub second : ℕ
  pub class : ℕ

-- bodies are numbered from 0, joints from 0 in their order
pub record Plan : Type 0 where
  pub bodies : ℕ
  pub joints : List Joint

-- it links two different bodies below the count and has a class 0, 1 or 2
abbrev pub links : ℕ → Joint → Bool
links bodies j = nat_lt j.first bodies && (nat_lt j.second bodies && (not (j.first == j.second) && nat_le j.class 2))

-- at most 32 bodies and 31 joints, each of which links
abbrev pub sound : Plan → Bool
sound p = nat_le p.bodies 32 && (nat_le (length p.joints) 31 && all_of (links p.bodies) p.joints)

-- the word of a joint
abbrev pub word : Joint → ℕ
word j = j.first + 256 * j.second + 65536 * j.class

-- the sheet: the count of bodies and a word 0 for each, then the count of joints and a word for each
abbrev pub sheet : Plan → List ℕ
sheet p = p.bodies ∷ (replicate p.bodies 0 ++ (length p.joints ∷ map word p.joints))

-- a new place holds no bodies
abbrev pub empty : Plan
empty = record { bodies = 0; joints = [] }

-- what stands past the last joint
abbrev pub no_joint : Joint
no_joint = record { first = 0; second = 0; class = 0 }

-- joint k
abbrev pub joint_at : Plan → ℕ → Joint
joint_at p k = slice_index_or p.joints k no_joint

-- The verdict on a set of joints: yes when it has a non-empty part in which no body is touched by exactly one joint.
use Rattle.std.specs.Prelude.{◌≡◌, ℕ, ◌^◌, ◌<◌, Bool, true, not, ◌&&◌, ◌||◌, map, length, ◌==◌, ◌≢◌, slice_index_or}
use Rattle.itemset.specs.Sets.{◌∈◌, ◌⊆◌, has, within}
use Rattle.itemset.specs.Counting.{count, every, some}
use Rattle.criterion.specs.Meaning.{Meaning}
use Rattle.joints.specs.Plans.{Joint, Plan, joint_at}

-- the joint touches body b
abbrev pub touches : Joint → ℕ → Bool
touches j b = j.first == b || j.second == b

-- joint i lies in the part and touches body b
abbrev pub meets : Plan → ℕ → ℕ → ℕ → Bool
meets p part b i = has i part && touches (joint_at p i) b

-- how many joints of the part touch body b
unfoldable pub touching : Plan → ℕ → ℕ → ℕ
touching p part b = count (length p.joints) (meets p part b)

-- a closed part of the set: joints of the plan that lie in the set, at least one, and no body is touched by exactly one of them
pub record ClosedPart (p : Plan) (set part : ℕ) : Type 0 where
  pub joints : (i : ℕ) → i ∈ part → i < length p.joints
  pub filled : part ≡ 0 → ⊥
  pub inside : part ⊆ set
  pub closed : (b : ℕ) → b < p.bodies → touching p part b ≢ 1

-- the set has a closed part
abbrev pub HasClosedPart : Plan → ℕ → Type 0
HasClosedPart p set = (part : ℕ) × ClosedPart p set part

-- no body is touched by exactly one joint of the part
abbrev pub no_loose_body : Plan → ℕ → Bool
no_loose_body p part = every p.bodies (λ b. not (touching p part b == 1))

-- the same by trying every part
unfoldable pub has_closed_part : Plan → ℕ → Bool
has_closed_part p set = some (2 ^ length p.joints) (λ part. not (part == 0) && (within part set && no_loose_body p part))

-- joint sets as a criterion: the joints are the items, a joint's class is its group, and the order never fails
abbrev pub joint_sets : Plan → Meaning
joint_sets p = record { count = length p.joints; verdict = has_closed_part p; group = λ i. slice_index_or (map (λ j. j.class) p.joints) i 2; order = true }

-- joint i stays when the joints with a loose end are stripped: neither of its bodies is touched by it alone
pub record Stays (p : Plan) (set i : ℕ) : Type 0 where
  pub joint : i < length p.joints
  pub member : i ∈ set
  pub first : touching p set (joint_at p i).first ≡ 1 → ⊥
  pub second : touching p set (joint_at p i).second ≡ 1 → ⊥

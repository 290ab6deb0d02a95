-- Admitting a joint sheet: its words are gone through from the front.
use Rattle.std.specs.Prelude.{ℕ, ◌/◌, ◌%◌, ◌^◌, Bool, ◌&&◌, List, map, ◌==◌, nat_lt}
use Rattle.base.specs.Outcomes.{Outcome}
use Rattle.base.specs.Sheets.{Read, got, and_then, counted, many, passing, whole}
use Rattle.joints.specs.Plans.{Joint, Plan, links}

-- the joint that a word stands for
abbrev pub joint : ℕ → Joint
joint w = record { first = w % 256; second = w / 256 % 256; class = w / 65536 }

-- a body word is 0
abbrev pub clear : ℕ → Bool
clear w = w == 0

-- a joint word has no bit from 24 upward, and its joint links
abbrev pub fine : ℕ → ℕ → Bool
fine bodies w = nat_lt w (2 ^ 24) && links bodies (joint w)

-- a count of at most 32 bodies, their words (6), a count of at most 31 joints, their words (7)
abbrev pub plan_at : List ℕ → ℕ → Read Plan
plan_at ws i =
    and_then (counted 32 ws i) (λ b j.
    and_then (many (passing clear 6 ws) b j) (λ _ k.
    and_then (counted 31 ws k) (λ n l.
    and_then (many (passing (fine b) 7 ws) n l) (λ js m.
    got (record { bodies = b; joints = map joint js }) m))))

-- the outcome of a whole sheet
abbrev pub admission : List ℕ → Outcome Plan
admission ws = whole ws (plan_at ws 0)

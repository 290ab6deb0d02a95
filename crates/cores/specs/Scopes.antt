-- The scope of a criterion: n items, of which those in s are in.
use Rattle.std.specs.Prelude.{ℕ, ◌^◌, cond, not, ◌&&◌, length, bit_or, nat_lt}
use Rattle.base.specs.Outcomes.{Outcome, accepted, refused}
use Rattle.itemset.specs.Sets.{has, less, members}

-- how many items a scope has
abbrev pub size : ℕ → ℕ
size s = length (members 32 s)

-- the scope after item i is retired: it goes out if it was in
abbrev pub retired : ℕ → ℕ → ℕ
retired s i = cond (has i s) (less s (2 ^ i)) s

-- the answer: 9 where there is no such item, 10 where it is out already
abbrev pub retiring : ℕ → ℕ → ℕ → Outcome ℕ
retiring n s i = cond (nat_lt i n) (cond (has i s) (accepted (size (less s (2 ^ i)))) (refused 10 0)) (refused 9 0)

-- the scope after item i is restored: it comes in if it is one of the n items and was out
abbrev pub restored : ℕ → ℕ → ℕ → ℕ
restored n s i = cond (nat_lt i n && not (has i s)) (bit_or s (2 ^ i)) s

-- the answer: 9 where there is no such item, 11 where it is in already
abbrev pub restoring : ℕ → ℕ → ℕ → Outcome ℕ
restoring n s i = cond (nat_lt i n) (cond (has i s) (refused 11 0) (accepted (size (bit_or s (2 ^ i))))) (refused 9 0)

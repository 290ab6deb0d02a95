-- How long the texts of numbers are.
use Rattle.std.proofs.Common.{ℕ, ◌^◌, ◌<◌, ◌≤◌, not, length, decimal, refl, arith}
use Rattle.std.specs.Fmt.{digits}
use Rattle.std.specs.List.{range_with_len}
use Rattle.std.proofs.lemmas.Fmt.{length-decimal-le}
use Rattle.std.proofs.lemmas.Grind.{common_steps}
use Rattle.std.proofs.lemmas.List.Concat.{length-flat_map}
use Rattle.std.proofs.lemmas.List.Filters.{sum_by-filter_both}
use Rattle.itemset.specs.Sets.{has, members}
use Rattle.console.specs.Text.{spaced, blank_decimal}

pub length_decimal : (n : ℕ) → n < 2 ^ 64 → length (decimal n) ≤ 20
length_decimal n fits = length-decimal-le 20 n (omega arith) (omega arith) fits

pub length_members : (set : ℕ) → length (spaced (members 32 set)) ≤ 86
unfolding members digits
length_members set =
    let kept = sum_by-filter_both (λ i. has i set) (λ i. not (has i set)) (λ _. refl) (λ i. length (blank_decimal i)) (range_with_len 0 32) in
    omega (arith, length-flat_map blank_decimal (members 32 set), kept)

-- what shows that a line has room
pub ruleset room = (common_steps, length_decimal, length_members)

use Rattle.itemset.proofs.Members.{same_members, tests_right, in_and, in_or, in_less, in_one, in_full, in_low, below, subset_le}
use Rattle.itemset.proofs.Collected.{in_collect}
use Rattle.itemset.proofs.Bits.{and_not, lowest_is, ones_are}
use Rattle.itemset.proofs.set_laws.Goals as goal

pub returns : goal.returns
returns c = record {
  same_members = same_members;
  tests_right = tests_right;
  in_and = in_and;
  in_or = in_or;
  in_less = in_less;
  in_one = in_one;
  in_full = in_full;
  in_low = in_low;
  in_collect = in_collect;
  bits_bound_members = below;
  subset_is_no_greater = subset_le;
  and_not_is_less = and_not;
  trailing_zeros_is_lowest = lowest_is;
  ones_count_members = ones_are;
}

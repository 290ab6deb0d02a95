use Rattle.itemset.proofs.Rows.{rising_le, rising_same}
use Rattle.itemset.proofs.rising_laws.Goals as goal

pub returns : goal.returns
returns c = record { part_is_no_longer = rising_le; same_members_same_list = rising_same }

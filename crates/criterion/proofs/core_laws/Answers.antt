use Rattle.criterion.proofs.Computed.{computed}
use Rattle.criterion.proofs.Found.{found, unique, counted, hitting, needed, shrunk, branches}
use Rattle.criterion.proofs.core_laws.Goals as goal

pub returns : goal.returns
returns c = record {
  every_yes_set_contains_a_core = found;
  only_one_list_of_cores = unique;
  no_longer_list_of_cores = counted;
  no_exactly_when_every_core_is_hit = hitting;
  needed_exactly_when_in_every_core = needed;
  yes_set_that_loses_nothing_is_a_core = shrunk;
  other_cores_miss_an_item = branches;
  examples_compute = computed;
}

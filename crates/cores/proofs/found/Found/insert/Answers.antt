use Rattle.std.proofs.Common.{◌<◌, length, ltb, arith, rules}
use Rattle.std.proofs.lemmas.List.Sorted.{IsPartitionPoint-from_clause}
use Rattle.cores.specs.Founds.{known}
use Rattle.cores.proofs.Placing.{rising_parted, put_is, row_more, front_is}
use Rattle.cores.proofs.found.Found.insert.Goals as goal

pub invariant_of-self : goal.invariant_of-self
invariant_of-self c =
    let f = c.args.self.now in
    let x = c.args.set in
    let at = c.partition_point-at.result in
    let told = rw c.known.ensures at c.partition_point-at.ensures in
    let room : f.count < length f.places.now = omega (arith, f.row.high, c.if-self.false) in
    let point = IsPartitionPoint-from_clause (λ y. ltb y x) (known f) at told.partitioned (rising_parted x (known f) f.row.rising) (λ a r q k. search rules) in
    record { row = row_more f.count x f.places.now _ f.row room (put_is f.places.now c.copy_within.new.self at f.count x room told.bound point c.copy_within.ensures.after) c.requires.below c.requires.new }

pub returns-clause-row : goal.returns-clause-row
returns-clause-row c =
    let f = c.args.self.now in
    let x = c.args.set in
    let at = c.partition_point-at.result in
    let told = rw c.known.ensures at c.partition_point-at.ensures in
    let room : f.count < length f.places.now = omega (arith, f.row.high, c.if-self.false) in
    let point = IsPartitionPoint-from_clause (λ y. ltb y x) (known f) at told.partitioned (rising_parted x (known f) f.row.rising) (λ a r q k. search rules) in
    front_is f.count x f.places.now _ f.row room (put_is f.places.now c.copy_within.new.self at f.count x room told.bound point c.copy_within.ensures.after)

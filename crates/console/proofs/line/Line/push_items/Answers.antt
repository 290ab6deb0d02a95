use Rattle.std.proofs.Common.{◌^◌, length, ap, arith, length-append}
use Rattle.std.proofs.lemmas.Grind.{common_steps}
use Rattle.itemset.proofs.Members.{below}
use Rattle.itemset.specs.Sets.{less, members}
use Rattle.console.specs.Text.{blank_decimal, spaced}
use Rattle.console.specs.Views.{text_of}
use Rattle.console.proofs.Rest.{lowest_first, none_left}
use Rattle.console.proofs.line.Line.push_items.Goals as goal

pub push_number-requires : goal.push_number-requires
push_number-requires c =
    let turn = c.in-Some.ensures.steps in
    let rest = c.loop-item.item-iterator.0 in
    let lists = lowest_first rest c.in-Some.item turn.0 ((below 32 rest).0 c.loop-item.invariant.0 c.in-Some.item turn.0.member) in
    let spent = length-append (text_of c.loop-item.self) (spaced (members 32 rest)) in
    let whole = length-append (text_of c.args.self.now) (spaced (members 32 c.args.set)) in
    let next = length-append (blank_decimal c.in-Some.item) (spaced (members 32 (less rest (2 ^ c.in-Some.item)))) in
    omega (arith, ap length c.loop-item.invariant.1, ap (λ xs. length (spaced xs)) lists, spent, whole, next)

pub loop-item-preserved : goal.loop-item-preserved
loop-item-preserved c =
    let turn = c.in-Some.ensures.steps in
    let rest = c.loop-item.item-iterator.0 in
    let lists = lowest_first rest c.in-Some.item turn.0 ((below 32 rest).0 c.loop-item.invariant.0 c.in-Some.item turn.0.member) in
    grind (arith, common_steps)

pub returns : goal.returns
returns c =
    let lists = none_left in
    grind (arith, common_steps)

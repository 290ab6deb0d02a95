use Rattle.std.proofs.Common.{rules, tests}
use Rattle.std.proofs.lemmas.Iterator.{YieldsList-from_slice}
use Rattle.std.proofs.lemmas.Iterator.Search.{any_from_yields_List}
use Rattle.criterion.specs.Recall.{says_yes, says_no}
use Rattle.criterion.proofs.held.Memory.recall.Goals as goal

pub returns-then-any-2 : goal.returns-then-any-2
returns-then-any-2 g c =
    let es = c.args.self.now.entries.items in
    let yes = any_from_yields_List (says_yes c.args.set) _ _ c.any.result c.any.ensures.ran (YieldsList-from_slice es cc) (λ x b q k. search (rules, tests)) in
    let no = any_from_yields_List (says_no c.args.set) _ _ c.any-2.result c.any-2.ensures.ran (YieldsList-from_slice es cc) (λ x b q k. search (rules, tests)) in
    search rules

pub returns : goal.returns
returns g c =
    let es = c.args.self.now.entries.items in
    let yes = any_from_yields_List (says_yes c.args.set) _ _ c.any.result c.any.ensures.ran (YieldsList-from_slice es cc) (λ x b q k. search (rules, tests)) in
    let no = any_from_yields_List (says_no c.args.set) _ _ c.any-2.result c.any-2.ensures.ran (YieldsList-from_slice es cc) (λ x b q k. search (rules, tests)) in
    search rules

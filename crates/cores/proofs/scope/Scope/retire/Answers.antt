use Rattle.std.proofs.Common.{sym, refl}
use Rattle.std.proofs.lemmas.Bool.{le-ltb, cond-false}
use Rattle.itemset.proofs.Bits.{has_beyond}
use Rattle.cores.proofs.scope.Scope.retire.Goals as goal

pub returns-then-item-self : goal.returns-then-item-self
returns-then-item-self c =
    let s = c.args.self.now in
    record {
      answers_the_size = sym (cond-false _ _ _ (le-ltb c.args.item s.items c.if-item-self.true));
      takes_it_out = sym (cond-false _ _ _ (has_beyond s.items c.args.item s.set s.ok.1 c.if-item-self.true));
      keeps_the_items = refl;
    }

use Rattle.std.proofs.Common.{ℕ, ◌^◌, ◌<◌, sym, subst, arith}
use lib.Bits.{bit_or, or_lt}
use Rattle.std.proofs.lemmas.Nat.{one_shl, pow_below}
use Rattle.cores.proofs.scope.Scope.restore.Goals as goal

pub invariant_of-self : goal.invariant_of-self
invariant_of-self c =
    let s = c.args.self.now in
    let i = c.args.item in
    let lt : i < s.items = c.if-item-self.false in
    record { ok = (s.ok.0, subst (λ (x : ℕ). bit_or s.set x < 2 ^ s.items) (sym (one_shl i 32 (omega (arith, lt, s.ok.0)))) (or_lt s.items s.set (2 ^ i) s.ok.1 (pow_below i s.items lt))) }

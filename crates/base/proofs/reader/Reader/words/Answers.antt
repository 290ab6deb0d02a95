use Rattle.std.proofs.Common.{◌≡◌, ℕ, ◌+◌, ◌-◌, List, get_or, take, drop, sym, ap, ◌∙◌, ap₂, arith}
use Rattle.base.specs.Readers.{text}
use Rattle.base.specs.Sheets.{Read, passing, many, got}
use Rattle.base.proofs.Reading.{behind, many_more, many_all, passing_step, slice_more}
use Rattle.base.proofs.Tells.{words_tell}
use Rattle.base.proofs.reader.Reader.words.Goals as goal

pub loop-done-preserved : goal.loop-done-preserved
loop-done-preserved g c =
    let ws = text c.args.self.now in
    let part : List ℕ → ℕ → Read ℕ = passing (g.R.WordRule.test c.args.rule.now) g.R.WordRule.code in
    let start = c.args.self.now.at in
    let k = c.loop-done._done in
    let at = c.loop-done.self.at in
    let w = c.in_ok-word.field-0 in
    let e : part ws at ≡ got w c.word.new.self.at = ap (λ us. part us at) (sym c.loop-done.invariant.0) ∙ sym c.in_ok-word.ensures.reads_a_word in
    let s = passing_step (g.R.WordRule.test c.args.rule.now) g.R.WordRule.code ws at c.word.new.self.at w e in
    let i = c.loop-done.invariant.1 in
    let j = s.1 in
    let l = s.2 in (
      c.word.ensures.same_words ∙ c.loop-done.invariant.0,
      omega arith,
      ap (λ xs. behind xs (many (part ws) (c.args.n - (k + 1)) c.word.new.self.at)) (slice_more ws start k w (omega arith) (s.0 ∙ ap (λ i. get_or ws i 0) i))
          ∙ sym (many_more (part ws) (take k (drop start ws)) w c.args.n k at c.word.new.self.at (omega arith) e)
          ∙ c.loop-done.invariant.2,
    )

pub returns : goal.returns
returns g c =
    let ws = text c.args.self.now in
    let part : List ℕ → ℕ → Read ℕ = passing (g.R.WordRule.test c.args.rule.now) g.R.WordRule.code in
    let i = c.loop-done.invariant.1 in
    let k : c.loop-done.self.at - c.args.self.now.at ≡ c.loop-done._done = omega arith in
    let read : List ℕ = take (c.loop-done.self.at - c.args.self.now.at) (drop c.args.self.now.at (text c.loop-done.self)) in
    let s : read ≡ take c.loop-done._done (drop c.args.self.now.at ws) = ap₂ (λ (n : ℕ) (us : List ℕ). take n (drop c.args.self.now.at us)) k c.loop-done.invariant.0 in
    let e = sym c.loop-done.invariant.2 ∙ many_all (part ws) (take c.loop-done._done (drop c.args.self.now.at ws)) c.args.n c.loop-done._done c.loop-done.self.at (omega arith) in
    let whole : got read c.loop-done.self.at ≡ many (part ws) c.args.n c.args.self.now.at = ap (λ xs. got xs c.loop-done.self.at) s ∙ sym e in
    let t = words_tell (g.R.WordRule.test c.args.rule.now) g.R.WordRule.code ws c.args.n c.args.self.now.at c.loop-done.self.at read (sym whole) in
    record { same_words = c.loop-done.invariant.0; keeps_the_rule = (t.1, t.2); stays_before_a_refused_word = tt; reads_so_many = whole }

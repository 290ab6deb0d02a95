use Rattle.std.proofs.Common.{◌≡◌, ◌+◌, ◌-◌, take, drop}
use Rattle.base.specs.Readers.{text}
use Rattle.base.specs.Sheets.{passing, many}
use Rattle.base.proofs.Reading.{behind}
use Rattle.base.proofs.reader.Reader.words.Given as goal

abbrev pub invariant-loop-done : goal.invariant-loop-done
invariant-loop-done g l =
    (text l.self ≡ text l.initial.self)
    × (l.self.at ≡ l.initial.self.at + l._done)
    × (behind (take l._done (drop l.initial.self.at (text l.initial.self))) (many (passing (g.R.WordRule.test l.rule) g.R.WordRule.code (text l.initial.self)) (l.n - l._done) l.self.at)
    ≡ many (passing (g.R.WordRule.test l.rule) g.R.WordRule.code (text l.initial.self)) l.n l.initial.self.at)

-- What a line of the code holds.
use Rattle.std.specs.Prelude.{ℕ, List}
use Rattle.console.specs.declared.line.Line.{Line}

abbrev pub text_of : Line → List ℕ
text_of l = l.text.bytes

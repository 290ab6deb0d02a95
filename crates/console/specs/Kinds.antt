-- The kinds of criterion, as words of the input.
use Rattle.std.specs.Prelude.{◌≡◌, ◌≢◌, ℕ, MatchResult, Result}
use Rattle.base.specs.declared.refusal.Refusal.{Refusal}
use Rattle.base.specs.declared.refusal.Refusal.TheVariants.{UnknownKind}
use Rattle.console.specs.declared.kind.Kind.{Kind}
use Rattle.console.specs.declared.kind.Kind.TheVariants.{Joints}

-- the word of a kind
abbrev pub word_of : Kind → ℕ
word_of Joints = 3

-- the kind whose word it is, or the refusal of a word that is none's
abbrev pub Names : ℕ → Result Kind Refusal → Type 0
Names word r = MatchResult r (λ kind. word ≡ word_of kind) (λ refusal. (refusal ≡ UnknownKind) × (word ≢ 3))

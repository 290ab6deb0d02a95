-- The numbers of refusals.
use Rattle.std.proofs.Common.{◌≡◌, ◌≤◌, refl, arith}
use Rattle.base.specs.declared.refusal.Refusal.{Refusal}
use Rattle.base.specs.declared.refusal.Refusal.TheVariants.{MissingWord, CountTooLarge, WordsLeftOver, BodyWord, JointWord, TooFewPlaces, NoSuchItem, AlreadyOut, AlreadyIn, GetsNo, TooManyCores, OddLength, UnknownKind}
use Rattle.base.specs.Refusals.{number, index}

-- a refusal from 8 upward is about no word
pub no_index : (r : Refusal) → 8 ≤ number r → index r ≡ 0
no_index (MissingWord i) h = absurd (omega arith)
no_index (CountTooLarge i) h = absurd (omega arith)
no_index (WordsLeftOver i) h = absurd (omega arith)
no_index (BodyWord i) h = absurd (omega arith)
no_index (JointWord i) h = absurd (omega arith)
no_index TooFewPlaces h = refl
no_index NoSuchItem h = refl
no_index AlreadyOut h = refl
no_index AlreadyIn h = refl
no_index GetsNo h = refl
no_index TooManyCores h = refl
no_index OddLength h = refl
no_index UnknownKind h = refl

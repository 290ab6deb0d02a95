-- The refusals of the code by their numbers.
use Rattle.std.specs.Prelude.{ℕ, List, ◌++◌, Ok, Err, Result, codes, decimal}
use Rattle.base.specs.declared.refusal.Refusal.{Refusal}
use Rattle.base.specs.declared.refusal.Refusal.TheVariants.{MissingWord, CountTooLarge, WordsLeftOver, BodyWord, JointWord, TooFewPlaces, NoSuchItem, AlreadyOut, AlreadyIn, GetsNo, TooManyCores, OddLength, UnknownKind}
use Rattle.base.specs.Outcomes.{Outcome, accepted, refused}

abbrev pub number : Refusal → ℕ
number (MissingWord i) = 1
number (CountTooLarge i) = 3
number (WordsLeftOver i) = 5
number (BodyWord i) = 6
number (JointWord i) = 7
number TooFewPlaces = 8
number NoSuchItem = 9
number AlreadyOut = 10
number AlreadyIn = 11
number GetsNo = 12
number TooManyCores = 13
number OddLength = 14
number UnknownKind = 15

-- the index of the word that it is about
abbrev pub index : Refusal → ℕ
index (MissingWord i) = i
index (CountTooLarge i) = i
index (WordsLeftOver i) = i
index (BodyWord i) = i
index (JointWord i) = i
index TooFewPlaces = 0
index NoSuchItem = 0
index AlreadyOut = 0
index AlreadyIn = 0
index GetsNo = 0
index TooManyCores = 0
index OddLength = 0
index UnknownKind = 0

-- what it prints: `refused`, its number and its index
abbrev pub message : Refusal → List ℕ
message r = codes "refused " ++ (decimal (number r) ++ (codes " " ++ decimal (index r)))

-- what the code answered, with its value seen through a view
abbrev pub outcome : {X Y : Type 0} → (Y → X) → Result Y Refusal → Outcome X
outcome view (Ok y) = accepted (view y)
outcome view (Err f) = refused (number f) (index f)

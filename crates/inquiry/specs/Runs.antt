-- A run of calls, and what each of them answers, told from the calls before it alone.
use Rattle.std.specs.Prelude.{◌≡◌, ℕ, ◌<◌, ◌≤◌, true, List, length, take, drop, vec_items, fold, Result, slice_index_or}
use Rattle.base.specs.declared.refusal.Refusal.{Refusal}
use Rattle.base.specs.Refusals.{outcome}
use Rattle.itemset.specs.Sets.{full}
use Rattle.criterion.specs.Meaning.{Meaning}
use Rattle.criterion.specs.Cores.{Core}
use Rattle.inquiry.specs.declared.calls.Call.{Call}
use Rattle.inquiry.specs.declared.calls.Call.TheVariants.{Retire, Restore, Verdict, Core as CoreCall, CoreByGroups, Common, List as ListCall, Without}
use Rattle.inquiry.specs.declared.calls.Answer.{Answer}
use Rattle.inquiry.specs.declared.calls.Answer.TheVariants.{Counted, Judged, Chosen, Listed}
use Rattle.cores.specs.Scopes.{retired, retiring, restored, restoring}
use Rattle.cores.specs.Answers.{Chooses, GroupedCore, InEvery, Lists, ListsWithout}

-- ---- the scope, told from the calls

-- the scope after a call, where there are n items and s was the scope before it
abbrev pub after : ℕ → ℕ → Call → ℕ
after n s (Retire i) = retired s i
after n s (Restore i) = restored n s i
after n s Verdict = s
after n s CoreCall = s
after n s CoreByGroups = s
after n s Common = s
after n s (ListCall places) = s
after n s (Without i places) = s

-- after open it is every item below n
abbrev pub told : ℕ → List Call → ℕ
told n calls = fold (after n) (full n) calls

-- ---- answers, case by case

-- a count of items, or a refusal
abbrev pub Counts : Answer → (Result ℕ Refusal → Type 0) → Type 0
Counts (Counted r) P = P r
Counts (Judged b) P = ⊥
Counts (Chosen r) P = ⊥
Counts (Listed r places) P = ⊥

-- a set, or a refusal
abbrev pub Picks : Answer → (Result ℕ Refusal → Type 0) → Type 0
Picks (Counted r) P = ⊥
Picks (Judged b) P = ⊥
Picks (Chosen r) P = P r
Picks (Listed r places) P = ⊥

-- a count of cores, or a refusal, and the caller's buffer
abbrev pub Fills : Answer → (List ℕ → Result ℕ Refusal → Type 0) → Type 0
Fills (Counted r) P = ⊥
Fills (Judged b) P = ⊥
Fills (Chosen r) P = ⊥
Fills (Listed r places) P = P (vec_items places) r

-- what a call answers, where s is the scope that the calls before it make
abbrev pub Answered : Meaning → ℕ → Call → Answer → Type 0
Answered m s (Retire i) a = Counts a (λ r. outcome (λ w. w) r ≡ retiring m.count s i)
Answered m s (Restore i) a = Counts a (λ r. outcome (λ w. w) r ≡ restoring m.count s i)
Answered m s Verdict a = a ≡ Judged (m.verdict s)
Answered m s CoreCall a = Picks a (Chooses m s (Core m.verdict s))
Answered m s CoreByGroups a = Picks a (Chooses m s (GroupedCore m s))
Answered m s Common a = Picks a (Chooses m s (InEvery m s))
Answered m s (ListCall places) a = Fills a (Lists m s (length (vec_items places)))
Answered m s (Without i places) a = Fills a (ListsWithout m.count m s i (length (vec_items places)))

-- ---- a run of calls

-- m is the meaning of the criterion that the inquiry was opened on, and m' that of the one that close gave back:
-- it is the same, each call has one answer, and for a criterion in order it is right in the scope that the calls before it make
pub record Replayed (m m' : Meaning) (calls : List Call) (answers : List Answer) : Type 0 where
  pub same : m' ≡ m
  pub long : length answers ≡ length calls
  pub each : m.order ≡ true → (k : ℕ) (c : Call) (a : Answer) → k < length calls → Answered m (told m.count (take k calls)) (slice_index_or calls k c) (slice_index_or answers k a)

-- a run that was made: its answers stand behind those that the list of answers held before, and there was room for them
pub record Made (m m' : Meaning) (room : ℕ) (calls : List Call) (before after : List Answer) : Type 0 where
  pub fits : length calls ≤ room
  pub kept : take (length before) after ≡ before
  pub run : Replayed m m' calls (drop (length before) after)

-- The console's run of two calls.
use Rattle.std.proofs.Common.{◌≡◌, ℕ, true, List, [], ◌∷◌, ◌++◌, length, get_or, drop, vec_items, Result, Vec, refl, ap, ◌∙◌, subst, arith}
use Rattle.std.specs.declared.alloc.Global.{Global}
use Rattle.base.specs.declared.refusal.Refusal.{Refusal}
use Rattle.itemset.specs.Sets.{full}
use Rattle.criterion.specs.Meaning.{Meaning}
use Rattle.inquiry.specs.declared.calls.Answer.{Answer}
use Rattle.inquiry.specs.declared.calls.Answer.TheVariants.{Counted, Judged, Chosen, Listed}
use Rattle.inquiry.specs.declared.calls.Call.{Call}
use Rattle.inquiry.specs.declared.calls.Call.TheVariants.{Common, List as ListCall}
use Rattle.cores.specs.Answers.{Chooses, InEvery, Lists}
use Rattle.inquiry.specs.Runs.{Fills, Made, Picks, Replayed}
use Rattle.console.specs.Runs.{Two}

chosen : (a b : Answer) (P : Result ℕ Refusal → Type 0) (Q : List ℕ → Result ℕ Refusal → Type 0) → Picks a P → Fills b Q → Two (a ∷ b ∷ [])
chosen (Chosen r) (Listed s v) P Q p q = (r, s, v, refl)
chosen (Chosen r) (Counted s) P Q p q = absurd q
chosen (Chosen r) (Judged s) P Q p q = absurd q
chosen (Chosen r) (Chosen s) P Q p q = absurd q
chosen (Counted r) b P Q p q = absurd p
chosen (Judged r) b P Q p q = absurd p
chosen (Listed r v) b P Q p q = absurd p

two : (answers : List Answer) (P : Result ℕ Refusal → Type 0) (Q : List ℕ → Result ℕ Refusal → Type 0) → length answers ≡ 2
    → ((d : Answer) → Picks (get_or answers 0 d) P) → ((d : Answer) → Fills (get_or answers 1 d) Q) → Two answers
two [] P Q l p q = absurd (omega (arith, l))
two (a ∷ []) P Q l p q = absurd (omega (arith, l))
two (a ∷ b ∷ []) P Q l p q = chosen a b P Q (p a) (q b)
two (a ∷ b ∷ c ∷ rest) P Q l p q = absurd (omega (arith, l))

-- what the answers of a run on a criterion in order are
pub record Ran (m : Meaning) (answers : List Answer) : Type 0 where
  pub two : Two answers
  pub each : (common listed : Result ℕ Refusal) (places : Vec ℕ Global) → answers ≡ Chosen common ∷ Listed listed places ∷ []
      → Chooses m (full m.count) (InEvery m (full m.count)) common × Lists m (full m.count) 4096 (vec_items places) listed

-- the run of the two calls, with an empty list of calls before the first
pub ran : {m m' : Meaning} {room : ℕ} {none one calls : List Call} {before after : List Answer} (v : Vec ℕ Global) → none ≡ [] → one ≡ none ++ Common ∷ [] → calls ≡ one ++ ListCall v ∷ [] → length (vec_items v) ≡ 4096
    → before ≡ [] → Made m m' room calls before after → m.order ≡ true → Ran m after
ran {m} {m'} {calls = calls} {after = after} v z e f long none made o =
    let is : calls ≡ Common ∷ ListCall v ∷ [] = f ∙ ap (λ cs. cs ++ ListCall v ∷ []) (e ∙ ap (λ cs. cs ++ Common ∷ []) z) in
    let r : Replayed m m' (Common ∷ ListCall v ∷ []) after = subst (λ (cs : List Call). Replayed m m' cs after) is (subst (λ (xs : List Answer). Replayed m m' calls (drop (length xs) after)) none made.run) in
    record {
      two = two after (Chooses m (full m.count) (InEvery m (full m.count))) (Lists m (full m.count) (length (vec_items v))) r.long (λ d. r.each o 0 Common d (omega arith)) (λ d. r.each o 1 Common d (omega arith));
      each = λ common listed places e.
          let q : Replayed m m' (Common ∷ ListCall v ∷ []) (Chosen common ∷ Listed listed places ∷ []) = subst (λ (xs : List Answer). Replayed m m' (Common ∷ ListCall v ∷ []) xs) e r in
          (q.each o 0 Common (Chosen common) (omega arith), subst (λ (k : ℕ). Lists m (full m.count) k (vec_items places) listed) long (q.each o 1 Common (Chosen common) (omega arith)));
    }

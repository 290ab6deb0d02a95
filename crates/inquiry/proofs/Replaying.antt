-- A run of calls so far.
use Rattle.std.proofs.Common.{◌≡◌, ℕ, ◌<◌, ◌≤◌, true, List, [], ◌∷◌, ◌++◌, length, get_or, take, drop, fold, sym, refl, ap, ◌∙◌, subst, subst₂, ⊎_elim, arith}
use Rattle.std.proofs.lemmas.List.{append_assoc, append-nil, get_or_append_left, get_or_push, length_push, take-append-le, drop-append-le, take_all}
use Rattle.std.proofs.lemmas.Bool.{cases_lt}
use Rattle.itemset.specs.Sets.{full}
use Rattle.criterion.specs.Meaning.{Meaning}
use Rattle.inquiry.specs.Runs.{Answered, Replayed, after, told}
use Rattle.inquiry.specs.declared.calls.Call.{Call}
use Rattle.inquiry.specs.declared.calls.Answer.{Answer}

folded_push : {A X : Type 0} (f : A → X → A) (a : A) (xs : List X) (x : X) → fold f a (xs ++ x ∷ []) ≡ f (fold f a xs) x
folded_push f a [] x = refl
folded_push f a (y ∷ ys) x = folded_push f (f a y) ys x

-- the calls done and the calls to come, the answers so far, and the scope
pub record Going (m : Meaning) (calls done rest : List Call) (answers : List Answer) (s : ℕ) : Type 0 where
  pub parts : done ++ rest ≡ calls
  pub long : length answers ≡ length done
  pub scope : s ≡ told m.count done
  pub each : m.order ≡ true → (k : ℕ) (c : Call) (a : Answer) → k < length done → Answered m (told m.count (take k done)) (get_or done k c) (get_or answers k a)

pub going_none : (m : Meaning) (calls : List Call) (s : ℕ) → s ≡ full m.count → Going m calls [] calls [] s
going_none m calls s e = record { parts = refl; long = refl; scope = e; each = λ o k c a lt. absurd (omega arith) }

module _ (m : Meaning) (calls : List Call) where
  pub going_more : (done rest later : List Call) (answers : List Answer) (s s' : ℕ) (call : Call) (answer : Answer) → Going m calls done rest answers s
      → rest ≡ call ∷ later → s' ≡ after m.count s call → (m.order ≡ true → Answered m s call answer)
      → Going m calls (done ++ call ∷ []) later (answers ++ answer ∷ []) s'
  going_more done rest later answers s s' call answer go e es h = record {
    parts = append_assoc done (call ∷ []) later ∙ ap (λ xs. done ++ xs) (sym e) ∙ go.parts;
    long = omega (arith, length_push answers answer, length_push done call, go.long);
    scope = es ∙ ap (λ x. after m.count x call) go.scope ∙ sym (folded_push (after m.count) (full m.count) done call);
    each = λ o k c a lt. ⊎_elim (earlier o k c a) (λ ge. here o k c a (omega (arith, lt, length_push done call, ge))) (cases_lt k (length done));
  }
    where
      goal : ℕ → Call → Answer → Type 0
      goal k c a = Answered m (told m.count (take k (done ++ call ∷ []))) (get_or (done ++ call ∷ []) k c) (get_or (answers ++ answer ∷ []) k a)

      earlier : m.order ≡ true → (k : ℕ) (c : Call) (a : Answer) → k < length done → goal k c a
      earlier o k c a lt =
          let before : take k (done ++ call ∷ []) ≡ take k done = take-append-le k done (call ∷ []) (omega arith) in
          let one : get_or (done ++ call ∷ []) k c ≡ get_or done k c = get_or_append_left done (call ∷ []) c k lt in
          let other : get_or (answers ++ answer ∷ []) k a ≡ get_or answers k a = get_or_append_left answers (answer ∷ []) a k (omega (arith, go.long)) in
          subst (λ xs. Answered m (told m.count xs) (get_or (done ++ call ∷ []) k c) (get_or (answers ++ answer ∷ []) k a)) (sym before) (subst₂ (λ x y. Answered m (told m.count (take k done)) x y) (sym one) (sym other) (go.each o k c a lt))

      here : m.order ≡ true → (k : ℕ) (c : Call) (a : Answer) → k ≡ length done → goal k c a
      here o k c a e =
          let before : take k (done ++ call ∷ []) ≡ done = take-append-le k done (call ∷ []) (omega arith) ∙ take_all k done (omega arith) in
          let one : get_or (done ++ call ∷ []) k c ≡ call = get_or_push done call c k (sym e) in
          let other : get_or (answers ++ answer ∷ []) k a ≡ answer = get_or_push answers answer a k (go.long ∙ sym e) in
          let at : s ≡ told m.count (take k (done ++ call ∷ [])) = go.scope ∙ ap (told m.count) (sym before) in
          subst (λ x. Answered m x (get_or (done ++ call ∷ []) k c) (get_or (answers ++ answer ∷ []) k a)) at (subst₂ (λ x y. Answered m s x y) (sym one) (sym other) (h o))

  pub going_all : (m' : Meaning) (done rest : List Call) (answers : List Answer) (s : ℕ) → m' ≡ m → Going m calls done rest answers s → rest ≡ [] → Replayed m m' calls answers
  going_all m' done rest answers s em go e =
      let whole : done ≡ calls = sym (append-nil done) ∙ ap (λ xs. done ++ xs) (sym e) ∙ go.parts in
      record {
        same = em;
        long = go.long ∙ ap length whole;
        each = λ o k c a lt. subst (λ xs. Answered m (told m.count (take k xs)) (get_or xs k c) (get_or answers k a)) whole (go.each o k c a (subst (λ xs. k < length xs) (sym whole) lt));
      }

-- one turn of the loop, with the facts as the calls of the turn give them
pub going_turn : {m at : Meaning} {calls done rest later : List Call} {answers answers' : List Answer} {n s s' : ℕ} (call : Call) (answer : Answer)
    → at ≡ m → n ≡ m.count → Going m calls done rest answers s → rest ≡ call ∷ later → answers' ≡ answers ++ answer ∷ [] → s' ≡ after n s call
    → (at.order ≡ true → Answered at s call answer) → Going m calls (done ++ call ∷ []) later answers' s'
going_turn {m} {at} {calls} {done} {rest} {later} {answers} {answers'} {n} {s} {s'} call answer em en go e ea es h =
    subst (λ xs. Going m calls (done ++ call ∷ []) later xs s') (sym ea)
    (going_more m calls done rest later answers s s' call answer go e (es ∙ ap (λ k. after k s call) en) (λ o. subst (λ x. Answered x s call answer) em (h (ap (λ x. x.order) em ∙ o))))

-- ---- answers behind those that were there

-- one answer more
pub behind_kept : (n : ℕ) (xs ys before : List Answer) (a : Answer) → n ≡ length before → take n xs ≡ before → ys ≡ xs ++ a ∷ [] → n ≤ length xs → take n ys ≡ before
behind_kept n xs ys before a l e f le = ap (take n) f ∙ take-append-le n xs (a ∷ []) le ∙ e

pub behind_more : (n : ℕ) (xs ys : List Answer) (a : Answer) → ys ≡ xs ++ a ∷ [] → n ≤ length xs → drop n ys ≡ drop n xs ++ a ∷ []
behind_more n xs ys a f le = ap (drop n) f ∙ drop-append-le n xs (a ∷ []) le

-- From plans to sheets and back.
use Rattle.std.specs.Prelude.{◌≡◌, ℕ, zero, suc, ◌+◌, ◌-◌, ◌<◌, ◌≤◌, Bool, true, false, cond, leb, ◌⊎◌, List, [], ◌∷◌, ◌++◌, map, length, drop, replicate, ◌≢◌, nat_le, nat_lt, refl}
use Rattle.std.proofs.Common.{sym, ap, ap₂, subst, ◌∙◌, append_assoc, append-nil, inl, inr, ⊎_elim, zero-le, arith, length-drop}
use Rattle.std.proofs.lemmas.List.{length-append, length-map, length-replicate}
use Rattle.std.proofs.lemmas.Bool.{and_from, and_parts, le-leb, leb-true, lt-ltb, ltb-true, eqb-true, cond-true}
use Rattle.base.specs.Outcomes.{accepted, refused}
use Rattle.base.specs.Sheets.{Read, got, stop, all_of, counted, many, passing, whole}
use Rattle.base.proofs.Reading.{then_got, then_split, got_same}
use Rattle.base.proofs.Tells.{passing_tells, words_tell, whole_tells}
use Rattle.base.proofs.Finds.{At, passing_finds, words_find, whole_finds}
use Rattle.base.proofs.Stops.{Placed, passing_placed, then_placed, got_placed, many_placed}
use Rattle.joints.specs.Plans.{Plan, links, sheet, sound, word}
use Rattle.joints.specs.Admission.{joint, clear, fine, plan_at, admission}
use Rattle.joints.specs.Lawful.{sound_parts}
use Rattle.joints.specs.RoundTrip.{SheetOfAdmitted, AdmissionOfSheet, RefusedWhere, LeftOver}
use Rattle.joints.proofs.Words.{joints_words, fine_words, words_joints, links_joints}

length_nil : (xs : List ℕ) → length xs ≡ 0 → xs ≡ []
length_nil [] e = refl
length_nil (x ∷ xs) e = absurd (omega (arith, e))

-- from the parts of a plan
pub parts_sound : (p : Plan) → p.bodies ≤ 32 → length p.joints ≤ 31 → all_of (links p.bodies) p.joints ≡ true → sound p ≡ true
parts_sound p small few ls =
    and_from (nat_le p.bodies 32) _ (le-leb p.bodies 32 small) (and_from (nat_le (length p.joints) 31) (all_of (links p.bodies) p.joints) (le-leb (length p.joints) 31 few) ls)

-- ---- words 0

clear_zeros : (b : ℕ) → all_of clear (replicate b 0) ≡ true
clear_zeros zero = refl
clear_zeros (suc b) = clear_zeros b

zeros_clear : (ws : List ℕ) (b : ℕ) → length ws ≡ b → all_of clear ws ≡ true → ws ≡ replicate b 0
zeros_clear [] b e t = ap (λ (n : ℕ). replicate n 0) e
zeros_clear (w ∷ ws) b e t =
    let p = and_parts (clear w) (all_of clear ws) t in
    ap₂ (λ (x : ℕ) (xs : List ℕ). x ∷ xs) (eqb-true w 0 p.0) (zeros_clear ws (length ws) refl p.1) ∙ ap (λ (n : ℕ). replicate n 0) e

-- ---- what was read is a sheet, and more words may follow

plan_tells : (ws : List ℕ) (p : Plan) (m : ℕ) → plan_at ws 0 ≡ got p m → (ws ≡ sheet p ++ drop m ws) × (sound p ≡ true)
plan_tells ws p m e =
    let a = then_split (counted 32 ws 0) _ p m e in
    let b = a.0 in
    let c = then_split (many (passing clear 6 ws) b a.1) _ p m a.3 in
    let d = then_split (counted 31 ws c.1) _ p m c.3 in
    let f = then_split (many (passing (fine b) 7 ws) d.0 d.1) _ p m d.3 in
    let js = f.0 in
    let same = got_same f.3 in
    let ta = passing_tells (λ n. leb n 32) 3 ws 0 a.1 b a.2 in
    let tc = words_tell clear 6 ws b a.1 c.1 c.0 c.2 in
    let td = passing_tells (λ n. leb n 31) 3 ws c.1 d.1 d.0 d.2 in
    let tf = words_tell (fine b) 7 ws d.0 d.1 f.1 js f.2 in
    let zeros : c.0 ≡ replicate b 0 = zeros_clear c.0 b tc.2 tc.1 in
    let many_joints : length (map joint js) ≡ d.0 = length-map js joint ∙ tf.2 in
    let rest : drop f.1 ws ≡ drop m ws = ap (λ (k : ℕ). drop k ws) same.1 in
    let words : ws ≡ b ∷ (replicate b 0 ++ (length (map joint js) ∷ (map word (map joint js) ++ drop m ws))) =
    ta.0 ∙ ap (λ us. b ∷ us) (tc.0 ∙ ap₂ (λ (xs ys : List ℕ). xs ++ ys) zeros
    (td.0 ∙ ap₂ (λ (x : ℕ) (us : List ℕ). x ∷ us) (sym many_joints) (tf.0 ∙ ap₂ (λ (xs ys : List ℕ). xs ++ ys) (sym (words_joints js)) rest))) in
    let ok : sound (record { bodies = b; joints = map joint js }) ≡ true =
    parts_sound (record { bodies = b; joints = map joint js }) (leb-true b 32 ta.1) (subst (λ (n : ℕ). n ≤ 31) (sym many_joints) (leb-true d.0 31 td.1)) (links_joints b js tf.1) in
    subst (λ q. (ws ≡ sheet q ++ drop m ws) × (sound q ≡ true)) same.0
    (words ∙ ap (λ us. b ∷ us) (sym (append_assoc (replicate b 0) (length (map joint js) ∷ map word (map joint js)) (drop m ws))), ok)

pub sheet_of_admitted : SheetOfAdmitted
sheet_of_admitted ws p e =
    let w = whole_tells ws (plan_at ws 0) p e in
    let t = plan_tells ws p w.0 w.1 in
    (sym (t.0 ∙ ap (λ us. sheet p ++ us) w.2 ∙ append-nil (sheet p)), t.1)

-- ---- a sheet is read as its plan, whatever follows

plan_read : (ws : List ℕ) (i j k l m b n : ℕ) (zs js : List ℕ) → counted 32 ws i ≡ got b j → many (passing clear 6 ws) b j ≡ got zs k
    → counted 31 ws k ≡ got n l → many (passing (fine b) 7 ws) n l ≡ got js m → plan_at ws i ≡ got (record { bodies = b; joints = map joint js }) m
plan_read ws i j k l m b n zs js p q r s = then_got _ p ∙ then_got _ q ∙ then_got _ r ∙ then_got _ s

plan_finds : (p : Plan) (ws us : List ℕ) → sound p ≡ true → ws ≡ sheet p ++ us → (m : ℕ) × (plan_at ws 0 ≡ got p m) × At ws m us
plan_finds p ws us t e =
    let b = p.bodies in
    let q = sound_parts p t in
    let zs = replicate b 0 in
    let js = map word p.joints in
    let nz : length zs ≡ b = length-replicate {A = ℕ} b 0 in
    let nj : length js ≡ length p.joints = length-map p.joints word in
    let a = passing_finds (λ n. leb n 32) 3 ws 0 b (zs ++ (length p.joints ∷ (js ++ us))) (le-leb b 32 q.0) (e ∙ ap (λ vs. b ∷ vs) (append_assoc zs (length p.joints ∷ js) us), zero-le) in
    let c = words_find clear 6 ws a.0 zs (length p.joints ∷ (js ++ us)) (clear_zeros b) a.2 in
    let d = passing_finds (λ n. leb n 31) 3 ws c.0 (length p.joints) (js ++ us) (le-leb (length p.joints) 31 q.1) c.2 in
    let f = words_find (fine b) 7 ws d.0 js us (fine_words b p.joints q.0 q.2) d.2 in
    let read : plan_at ws 0 ≡ got (record { bodies = b; joints = map joint js }) f.0 =
    plan_read ws 0 a.0 c.0 d.0 f.0 b (length p.joints) zs js a.1 (ap (λ (n : ℕ). many (passing clear 6 ws) n a.0) (sym nz) ∙ c.1) d.1
    (ap (λ (n : ℕ). many (passing (fine b) 7 ws) n d.0) (sym nj) ∙ f.1) in
    (f.0, read ∙ ap (λ ks. got (record { bodies = b; joints = ks }) f.0) (joints_words b p.joints q.0 q.2), f.2)

pub admission_of_sheet : AdmissionOfSheet
admission_of_sheet p t = let f = plan_finds p (sheet p) [] t (sym (append-nil (sheet p))) in whole_finds (sheet p) (plan_at (sheet p) 0) p f.0 f.1 f.2

-- ---- where a sheet is refused

-- what a part of a sheet may stop with
Where : List ℕ → ℕ → ℕ → Type 0
Where ws n k = (n ≢ 5) × (n ≡ 1 → k ≡ length ws) × ((n ≢ 1) → k < length ws)

plan_placed : (ws : List ℕ) → Placed ws (Where ws) (plan_at ws)
unfolding Where
plan_placed ws =
    then_placed ws (Where ws) (counted 32 ws) _ (passes (λ n. leb n 32) 3 (λ e. omega (arith, e)) (λ e. omega (arith, e))) (λ b.
    then_placed ws (Where ws) (many (passing clear 6 ws) b) _ (many_placed ws (Where ws) (passing clear 6 ws) (passes clear 6 (λ e. omega (arith, e)) (λ e. omega (arith, e))) b) (λ zs.
    then_placed ws (Where ws) (counted 31 ws) _ (passes (λ n. leb n 31) 3 (λ e. omega (arith, e)) (λ e. omega (arith, e))) (λ n.
    then_placed ws (Where ws) (many (passing (fine b) 7 ws) n) _ (many_placed ws (Where ws) (passing (fine b) 7 ws) (passes (fine b) 7 (λ e. omega (arith, e)) (λ e. omega (arith, e))) n) (λ js.
    got_placed ws (Where ws) (record { bodies = b; joints = map joint js })))))
  where
    passes : (test : ℕ → Bool) (c : ℕ) → (c ≢ 5) → (c ≢ 1) → Placed ws (Where ws) (passing test c ws)
    passes test c five one = passing_placed ws (Where ws) test c (λ e. omega (arith, e), λ e. refl, λ ne. absurd (ne refl)) (λ k lt. (five, λ e. absurd (one e), λ ne. lt))

-- a whole sheet is refused by a part of it, or at the first word left over
refused_by : {X : Type 0} (ws : List ℕ) (r : Read X) (n i : ℕ) → whole ws r ≡ refused n i → ((x : X) × (r ≡ got x i) × (n ≡ 5) × (i < length ws)) ⊎ (r ≡ stop n i)
refused_by ws (got x j) n i e = inl (go (nat_lt j (length ws)) refl e)
  where
    go : (b : Bool) → nat_lt j (length ws) ≡ b → cond b (refused 5 j) (accepted x) ≡ refused n i → (y : _) × (got x j ≡ got y i) × (n ≡ 5) × (i < length ws)
    go true t h = let same : j ≡ i = cc in (x, ap (λ (k : ℕ). got x k) same, cc, subst (λ (k : ℕ). k < length ws) same (ltb-true j (length ws) t))
    go false t h = let z : ◌≡◌ {A = ℕ} 0 1 = cc in absurd (omega arith)
refused_by ws (stop m k) n i e = let a : m ≡ n = cc in let b : k ≡ i = cc in inr (ap₂ (λ (x y : ℕ). stop x y) a b)

pub refused_where : RefusedWhere
unfolding Where
refused_where ws n i e =
    ⊎_elim
    (λ s. let five = s.2 in (λ one. absurd (omega arith), λ ne. s.3))
    (λ s. let w = (plan_placed ws).stops 0 n i zero-le s in (w.1, w.2))
    (refused_by ws (plan_at ws 0) n i e)

pub left_over : LeftOver
unfolding Where
left_over ws i = (found, kept)
  where
    found : admission ws ≡ refused 5 i → (p : Plan) × (rest : List ℕ) × (sound p ≡ true) × (rest ≢ []) × (ws ≡ sheet p ++ rest) × (i ≡ length (sheet p))
    found e =
        ⊎_elim
        (λ s. let t = plan_tells ws s.0 i s.1 in
        let n : length (drop i ws) ≡ length ws - i = length-drop i ws in
        let whole_length : length ws ≡ length (sheet s.0) + length (drop i ws) = ap length t.0 ∙ length-append (sheet s.0) (drop i ws) in
        let lt = s.3 in
        (s.0, drop i ws, t.1, λ z. omega (arith, n, ap length z, lt), t.0, omega (arith, n, whole_length, lt)))
        (λ s. absurd (((plan_placed ws).stops 0 5 i zero-le s).0 refl))
        (refused_by ws (plan_at ws 0) 5 i e)

    kept : (p : Plan) × (rest : List ℕ) × (sound p ≡ true) × (rest ≢ []) × (ws ≡ sheet p ++ rest) × (i ≡ length (sheet p)) → admission ws ≡ refused 5 i
    kept h =
        let p = h.0 in
        let rest = h.1 in
        let f = plan_finds p ws rest h.2 h.4 in
        let m = f.0 in
        let whole_length : length ws ≡ length (sheet p) + length rest = ap length h.4 ∙ length-append (sheet p) rest in
        let n : length (drop m ws) ≡ length ws - m = length-drop m ws in
        let r : length (drop m ws) ≡ length rest = ap length f.2.0 in
        let le = f.2.1 in
        let at : m ≡ i = omega (arith, whole_length, n, r, le, h.5) in
        let some_rest : length rest ≡ 0 → ⊥ = λ z. h.3 (length_nil rest z) in
        let lt : m < length ws = omega (arith, some_rest, n, r, le) in
        ap (whole ws) f.1 ∙ cond-true (nat_lt m (length ws)) (refused 5 m) (accepted p) (lt-ltb m (length ws) lt) ∙ ap (refused 5) at

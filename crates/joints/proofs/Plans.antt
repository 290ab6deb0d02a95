-- The plans of the code.
use Rattle.std.proofs.Common.{◌≡◌, ℕ, ◌+◌, ◌-◌, ◌^◌, ◌<◌, ◌≤◌, true, List, [], ◌∷◌, ◌++◌, map, length, get_or, drop, set, replicate, sym, refl, ap, ◌∙◌, subst, append_assoc, arith}
use lib.Seq.{paste}
use borrow.Rule.Slice.PartMut.{put_mid}
use Rattle.std.proofs.lemmas.List.{get_or-map, length-map, length-append, length-replicate, length-set}
use Rattle.std.proofs.lemmas.List.Edits.{length-paste}
use Rattle.std.proofs.lemmas.Slice.{put_mid-paste}
use Rattle.base.proofs.Tests.{all_at, all_push}
use Rattle.base.proofs.Writing.{front_paste, front_set}
use Rattle.joints.specs.Plans.{Joint, Plan, links, sheet, sound, word}
use Rattle.joints.specs.Admission.{joint}
use Rattle.joints.specs.Lawful.{links_parts, sound_parts}
use Rattle.joints.proofs.Trips.{parts_sound}

-- ---- one joint more

pub sound_push : (b : ℕ) (js : List Joint) (j : Joint) → sound (record { bodies = b; joints = js }) ≡ true → length js < 31 → links b j ≡ true → sound (record { bodies = b; joints = js ++ j ∷ [] }) ≡ true
sound_push b js j t few l =
    let q = sound_parts (record { bodies = b; joints = js }) t in
    let n = length-append js (j ∷ []) in
    parts_sound (record { bodies = b; joints = js ++ j ∷ [] }) q.0 (omega arith) (all_push (links b) js j q.2 l)

-- ---- the joints of a draft, one after another

-- word k of a sound draft links, and has few bits
pub draft_links : (b : ℕ) (ws : List ℕ) (k : ℕ) → sound (record { bodies = b; joints = map joint ws }) ≡ true → k < length ws → links b (joint (get_or ws k 0)) ≡ true
draft_links b ws k t l =
    let q = sound_parts (record { bodies = b; joints = map joint ws }) t in
    ap (links b) (sym (get_or-map joint ws k 0 (joint 0) l)) ∙ all_at (links b) (map joint ws) k (joint 0) q.2 (subst (λ (n : ℕ). k < n) (sym (length-map ws joint)) l)

pub draft_bits : (b : ℕ) (ws : List ℕ) (k : ℕ) → sound (record { bodies = b; joints = map joint ws }) ≡ true → k < length ws → get_or ws k 0 < 2 ^ 24
draft_bits b ws k t l = let c = (links_parts b (joint (get_or ws k 0)) (draft_links b ws k t l)).classed in omega arith

pub draft_few : (b : ℕ) (ws : List ℕ) → sound (record { bodies = b; joints = map joint ws }) ≡ true → (b ≤ 32) × (length ws ≤ 31)
draft_few b ws t =
    let q = sound_parts (record { bodies = b; joints = map joint ws }) t in
    (q.0, subst (λ (n : ℕ). n ≤ 31) (length-map ws joint) q.1)

-- ---- the sheet, part by part

pub length_sheet : (p : Plan) → length (sheet p) ≡ p.bodies + length p.joints + 2
length_sheet p =
    let zs : length (replicate {A = ℕ} p.bodies 0) ≡ p.bodies = length-replicate {A = ℕ} p.bodies 0 in
    let js : length (map word p.joints) ≡ length p.joints = length-map p.joints word in
    let e = length-append (replicate p.bodies 0) (length p.joints ∷ map word p.joints) in
    omega arith

-- the words of the bodies leave the buffer as long as it was
pub bodies_length : (d zs : List ℕ) (b v : ℕ) → length zs ≡ b → b + 2 ≤ length d → length (put_mid 1 (b + 1 - 1) (set d 0 v) zs) ≡ length d
bodies_length d zs b v n l =
    let e = length-set d 0 v in
    ap length (put_mid-paste 1 (b + 1 - 1) (set d 0 v) zs zs b refl (omega arith) (sym n)) ∙ length-paste (set d 0 v) 1 zs b (omega (arith, e, l)) (omega (arith, n)) ∙ e

-- the count of bodies, their words, the count of joints and their words, one behind another
pub sheet_laid : (d zs : List ℕ) (p : Plan) (k : ℕ) → length (sheet p) ≤ length d → zs ≡ replicate p.bodies 0 → k ≡ length p.joints
    → paste (set (put_mid 1 (p.bodies + 1 - 1) (set d 0 p.bodies) zs) (p.bodies + 1) (length p.joints)) (p.bodies + 2) (map word p.joints) k ≡ sheet p ++ drop (length (sheet p)) d
sheet_laid d zs p k fit z all =
    let b = p.bodies in
    let n = length p.joints in
    let ws = map word p.joints in
    let f = length_sheet p in
    let one = front_set d d [] 0 b refl refl (omega (arith, f, fit)) in
    let zeros : length zs ≡ b = ap length z ∙ length-replicate b 0 in
    let mid = put_mid-paste 1 (b + 1 - 1) (set d 0 b) zs zs b refl (omega arith) (sym zeros) in
    let two = mid ∙ front_paste d (set d 0 b) (b ∷ []) zs 1 b one refl (sym zeros) in
    let long = bodies_length d zs b b zeros (omega (arith, f, fit)) in
    let three = front_set d (put_mid 1 (b + 1 - 1) (set d 0 b) zs) (b ∷ zs) (b + 1) n two (omega (arith, zeros)) (omega (arith, long, f, fit)) in
    let four = front_paste d _ (b ∷ (zs ++ n ∷ [])) ws (b + 2) k three (omega (arith, zeros, length-append zs (n ∷ []))) (all ∙ sym (length-map p.joints word)) in
    let same : b ∷ ((zs ++ n ∷ []) ++ ws) ≡ sheet p = ap (λ xs. b ∷ xs) (append_assoc zs (n ∷ []) ws ∙ ap (λ xs. xs ++ (n ∷ ws)) z) in
    four ∙ ap (λ xs. xs ++ drop (length xs) d) same

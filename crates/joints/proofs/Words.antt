-- A joint and its word.
use Rattle.std.specs.Prelude.{◌≡◌, ℕ, ◌+◌, ◌*◌, ◌/◌, ◌%◌, ◌^◌, ◌<◌, ◌≤◌, true, List, [], ◌∷◌, map, nat_lt, refl}
use Rattle.std.proofs.Common.{ap, ap₂, ◌∙◌, arith}
use Rattle.std.proofs.lemmas.Bool.{and_from, and_parts, lt-ltb, ltb-true}
use Rattle.base.specs.Sheets.{all_of}
use Rattle.joints.specs.Plans.{Joint, links, word}
use Rattle.joints.specs.Admission.{joint, fine}
use Rattle.joints.specs.Lawful.{links_parts}

module _ (f s c : ℕ) (p : f < 32) (q : s < 32) (r : c ≤ 2) where
  first_is : (f + 256 * s + 65536 * c) % 256 ≡ f
  first_is = omega arith

  second_is : (f + 256 * s + 65536 * c) / 256 % 256 ≡ s
  second_is = omega arith

  class_is : (f + 256 * s + 65536 * c) / 65536 ≡ c
  class_is = omega arith

-- from a joint to its word and back
pub joint_word : (b : ℕ) (j : Joint) → b ≤ 32 → links b j ≡ true → joint (word j) ≡ j
joint_word b j small t =
    let l = links_parts b j t in
    let lo = l.low in
    let hi = l.high in
    let f = j.first in
    let s = j.second in
    let c = j.class in
    ap₂ (λ (x : ℕ) (g : ℕ × ℕ). record { first = x; second = g.0; class = g.1 }) (first_is f s c (omega arith) (omega arith) l.classed)
    (ap₂ (λ (y z : ℕ). (y, z)) (second_is f s c (omega arith) (omega arith) l.classed) (class_is f s c (omega arith) (omega arith) l.classed))

pub fine_word : (b : ℕ) (j : Joint) → b ≤ 32 → links b j ≡ true → fine b (word j) ≡ true
fine_word b j small t =
    let l = links_parts b j t in
    and_from (nat_lt (word j) (2 ^ 24)) (links b (joint (word j))) (lt-ltb (word j) (2 ^ 24) (omega (arith, l.low, l.high, l.classed))) (ap (links b) (joint_word b j small t) ∙ t)

-- from a word to its joint and back
pub word_joint : (w : ℕ) → word (joint w) ≡ w
word_joint w = omega arith

pub fine_links : (b w : ℕ) → fine b w ≡ true → (w < 2 ^ 24) × (links b (joint w) ≡ true)
fine_links b w t = let p = and_parts (nat_lt w (2 ^ 24)) (links b (joint w)) t in (ltb-true w (2 ^ 24) p.0, p.1)

-- ---- lists of them

pub joints_words : (b : ℕ) (js : List Joint) → b ≤ 32 → all_of (links b) js ≡ true → map joint (map word js) ≡ js
joints_words b [] small t = refl
joints_words b (j ∷ js) small t =
    let p = and_parts (links b j) (all_of (links b) js) t in
    ap₂ (λ (x : Joint) (xs : List Joint). x ∷ xs) (joint_word b j small p.0) (joints_words b js small p.1)

pub fine_words : (b : ℕ) (js : List Joint) → b ≤ 32 → all_of (links b) js ≡ true → all_of (fine b) (map word js) ≡ true
fine_words b [] small t = refl
fine_words b (j ∷ js) small t =
    let p = and_parts (links b j) (all_of (links b) js) t in
    and_from (fine b (word j)) (all_of (fine b) (map word js)) (fine_word b j small p.0) (fine_words b js small p.1)

pub words_joints : (ws : List ℕ) → map word (map joint ws) ≡ ws
words_joints [] = refl
words_joints (w ∷ ws) = ap₂ (λ (x : ℕ) (xs : List ℕ). x ∷ xs) (word_joint w) (words_joints ws)

pub links_joints : (b : ℕ) (ws : List ℕ) → all_of (fine b) ws ≡ true → all_of (links b) (map joint ws) ≡ true
links_joints b [] t = refl
links_joints b (w ∷ ws) t =
    let p = and_parts (fine b w) (all_of (fine b) ws) t in
    and_from (links b (joint w)) (all_of (links b) (map joint ws)) (fine_links b w p.0).1 (links_joints b ws p.1)

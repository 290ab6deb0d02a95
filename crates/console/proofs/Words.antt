-- The words of the input.
use Rattle.std.proofs.Common.{◌≡◌, ℕ, zero, suc, ◌+◌, ◌*◌, ◌/◌, ◌<◌, List, ◌∷◌, map, length, get_or, take, drop, refl, ap, ◌∙◌, ap₂, lit<, arith}
use Rattle.std.specs.Int.{from_be_bytes, w64}
use Rattle.std.specs.List.{range_with_len}
use Rattle.std.specs.Simd.{first_chunks}
use Rattle.std.proofs.lemmas.List.{get_or-take, get_or-drop, drop-drop}
use Rattle.console.specs.Response.{big_endian, words}

chunk_word : (xs : List ℕ) (n : ℕ) → from_be_bytes w64 (take 8 (drop n xs)) ≡ big_endian xs n
chunk_word xs n =
    let byte : (j : ℕ) → j < 8 → get_or (take 8 (drop n xs)) j 0 ≡ get_or xs (n + j) 0 = λ j low. get_or-take 8 (drop n xs) j 0 low ∙ get_or-drop n xs j 0 in
    omega (arith, byte 0 (lit< tt), byte 1 (lit< tt), byte 2 (lit< tt), byte 3 (lit< tt), byte 4 (lit< tt), byte 5 (lit< tt), byte 6 (lit< tt), byte 7 (lit< tt))

chunk_words : (k a : ℕ) (xs : List ℕ) → map (from_be_bytes w64) (first_chunks 8 k (drop (8 * a) xs)) ≡ map (λ i. big_endian xs (8 * i)) (range_with_len a k)
chunk_words zero a xs = refl
chunk_words (suc k) a xs =
    let next : drop 8 (drop (8 * a) xs) ≡ drop (8 * (a + 1)) xs = drop-drop 8 (8 * a) xs ∙ ap (λ (n : ℕ). drop n xs) (omega arith) in
    ap₂ (λ (w : ℕ) (ws : List ℕ). w ∷ ws) (chunk_word xs (8 * a)) (ap (λ ys. map (from_be_bytes w64) (first_chunks 8 k ys)) next ∙ chunk_words k (a + 1) xs)

pub words_are : (xs : List ℕ) → map (from_be_bytes w64) (first_chunks 8 (length xs / 8) xs) ≡ words xs
words_are xs = chunk_words (length xs / 8) 0 xs

use Rattle.std.proofs.Common.{◌≡◌, map, take, vec_items, vec_len, vec_capacity}
use Rattle.std.specs.Int.{from_be_bytes, w64}
use Rattle.console.proofs.input.read_words.Given as goal

abbrev pub invariant-loop-chunk : goal.invariant-loop-chunk
invariant-loop-chunk l =
    (vec_items l.words ≡ map (from_be_bytes w64) (take l.chunk-index l.chunks))
    × (vec_len l.words ≡ l.chunk-index)
    × (vec_capacity l.words ≡ vec_capacity l.initial.words)

-- For every row a word of it (specs/RowExamples.antt has its numbers) with each of its fixed bits flipped in turn, and what it then is at level 3:
-- undecodable, or a word of another row. So a fixed bit that is left open, and one that is fixed otherwise, are refused. To believe: the lists. The numbers
-- are the second program's (rust/second), which has no table.
-- Assumes nothing.
use Rattle.std.specs.Prelude.{ℕ, ◌+◌, ◌-◌, ◌/◌, ◌%◌, ◌^◌, ◌≡◌, cond, List, [], ◌∷◌, map, eqb}
use Rattle.settings.specs.Answer.{Answer, answer_with}
use Rattle.encoding.specs.Codec.{decode_answer}

-- the bits that no field covers
abbrev pub to_tile_fixed : List ℕ
to_tile_fixed = 31 ∷ 30 ∷ 29 ∷ 28 ∷ 27 ∷ 26 ∷ 25 ∷ 24 ∷ 23 ∷ 22 ∷ 21 ∷ 20 ∷ 19 ∷ 18 ∷ 17 ∷ 16 ∷ 4 ∷ []

abbrev pub zeroing_fixed : List ℕ
zeroing_fixed = 31 ∷ 30 ∷ 29 ∷ 28 ∷ 27 ∷ 26 ∷ 25 ∷ 24 ∷ 23 ∷ 22 ∷ 21 ∷ 20 ∷ 19 ∷ 18 ∷ 17 ∷ 16 ∷ 12 ∷ 11 ∷ 10 ∷ 9 ∷ []

abbrev pub four_fixed : List ℕ
four_fixed = 31 ∷ 30 ∷ 29 ∷ 28 ∷ 27 ∷ 26 ∷ 25 ∷ 24 ∷ 23 ∷ 22 ∷ 21 ∷ 20 ∷ 19 ∷ 18 ∷ 17 ∷ 16 ∷ 15 ∷ 12 ∷ 11 ∷ 10 ∷ 9 ∷ 8 ∷ 1 ∷ 0 ∷ []

abbrev pub two_fixed : List ℕ
two_fixed = 31 ∷ 30 ∷ 29 ∷ 28 ∷ 27 ∷ 26 ∷ 25 ∷ 24 ∷ 23 ∷ 22 ∷ 21 ∷ 20 ∷ 19 ∷ 18 ∷ 17 ∷ 16 ∷ 15 ∷ 12 ∷ 11 ∷ 10 ∷ 9 ∷ 8 ∷ 0 ∷ []

abbrev pub access_fixed : List ℕ
access_fixed = 31 ∷ 30 ∷ 29 ∷ 28 ∷ 27 ∷ 26 ∷ 25 ∷ 24 ∷ 23 ∷ 22 ∷ 21 ∷ 4 ∷ []

abbrev pub predicated_fixed : List ℕ
predicated_fixed = 31 ∷ 30 ∷ 29 ∷ 28 ∷ 27 ∷ 26 ∷ 25 ∷ 24 ∷ 23 ∷ 22 ∷ 21 ∷ 20 ∷ 19 ∷ 18 ∷ 17 ∷ 16 ∷ 9 ∷ []

-- a word with bit i flipped
abbrev pub flipped : ℕ → ℕ → ℕ
flipped w i = cond (eqb (w / 2 ^ i % 2) 0) (w + 2 ^ i) (w - 2 ^ i)

-- the numbers of a word that has this bit flipped
pub record Neighbour : Type 0 where
  pub bit : ℕ
  pub numbers : List ℕ

abbrev at : ℕ → List ℕ → Neighbour
at i ns = record { bit = i; numbers = ns }

-- what is there with bit i flipped: a neighbour's numbers, or no word of the table
abbrev pub flipped_answer : List Neighbour → ℕ → Answer
flipped_answer [] i = answer_with 3 []
flipped_answer (n ∷ ns) i = cond (eqb n.bit i) (answer_with 0 n.numbers) (flipped_answer ns i)

-- a word, its fixed bits, and those of them that make it another row's
pub record FlipExample : Type 0 where
  pub word : ℕ
  pub fixed : List ℕ
  pub neighbours : List Neighbour

abbrev flips : ℕ → List ℕ → List Neighbour → FlipExample
flips w fs ns = record { word = w; fixed = fs; neighbours = ns }

-- in the table's order
unfoldable pub flip_examples : List FlipExample
flip_examples =
    flips 0xC000D64D to_tile_fixed (
    at 29 (7 ∷ 1 ∷ 1 ∷ 0 ∷ 13 ∷ 14 ∷ 5 ∷ 0 ∷ 18 ∷ 0 ∷ 0 ∷ []) ∷
    at 23 (1 ∷ 4 ∷ 1 ∷ 3 ∷ 1 ∷ 14 ∷ 5 ∷ 18 ∷ 0 ∷ 0 ∷ 1 ∷ []) ∷
    at 22 (1 ∷ 2 ∷ 1 ∷ 1 ∷ 5 ∷ 14 ∷ 5 ∷ 18 ∷ 0 ∷ 0 ∷ 1 ∷ []) ∷
    []) ∷
    flips 0xC040DECB to_tile_fixed (
    at 29 (7 ∷ 2 ∷ 1 ∷ 1 ∷ 3 ∷ 14 ∷ 7 ∷ 0 ∷ 22 ∷ 0 ∷ 0 ∷ []) ∷
    at 23 (1 ∷ 8 ∷ 1 ∷ 5 ∷ 1 ∷ 14 ∷ 7 ∷ 22 ∷ 0 ∷ 0 ∷ 1 ∷ []) ∷
    at 22 (1 ∷ 1 ∷ 1 ∷ 0 ∷ 11 ∷ 14 ∷ 7 ∷ 22 ∷ 0 ∷ 0 ∷ 1 ∷ []) ∷
    []) ∷
    flips 0xC0809F2B to_tile_fixed (
    at 29 (7 ∷ 4 ∷ 1 ∷ 2 ∷ 3 ∷ 12 ∷ 7 ∷ 0 ∷ 25 ∷ 0 ∷ 0 ∷ []) ∷
    at 23 (1 ∷ 1 ∷ 1 ∷ 0 ∷ 11 ∷ 12 ∷ 7 ∷ 25 ∷ 0 ∷ 0 ∷ 1 ∷ []) ∷
    at 22 (1 ∷ 8 ∷ 1 ∷ 5 ∷ 1 ∷ 12 ∷ 7 ∷ 25 ∷ 0 ∷ 0 ∷ 1 ∷ []) ∷
    []) ∷
    flips 0xC0C0DF6B to_tile_fixed (
    at 29 (7 ∷ 8 ∷ 1 ∷ 5 ∷ 1 ∷ 14 ∷ 7 ∷ 0 ∷ 27 ∷ 0 ∷ 0 ∷ []) ∷
    at 23 (1 ∷ 2 ∷ 1 ∷ 1 ∷ 3 ∷ 14 ∷ 7 ∷ 27 ∷ 0 ∷ 0 ∷ 1 ∷ []) ∷
    at 22 (1 ∷ 4 ∷ 1 ∷ 2 ∷ 3 ∷ 14 ∷ 7 ∷ 27 ∷ 0 ∷ 0 ∷ 1 ∷ []) ∷
    at 16 (1 ∷ 16 ∷ 1 ∷ 11 ∷ 0 ∷ 14 ∷ 7 ∷ 27 ∷ 0 ∷ 0 ∷ 1 ∷ []) ∷
    []) ∷
    flips 0xC0C1CE4C to_tile_fixed (
    at 29 (7 ∷ 8 ∷ 1 ∷ 6 ∷ 0 ∷ 14 ∷ 3 ∷ 0 ∷ 18 ∷ 1 ∷ 0 ∷ []) ∷
    at 16 (1 ∷ 8 ∷ 1 ∷ 6 ∷ 0 ∷ 14 ∷ 3 ∷ 18 ∷ 0 ∷ 0 ∷ 1 ∷ []) ∷
    []) ∷
    flips 0xC002C3BA zeroing_fixed (
    at 23 (2 ∷ 4 ∷ 1 ∷ 3 ∷ 1 ∷ 14 ∷ 0 ∷ 26 ∷ 0 ∷ 0 ∷ 1 ∷ []) ∷
    at 22 (2 ∷ 2 ∷ 1 ∷ 1 ∷ 5 ∷ 14 ∷ 0 ∷ 26 ∷ 0 ∷ 0 ∷ 1 ∷ []) ∷
    at 9 (6 ∷ 1 ∷ 1 ∷ 0 ∷ 13 ∷ 14 ∷ 0 ∷ 26 ∷ 0 ∷ 0 ∷ 1 ∷ []) ∷
    []) ∷
    flips 0xC042C393 zeroing_fixed (
    at 23 (2 ∷ 8 ∷ 1 ∷ 6 ∷ 0 ∷ 14 ∷ 0 ∷ 19 ∷ 0 ∷ 0 ∷ 1 ∷ []) ∷
    at 22 (2 ∷ 1 ∷ 1 ∷ 0 ∷ 12 ∷ 14 ∷ 0 ∷ 19 ∷ 0 ∷ 0 ∷ 1 ∷ []) ∷
    at 9 (6 ∷ 2 ∷ 1 ∷ 1 ∷ 4 ∷ 14 ∷ 0 ∷ 19 ∷ 0 ∷ 0 ∷ 1 ∷ []) ∷
    []) ∷
    flips 0xC0828372 zeroing_fixed (
    at 23 (2 ∷ 1 ∷ 1 ∷ 0 ∷ 11 ∷ 12 ∷ 0 ∷ 18 ∷ 0 ∷ 0 ∷ 1 ∷ []) ∷
    at 22 (2 ∷ 8 ∷ 1 ∷ 5 ∷ 1 ∷ 12 ∷ 0 ∷ 18 ∷ 0 ∷ 0 ∷ 1 ∷ []) ∷
    at 9 (6 ∷ 4 ∷ 1 ∷ 2 ∷ 3 ∷ 12 ∷ 0 ∷ 18 ∷ 0 ∷ 0 ∷ 1 ∷ []) ∷
    []) ∷
    flips 0xC0C2C371 zeroing_fixed (
    at 23 (2 ∷ 2 ∷ 1 ∷ 1 ∷ 3 ∷ 14 ∷ 0 ∷ 17 ∷ 0 ∷ 0 ∷ 1 ∷ []) ∷
    at 22 (2 ∷ 4 ∷ 1 ∷ 2 ∷ 3 ∷ 14 ∷ 0 ∷ 17 ∷ 0 ∷ 0 ∷ 1 ∷ []) ∷
    at 16 (2 ∷ 16 ∷ 1 ∷ 11 ∷ 0 ∷ 14 ∷ 0 ∷ 17 ∷ 0 ∷ 0 ∷ 1 ∷ []) ∷
    at 9 (6 ∷ 8 ∷ 1 ∷ 5 ∷ 1 ∷ 14 ∷ 0 ∷ 17 ∷ 0 ∷ 0 ∷ 1 ∷ []) ∷
    []) ∷
    flips 0xC0C3C3F5 zeroing_fixed (
    at 16 (2 ∷ 8 ∷ 1 ∷ 7 ∷ 1 ∷ 14 ∷ 0 ∷ 21 ∷ 0 ∷ 0 ∷ 1 ∷ []) ∷
    at 9 (6 ∷ 16 ∷ 1 ∷ 15 ∷ 0 ∷ 14 ∷ 0 ∷ 21 ∷ 0 ∷ 0 ∷ 1 ∷ []) ∷
    []) ∷
    flips 0xC0066CF8 four_fixed (
    at 18 (6 ∷ 1 ∷ 0 ∷ 0 ∷ 7 ∷ 15 ∷ 3 ∷ 24 ∷ 0 ∷ 0 ∷ 1 ∷ []) ∷
    at 10 (3 ∷ 0 ∷ 0 ∷ 0 ∷ 7 ∷ 11 ∷ 0 ∷ 24 ∷ 0 ∷ 0 ∷ 2 ∷ []) ∷
    at 9 (4 ∷ 0 ∷ 0 ∷ 0 ∷ 7 ∷ 11 ∷ 0 ∷ 24 ∷ 0 ∷ 0 ∷ 4 ∷ []) ∷
    []) ∷
    flips 0xC0066AFC two_fixed (
    at 10 (4 ∷ 0 ∷ 0 ∷ 0 ∷ 7 ∷ 11 ∷ 0 ∷ 28 ∷ 0 ∷ 0 ∷ 4 ∷ []) ∷
    at 9 (3 ∷ 0 ∷ 0 ∷ 0 ∷ 7 ∷ 11 ∷ 0 ∷ 28 ∷ 0 ∷ 0 ∷ 2 ∷ []) ∷
    []) ∷
    flips 0xE035DA69 access_fixed (
    at 23 (5 ∷ 4 ∷ 1 ∷ 2 ∷ 1 ∷ 14 ∷ 6 ∷ 0 ∷ 19 ∷ 21 ∷ 0 ∷ []) ∷
    at 22 (5 ∷ 2 ∷ 1 ∷ 1 ∷ 1 ∷ 14 ∷ 6 ∷ 0 ∷ 19 ∷ 21 ∷ 0 ∷ []) ∷
    at 21 (7 ∷ 1 ∷ 1 ∷ 0 ∷ 9 ∷ 14 ∷ 6 ∷ 0 ∷ 19 ∷ 21 ∷ 0 ∷ []) ∷
    []) ∷
    flips 0xC002F13D predicated_fixed (
    at 23 (6 ∷ 4 ∷ 1 ∷ 2 ∷ 1 ∷ 15 ∷ 4 ∷ 29 ∷ 0 ∷ 0 ∷ 1 ∷ []) ∷
    at 22 (6 ∷ 2 ∷ 1 ∷ 1 ∷ 1 ∷ 15 ∷ 4 ∷ 29 ∷ 0 ∷ 0 ∷ 1 ∷ []) ∷
    []) ∷
    flips 0xC042D1B2 predicated_fixed (
    at 23 (6 ∷ 8 ∷ 1 ∷ 6 ∷ 1 ∷ 14 ∷ 4 ∷ 18 ∷ 0 ∷ 0 ∷ 1 ∷ []) ∷
    at 22 (6 ∷ 1 ∷ 1 ∷ 0 ∷ 13 ∷ 14 ∷ 4 ∷ 18 ∷ 0 ∷ 0 ∷ 1 ∷ []) ∷
    []) ∷
    flips 0xC082BD75 predicated_fixed (
    at 23 (6 ∷ 1 ∷ 1 ∷ 0 ∷ 11 ∷ 13 ∷ 7 ∷ 21 ∷ 0 ∷ 0 ∷ 1 ∷ []) ∷
    at 22 (6 ∷ 8 ∷ 1 ∷ 5 ∷ 1 ∷ 13 ∷ 7 ∷ 21 ∷ 0 ∷ 0 ∷ 1 ∷ []) ∷
    []) ∷
    flips 0xC0C2F5B9 predicated_fixed (
    at 23 (6 ∷ 2 ∷ 1 ∷ 1 ∷ 5 ∷ 15 ∷ 5 ∷ 25 ∷ 0 ∷ 0 ∷ 1 ∷ []) ∷
    at 22 (6 ∷ 4 ∷ 1 ∷ 3 ∷ 1 ∷ 15 ∷ 5 ∷ 25 ∷ 0 ∷ 0 ∷ 1 ∷ []) ∷
    at 16 (6 ∷ 16 ∷ 1 ∷ 13 ∷ 0 ∷ 15 ∷ 5 ∷ 25 ∷ 0 ∷ 0 ∷ 1 ∷ []) ∷
    []) ∷
    flips 0xC0C3D5BB predicated_fixed (
    at 16 (6 ∷ 8 ∷ 1 ∷ 6 ∷ 1 ∷ 14 ∷ 5 ∷ 27 ∷ 0 ∷ 0 ∷ 1 ∷ []) ∷
    []) ∷
    flips 0xC00648FC two_fixed (
    at 18 (6 ∷ 1 ∷ 0 ∷ 0 ∷ 7 ∷ 14 ∷ 2 ∷ 28 ∷ 0 ∷ 0 ∷ 1 ∷ []) ∷
    at 10 (3 ∷ 0 ∷ 0 ∷ 0 ∷ 7 ∷ 10 ∷ 0 ∷ 28 ∷ 0 ∷ 0 ∷ 4 ∷ []) ∷
    at 9 (4 ∷ 0 ∷ 0 ∷ 0 ∷ 7 ∷ 10 ∷ 0 ∷ 28 ∷ 0 ∷ 0 ∷ 2 ∷ []) ∷
    []) ∷
    flips 0xC0064EF4 four_fixed (
    at 10 (4 ∷ 0 ∷ 0 ∷ 0 ∷ 7 ∷ 10 ∷ 0 ∷ 20 ∷ 0 ∷ 0 ∷ 2 ∷ []) ∷
    at 9 (3 ∷ 0 ∷ 0 ∷ 0 ∷ 7 ∷ 10 ∷ 0 ∷ 20 ∷ 0 ∷ 0 ∷ 4 ∷ []) ∷
    []) ∷
    flips 0xE071FE4C access_fixed (
    at 23 (5 ∷ 8 ∷ 1 ∷ 6 ∷ 0 ∷ 15 ∷ 7 ∷ 0 ∷ 18 ∷ 17 ∷ 0 ∷ []) ∷
    at 22 (5 ∷ 1 ∷ 1 ∷ 0 ∷ 12 ∷ 15 ∷ 7 ∷ 0 ∷ 18 ∷ 17 ∷ 0 ∷ []) ∷
    at 21 (7 ∷ 2 ∷ 1 ∷ 1 ∷ 4 ∷ 15 ∷ 7 ∷ 0 ∷ 18 ∷ 17 ∷ 0 ∷ []) ∷
    []) ∷
    flips 0xE0BDDCAE access_fixed (
    at 23 (5 ∷ 1 ∷ 1 ∷ 0 ∷ 14 ∷ 14 ∷ 7 ∷ 0 ∷ 5 ∷ 29 ∷ 0 ∷ []) ∷
    at 22 (5 ∷ 8 ∷ 1 ∷ 7 ∷ 0 ∷ 14 ∷ 7 ∷ 0 ∷ 5 ∷ 29 ∷ 0 ∷ []) ∷
    at 21 (7 ∷ 4 ∷ 1 ∷ 3 ∷ 2 ∷ 14 ∷ 7 ∷ 0 ∷ 5 ∷ 29 ∷ 0 ∷ []) ∷
    []) ∷
    flips 0xE0E9F769 access_fixed (
    at 24 (5 ∷ 16 ∷ 1 ∷ 9 ∷ 0 ∷ 15 ∷ 5 ∷ 0 ∷ 27 ∷ 9 ∷ 0 ∷ []) ∷
    at 23 (5 ∷ 2 ∷ 1 ∷ 1 ∷ 1 ∷ 15 ∷ 5 ∷ 0 ∷ 27 ∷ 9 ∷ 0 ∷ []) ∷
    at 22 (5 ∷ 4 ∷ 1 ∷ 2 ∷ 1 ∷ 15 ∷ 5 ∷ 0 ∷ 27 ∷ 9 ∷ 0 ∷ []) ∷
    at 21 (7 ∷ 8 ∷ 1 ∷ 4 ∷ 1 ∷ 15 ∷ 5 ∷ 0 ∷ 27 ∷ 9 ∷ 0 ∷ []) ∷
    []) ∷
    flips 0xE1F5D7EF access_fixed (
    at 24 (5 ∷ 8 ∷ 1 ∷ 7 ∷ 1 ∷ 14 ∷ 5 ∷ 0 ∷ 31 ∷ 21 ∷ 0 ∷ []) ∷
    at 21 (7 ∷ 16 ∷ 1 ∷ 15 ∷ 0 ∷ 14 ∷ 5 ∷ 0 ∷ 31 ∷ 21 ∷ 0 ∷ []) ∷
    []) ∷
    flips 0xE01CD7AB access_fixed (
    at 23 (7 ∷ 4 ∷ 1 ∷ 2 ∷ 3 ∷ 14 ∷ 5 ∷ 0 ∷ 29 ∷ 28 ∷ 0 ∷ []) ∷
    at 22 (7 ∷ 2 ∷ 1 ∷ 1 ∷ 3 ∷ 14 ∷ 5 ∷ 0 ∷ 29 ∷ 28 ∷ 0 ∷ []) ∷
    at 21 (5 ∷ 1 ∷ 1 ∷ 0 ∷ 11 ∷ 14 ∷ 5 ∷ 0 ∷ 29 ∷ 28 ∷ 0 ∷ []) ∷
    []) ∷
    flips 0xE05EF36D access_fixed (
    at 23 (7 ∷ 8 ∷ 1 ∷ 6 ∷ 1 ∷ 15 ∷ 4 ∷ 0 ∷ 27 ∷ 30 ∷ 0 ∷ []) ∷
    at 22 (7 ∷ 1 ∷ 1 ∷ 0 ∷ 13 ∷ 15 ∷ 4 ∷ 0 ∷ 27 ∷ 30 ∷ 0 ∷ []) ∷
    at 21 (5 ∷ 2 ∷ 1 ∷ 1 ∷ 5 ∷ 15 ∷ 4 ∷ 0 ∷ 27 ∷ 30 ∷ 0 ∷ []) ∷
    []) ∷
    flips 0xE099F50E access_fixed (
    at 23 (7 ∷ 1 ∷ 1 ∷ 0 ∷ 14 ∷ 15 ∷ 5 ∷ 0 ∷ 8 ∷ 25 ∷ 0 ∷ []) ∷
    at 22 (7 ∷ 8 ∷ 1 ∷ 7 ∷ 0 ∷ 15 ∷ 5 ∷ 0 ∷ 8 ∷ 25 ∷ 0 ∷ []) ∷
    at 21 (5 ∷ 4 ∷ 1 ∷ 3 ∷ 2 ∷ 15 ∷ 5 ∷ 0 ∷ 8 ∷ 25 ∷ 0 ∷ []) ∷
    []) ∷
    flips 0xE0D8CD0B access_fixed (
    at 24 (7 ∷ 16 ∷ 1 ∷ 11 ∷ 0 ∷ 14 ∷ 3 ∷ 0 ∷ 8 ∷ 24 ∷ 0 ∷ []) ∷
    at 23 (7 ∷ 2 ∷ 1 ∷ 1 ∷ 3 ∷ 14 ∷ 3 ∷ 0 ∷ 8 ∷ 24 ∷ 0 ∷ []) ∷
    at 22 (7 ∷ 4 ∷ 1 ∷ 2 ∷ 3 ∷ 14 ∷ 3 ∷ 0 ∷ 8 ∷ 24 ∷ 0 ∷ []) ∷
    at 21 (5 ∷ 8 ∷ 1 ∷ 5 ∷ 1 ∷ 14 ∷ 3 ∷ 0 ∷ 8 ∷ 24 ∷ 0 ∷ []) ∷
    []) ∷
    flips 0xE1D8DF4A access_fixed (
    at 24 (7 ∷ 8 ∷ 1 ∷ 5 ∷ 0 ∷ 14 ∷ 7 ∷ 0 ∷ 26 ∷ 24 ∷ 0 ∷ []) ∷
    at 21 (5 ∷ 16 ∷ 1 ∷ 10 ∷ 0 ∷ 14 ∷ 7 ∷ 0 ∷ 26 ∷ 24 ∷ 0 ∷ []) ∷
    []) ∷
    []

-- every flip of every row
abbrev pub FlipsHold : Type 0
FlipsHold =
    map (λ (e : FlipExample). map (λ i. decode_answer (flipped e.word i) 3) e.fixed) flip_examples ≡ map (λ (e : FlipExample). map (flipped_answer e.neighbours) e.fixed) flip_examples

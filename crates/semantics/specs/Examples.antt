-- The worked examples of 01 §7 marked *, in full, as one claim: what the words mean, where the bytes lie, and what execution
-- gives; with 12, parts beyond 01's sentences that are marked so, and the examples of the words that 02's requests add. To believe:
-- what each part says (those about words and places, and of the added words, stand in files of their own).
-- Assumes nothing.
use Rattle.std.specs.Prelude.{ℕ, ◌+◌, ◌*◌, ◌-◌, ◌/◌, ◌%◌, ◌^◌, ◌≡◌, true, false, cond, List, [], ◌∷◌, ◌++◌, map, eqb, set, take, drop, replicate}
use Rattle.encoding.specs.Examples.{WordsHold}
use Rattle.tiles.specs.Examples.{PlacesHold}
use Rattle.settings.specs.Settings.{settings_of}
use Rattle.semantics.specs.State.{state_of}
use Rattle.semantics.specs.Execute.{execute_of}
use Rattle.semantics.specs.Run.{Ran, run_of}
use Rattle.semantics.specs.ExampleBuffers.{bytes_from, switched, settings_at, state_at, seen, alternate, vector_in, z_at, za_at, memory_of, x_with, ones, predicate0, Seen, executed_in, executed_unchecked, executed, executed_under, executed_at, vectors, done_with, refused_with, outside_with}
use Rattle.semantics.specs.AddedExamples.{AddedHold}
use Rattle.semantics.specs.AccessExamples.{AccessHold}
use Rattle.semantics.specs.ElementExamples.{ElementsHold}
use Rattle.semantics.specs.PlaceExamples.{ExamplePlaces}

-- C0000000: byte tile, row (W12) mod B, P0, Z0
pub record Example1 : Type 0 where
  -- B 16, W12 = 35, so row 3, under alternating bits
  pub moves : executed 16 0xC0000000 8 (x_with 12 35) (predicate0 16 (0x55 ∷ 0x55 ∷ [])) ≡
      done_with (z_at 16) (vectors 16 16 (λ v. cond (eqb v 3) (alternate true (vector_in (z_at 16) 16 0) (vector_in (za_at 16) 16 3)) (vector_in (za_at 16) 16 v))) (memory_of 8)

-- C080ACA9: m = 4, vertical, W13, P3, Z5, tile 2, offset 1; B 32, W13 = 7: slice 0, element e is bytes 0 to 3 of vector 4e + 2
pub record Example2 : Type 0 where
  pub moves : executed 32 0xC080ACA9 8 (x_with 13 7) (ones 32) ≡
      done_with (z_at 32) (vectors 32 32 (λ v. cond (eqb (v % 4) 2) (take 4 (drop (4 * (v / 4)) (vector_in (z_at 32) 32 5)) ++ drop 4 (vector_in (za_at 32) 32 v)) (vector_in (za_at 32) 32 v))) (memory_of 8)
  -- beyond 01's sentence: P3 has bit 4 of each byte clear, so elements 1, 3, 5 and 7 keep what they have
  pub partial : executed 32 0xC080ACA9 8 (x_with 13 7) (replicate 12 255 ++ (replicate 4 0xEF ++ replicate 48 255)) ≡
      done_with (z_at 32) (vectors 32 32 (λ v. cond (eqb (v % 8) 2) (take 4 (drop (4 * (v / 4)) (vector_in (z_at 32) 32 5)) ++ drop 4 (vector_in (za_at 32) 32 v)) (vector_in (za_at 32) 32 v))) (memory_of 8)

-- C0000010 and C0410000: answer 3 at every level
pub record Example3 : Type 0 where
  pub first : (map (λ l. executed_at l 0xC0000010) (0 ∷ 1 ∷ 2 ∷ 3 ∷ [])) ≡ replicate 4 (refused_with 16 8 3)
  pub second : (map (λ l. executed_at l 0xC0410000) (0 ∷ 1 ∷ 2 ∷ 3 ∷ [])) ≡ replicate 4 (refused_with 16 8 3)

-- C0C1000F, B 16: n = 1; vector 15 whatever W12 holds
pub record Example4 : Type 0 where
  pub moves : (w : ℕ) → executed 16 0xC0C1000F 8 (x_with 12 w) (ones 16) ≡ done_with (z_at 16) (take 240 (za_at 16) ++ vector_in (z_at 16) 16 0) (memory_of 8)

-- C0020200: level 2 gives 3; level 3 decodes, which its word says
pub record Example5 : Type 0 where
  pub low : executed_at 2 0xC0020200 ≡ refused_with 16 8 3

-- C0C2E3BF: m = 8, vertical, W15, tile 6, offset 1, Z31; B 64, W15 = 4,294,967,295: slice 0
pub record Example6 : Type 0 where
  pub moves : executed 64 0xC0C2E3BF 8 (x_with 15 4294967295) (ones 64) ≡
      done_with (take (31 * 64) (z_at 64) ++ vectors 8 8 (λ e. take 8 (vector_in (za_at 64) 64 (8 * e + 6))))
      (vectors 64 64 (λ v. cond (eqb (v % 8) 6) (replicate 8 0 ++ drop 8 (vector_in (za_at 64) 64 v)) (vector_in (za_at 64) 64 v))) (memory_of 8)
  -- beyond 01's sentence: W15 = 12, so slice 5, which is bytes 40 to 47 of each vector
  pub later : executed 64 0xC0C2E3BF 8 (x_with 15 12) (ones 64) ≡
      done_with (take (31 * 64) (z_at 64) ++ vectors 8 8 (λ e. take 8 (drop 40 (vector_in (za_at 64) 64 (8 * e + 6)))))
      (vectors 64 64 (λ v. cond (eqb (v % 8) 6) (take 40 (vector_in (za_at 64) 64 v) ++ (replicate 8 0 ++ drop 48 (vector_in (za_at 64) 64 v))) (vector_in (za_at 64) 64 v))) (memory_of 8)

-- C0064CFC: W10, offset 7; B 16, W10 = 2: vectors 1, 5, 9, 13 to Z28 to Z31
pub record Example7 : Type 0 where
  pub moves : executed 16 0xC0064CFC 8 (x_with 10 2) (ones 16) ≡
      done_with (take (28 * 16) (z_at 16) ++ (vector_in (za_at 16) 16 1 ++ (vector_in (za_at 16) 16 5 ++ (vector_in (za_at 16) 16 9 ++ vector_in (za_at 16) 16 13)))) (za_at 16) (memory_of 8)
  -- beyond 01's sentence: B 32, W10 = 22: vectors 5, 13, 21, 29
  pub longer : executed 32 0xC0064CFC 8 (x_with 10 22) (ones 32) ≡
      done_with (take (28 * 32) (z_at 32) ++ (vector_in (za_at 32) 32 5 ++ (vector_in (za_at 32) 32 13 ++ (vector_in (za_at 32) 32 21 ++ vector_in (za_at 32) 32 29)))) (za_at 32) (memory_of 8)

-- C0060A6A: W8, offset 3; B 16, W8 = 6: vectors 1 and 9 to Z10 and Z11, both then zero. C0060A01 gives 3
pub record Example8 : Type 0 where
  pub moves : executed 16 0xC0060A6A 8 (x_with 8 6) (ones 16) ≡
      done_with (take 160 (z_at 16) ++ (vector_in (za_at 16) 16 1 ++ (vector_in (za_at 16) 16 9 ++ drop 192 (z_at 16))))
      (take 16 (za_at 16) ++ (replicate 16 0 ++ (take 112 (drop 32 (za_at 16)) ++ (replicate 16 0 ++ drop 160 (za_at 16))))) (memory_of 8)
  pub odd : executed_at 3 0xC0060A01 ≡ refused_with 16 8 3
  -- beyond 01's sentence: B 32, W8 = 24: vectors 11 and 27
  pub longer : executed 32 0xC0060A6A 8 (x_with 8 24) (ones 32) ≡
      done_with (take 320 (z_at 32) ++ (vector_in (za_at 32) 32 11 ++ (vector_in (za_at 32) 32 27 ++ drop 384 (z_at 32))))
      (vectors 32 32 (λ v. cond (eqb (v % 16) 11) (replicate 32 0) (vector_in (za_at 32) 32 v))) (memory_of 8)

-- E03F03E0, stack pointer 1008 hex, an active element, the stack check on: 6. None active, the stack check on or off: done, nothing written. The
-- stack check off (request 4), all active: with memory from 1000 hex on done, and stored at 1008 hex, with W12 = 5 row 5; with memory elsewhere 7, address 1008 hex
pub record Example9 : Type 0 where
  -- whichever of the sixteen elements is the active one
  pub active : map (λ (e : ℕ). executed 16 0xE03F03E0 8 (x_with 31 0x1008) (predicate0 16 (2 ^ e % 256 ∷ 2 ^ e / 256 ∷ []))) (0 ∷ 1 ∷ 2 ∷ 3 ∷ 4 ∷ 5 ∷ 6 ∷ 7 ∷ 8 ∷ 9 ∷ 10 ∷ 11 ∷ 12 ∷ 13 ∷ 14 ∷ 15 ∷ []) ≡ replicate 16 (refused_with 16 8 6)
  pub none : executed 16 0xE03F03E0 8 (x_with 31 0x1008) (predicate0 16 (0 ∷ 0 ∷ [])) ≡ done_with (z_at 16) (za_at 16) (memory_of 8)
  pub on : map (λ (a : ℕ). executed_in 16 a 64 0xE03F03E0 (set (x_with 12 5) 31 0x1008) (ones 16)) (0x1000 ∷ 0x2000 ∷ []) ≡ replicate 2 (refused_with 16 64 6)
  pub off : executed_unchecked 16 0x1000 64 0xE03F03E0 (set (x_with 12 5) 31 0x1008) (ones 16) ≡
      done_with (z_at 16) (za_at 16) (take 8 (memory_of 64) ++ (vector_in (za_at 16) 16 5 ++ drop 24 (memory_of 64)))
  pub off_elsewhere : executed_unchecked 16 0x2000 64 0xE03F03E0 (set (x_with 12 5) 31 0x1008) (ones 16) ≡ outside_with 16 64 0x1008 0
  pub off_none : executed_unchecked 16 0x2000 64 0xE03F03E0 (x_with 31 0x1008) (predicate0 16 (0 ∷ 0 ∷ [])) ≡ done_with (z_at 16) (za_at 16) (memory_of 64)
  -- beyond 01's sentence: the stack pointer 10 hex is the base and register 31 as an offset is zero, so bytes 16 to 31 are written
  pub aligned : executed 16 0xE03F03E0 64 (set (x_with 12 5) 31 16) (ones 16) ≡
      done_with (z_at 16) (za_at 16) (take 16 (memory_of 64) ++ (vector_in (za_at 16) 16 5 ++ drop 32 (memory_of 64)))

-- E0220020, B 16, X1 = 2^64 - 8, X2 = 4, memory address 0, length 64. All active: 7, address FFFFFFFFFFFFFFFC, element 0 (request 6). Elements 4 to 15
-- only: done, bytes 0 to 11 written; with W12 = 5 these are of row 5
pub record Example10 : Type 0 where
  pub all : executed 16 0xE0220020 64 (set (set (x_with 12 5) 1 (2 ^ 64 - 8)) 2 4) (ones 16) ≡ outside_with 16 64 0xFFFFFFFFFFFFFFFC 0
  pub some : executed 16 0xE0220020 64 (set (set (x_with 12 5) 1 (2 ^ 64 - 8)) 2 4) (predicate0 16 (0xF0 ∷ 0xFF ∷ [])) ≡
      done_with (z_at 16) (za_at 16) (drop 4 (vector_in (za_at 16) 16 5) ++ drop 12 (memory_of 64))
  -- beyond 01's sentence: where only a later element faults, nothing is written either
  pub later : executed 16 0xE0220020 64 (set (set (x_with 12 5) 1 56) 2 0) (ones 16) ≡ outside_with 16 64 64 8

-- E022A823 at B 32 with n bytes of memory at 1000 hex
abbrev pub stored_at : ℕ → Seen
stored_at n =
    executed_in 32 0x1000 n 0xE022A823 (set (set (x_with 13 20) 1 0xFF0) 2 0x18) (replicate 8 255 ++ (replicate 4 0x55 ++ replicate 52 255))

-- beyond 01's examples: E022A823 is a vertical store, W13, P2, X1, X2, offset 3. B 32, W13 = 20: column 23; memory at 1000 hex, the
-- first byte at 1008 hex, elements 0, 2, 4, .. active. With 64 bytes of memory it is done, with 28 element 20 is outside
pub record ExampleStore : Type 0 where
  pub inside : stored_at 64 ≡
      done_with (z_at 32) (za_at 32) (take 8 (memory_of 64) ++ (alternate true (vectors 1 32 (λ e. take 1 (drop 23 (vector_in (za_at 32) 32 e)))) (drop 8 (memory_of 64)) ++ drop 40 (memory_of 64)))
  pub outside : stored_at 28 ≡ outside_with 32 28 0x101C 20

-- beyond 01's examples, at B 32: columns of 16-byte elements, and a horizontal slice taken with zeroing
pub record ExampleSlices : Type 0 where
  -- C0C1D526: to the tile, m = 16, vertical, W14, P5, Z9, tile 6. W14 = 21: slice 1, element e is bytes 16 to 31 of vector 16e + 6; of P5 bit 0 is clear and bit 16 set
  pub column : executed 32 0xC0C1D526 8 (x_with 14 21) (replicate 20 255 ++ (0xFE ∷ 0xFF ∷ 1 ∷ 0 ∷ replicate 40 255)) ≡
      done_with (z_at 32) (take 720 (za_at 32) ++ (drop 16 (vector_in (z_at 32) 32 9) ++ drop 736 (za_at 32))) (memory_of 8)
  -- C0C3C2C9: the same slice to Z9, which is then zero
  pub taken : executed 32 0xC0C3C2C9 8 (x_with 14 21) (replicate 64 0) ≡
      done_with (take 288 (z_at 32) ++ (drop 16 (vector_in (za_at 32) 32 6) ++ (drop 16 (vector_in (za_at 32) 32 22) ++ drop 320 (z_at 32))))
      (vectors 32 32 (λ v. cond (eqb (v % 16) 6) (take 16 (vector_in (za_at 32) 32 v) ++ replicate 16 0) (vector_in (za_at 32) 32 v))) (memory_of 8)
  -- C082232B: m = 4, horizontal, W13, tile 2, offset 1, Z11. W13 = 12: slice 5, vector 22
  pub row : executed 32 0xC082232B 8 (x_with 13 12) (replicate 64 0) ≡
      done_with (take 352 (z_at 32) ++ (vector_in (za_at 32) 32 22 ++ drop 384 (z_at 32))) (take 704 (za_at 32) ++ (replicate 32 0 ++ drop 736 (za_at 32))) (memory_of 8)

-- a word that is no instruction, with streaming and ZA off and P one byte too short, at a level
abbrev unsettled : ℕ → ℕ
unsettled level = (seen (execute_of (switched (settings_of 16 16 level) false false) 0xC0000010 (state_of (bytes_from 50 32) (z_at 16) (drop 1 (ones 16)) (za_at 16) (memory_of 8)))).number

-- 12, and the other checks of settings: C0000000 at level 1 with streaming and ZA off gives 4, with ZA off 5; level 4 gives 1
pub record Example12 : Type 0 where
  pub both : executed_under 1 false false 0xC0000000 ≡ refused_with 16 8 4
  pub za : executed_under 1 true false 0xC0000000 ≡ refused_with 16 8 5
  pub level : executed_at 4 0xC0000000 ≡ refused_with 16 8 1
  -- beyond 01's sentence: a word that is no instruction gives 3 with streaming and ZA off too
  pub word : executed_under 1 false false 0xC0000010 ≡ refused_with 16 8 3
  -- and with a buffer too short 2, with level 4 beside it 1
  pub order : map unsettled (1 ∷ 4 ∷ []) ≡ 2 ∷ 1 ∷ []

-- beyond 01's examples: runs of words, B 16, W12 = 35, so row 3. C0000000 moves Z0 to the row, C0020200 takes the row to Z0 and zeroes it
abbrev after_run : List ℕ → Ran
after_run ws = run_of (settings_at 16 0) ws (state_at 16 8 (x_with 12 35) (ones 16))

-- ZA with row 3 replaced
abbrev with_row : List ℕ → List ℕ
with_row l = take 48 (za_at 16) ++ (l ++ drop 64 (za_at 16))

pub record ExampleRun : Type 0 where
  pub empty : ((after_run []).words ≡ 0) × (seen (after_run []).ending ≡ done_with (z_at 16) (za_at 16) (memory_of 8))
  pub both : ((after_run (0xC0000000 ∷ 0xC0020200 ∷ [])).words ≡ 2) × (seen (after_run (0xC0000000 ∷ 0xC0020200 ∷ [])).ending ≡ done_with (z_at 16) (with_row (replicate 16 0)) (memory_of 8))
  -- E0220060 stores the row at address 0, then C0020200 takes it to Z0
  pub stores : seen (run_of (settings_at 16 0) (0xE0220060 ∷ 0xC0020200 ∷ []) (state_at 16 16 (set (set (x_with 12 35) 3 0) 2 0) (ones 16))).ending ≡
      done_with (vector_in (za_at 16) 16 3 ++ drop 16 (z_at 16)) (with_row (replicate 16 0)) (vector_in (za_at 16) 16 3)
  -- with X3 = 1 the store's last byte is outside memory: the run ends with 7, its address and its element
  pub address : seen (run_of (settings_at 16 0) (0xC0020200 ∷ 0xE0220060 ∷ []) (state_at 16 16 (set (set (x_with 12 35) 3 1) 2 0) (ones 16))).ending ≡
      record { number = 7; address = 16; element = 15; z = vector_in (za_at 16) 16 3 ++ drop 16 (z_at 16); za = with_row (replicate 16 0); memory = memory_of 16 }
  -- C0000010 is no instruction: the run ends with answer 3, after one word that was done, and the third word is not reached
  pub stops : ((after_run (0xC0000000 ∷ 0xC0000010 ∷ 0xC0020200 ∷ [])).words ≡ 1) ×
      (seen (after_run (0xC0000000 ∷ 0xC0000010 ∷ 0xC0020200 ∷ [])).ending ≡ record { number = 3; address = 0; element = 0; z = z_at 16; za = with_row (vector_in (z_at 16) 16 0); memory = memory_of 8 })

pub record ExamplesHold : Type 0 where
  pub words : WordsHold
  pub places : PlacesHold
  pub example1 : Example1
  pub example2 : Example2
  pub example3 : Example3
  pub example4 : Example4
  pub example5 : Example5
  pub example6 : Example6
  pub example7 : Example7
  pub example8 : Example8
  pub example9 : Example9
  pub example10 : Example10
  pub example_store : ExampleStore
  pub example_slices : ExampleSlices
  pub example12 : Example12
  pub run : ExampleRun
  pub written : ExamplePlaces
  pub added : AddedHold
  pub accesses : AccessHold
  pub elements : ElementsHold

-- Worked examples of the words that request 1 of 02 adds, in the manner of 01 §7. To believe: the buffers afterwards.
-- Assumes nothing.
use Rattle.std.specs.Prelude.{◌+◌, ◌*◌, ◌%◌, ◌≡◌, true, false, cond, [], ◌∷◌, ◌++◌, map, eqb, take, drop, replicate}
use Rattle.semantics.specs.ExampleBuffers.{alternate, vector_in, z_at, za_at, memory_of, x_with, ones, predicate0, executed, executed_under, executed_at, vectors, done_with, refused_with}

-- From a tile: active elements of the register take the slice's, the others and ZA stay.
pub record ExampleFromTile : Type 0 where
  -- C0020000: byte tile, horizontal, W12, P0, Z0; B 16, W12 = 35: row 3, under alternating bits
  pub row : executed 16 0xC0020000 8 (x_with 12 35) (predicate0 16 (0x55 ∷ 0x55 ∷ [])) ≡
      done_with (alternate true (vector_in (za_at 16) 16 3) (vector_in (z_at 16) 16 0) ++ drop 16 (z_at 16)) (za_at 16) (memory_of 8)
  -- under no bit nothing changes
  pub none : executed 16 0xC0020000 8 (x_with 12 35) (predicate0 16 (0 ∷ 0 ∷ [])) ≡ done_with (z_at 16) (za_at 16) (memory_of 8)
  -- C082D5C9: m = 4, vertical, W14, P5, tile 3, offset 2, Z9; B 32, W14 = 11: slice 5, element e is bytes 20 to 23 of vector 4e + 3;
  -- P5 has bit 4 of each byte clear, so elements 1, 3, 5 and 7 of the register stay
  pub column : executed 32 0xC082D5C9 8 (x_with 14 11) (replicate 20 255 ++ (replicate 4 0xEF ++ replicate 40 255)) ≡
      done_with
      (take 288 (z_at 32) ++ (vectors 4 8 (λ e. cond (eqb (e % 2) 0) (take 4 (drop 20 (vector_in (za_at 32) 32 (4 * e + 3)))) (take 4 (drop (4 * e) (vector_in (z_at 32) 32 9)))) ++ drop 320 (z_at 32)))
      (za_at 32) (memory_of 8)
  -- C0C31DE7: m = 16, horizontal, W12, P7, tile 15, Z7; B 32, W12 = 7: slice 1, vector 31; P7 has bit 0 clear and bit 16 set, so only
  -- element 1 is taken
  pub wide : executed 32 0xC0C31DE7 8 (x_with 12 7) (replicate 28 255 ++ (0xFE ∷ 0xFF ∷ 1 ∷ 0 ∷ replicate 32 255)) ≡
      done_with (take 240 (z_at 32) ++ (drop 16 (vector_in (za_at 32) 32 31) ++ drop 256 (z_at 32))) (za_at 32) (memory_of 8)
  -- C002B973: m = 1, vertical, W13, P6, offset 11, Z19; B 16, W13 = 9: slice 4, element e is byte 4 of vector e; alternating bits in P6
  pub narrow : executed 16 0xC002B973 8 (x_with 13 9) (replicate 12 255 ++ (0x55 ∷ 0x55 ∷ replicate 18 255)) ≡
      done_with (take 304 (z_at 16) ++ (alternate true (vectors 1 16 (λ e. take 1 (drop 4 (vector_in (za_at 16) 16 e)))) (vector_in (z_at 16) 16 19) ++ drop 320 (z_at 16))) (za_at 16) (memory_of 8)
  -- C042CD56: m = 2, vertical, W14, P3, tile 1, offset 2, Z22; B 64, W14 = 41: slice 11, element e is bytes 22 and 23 of vector 2e + 1;
  -- P3 has bit 2 of each byte clear, so elements 1, 5, 9, .. stay
  pub pairs : executed 64 0xC042CD56 8 (x_with 14 41) (replicate 24 255 ++ (replicate 8 0xFB ++ replicate 96 255)) ≡
      done_with
      (take 1408 (z_at 64) ++ (vectors 2 32 (λ e. cond (eqb (e % 4) 1) (take 2 (drop (2 * e) (vector_in (z_at 64) 64 22))) (take 2 (drop 22 (vector_in (za_at 64) 64 (2 * e + 1))))) ++ drop 1472 (z_at 64)))
      (za_at 64) (memory_of 8)
  -- C0C2312C: m = 8, horizontal, W13, P4, tile 4, offset 1, Z12; B 16, W13 = 4: slice 1, vector 12; P4 has bit 0 clear and bit 8 set
  pub eights : executed 16 0xC0C2312C 8 (x_with 13 4) (replicate 8 255 ++ (0xFE ∷ 0x01 ∷ replicate 22 255)) ≡
      done_with (take 200 (z_at 16) ++ (drop 8 (vector_in (za_at 16) 16 12) ++ drop 208 (z_at 16))) (za_at 16) (memory_of 8)

-- Two of the array: C00668BA, W11, offset 5, Z26 and Z27; ZA stays.
pub record ExampleTwo : Type 0 where
  -- B 16, W11 = 6: vectors 3 and 11
  pub moves : executed 16 0xC00668BA 8 (x_with 11 6) (ones 16) ≡
      done_with (take 416 (z_at 16) ++ (vector_in (za_at 16) 16 3 ++ (vector_in (za_at 16) 16 11 ++ drop 448 (z_at 16)))) (za_at 16) (memory_of 8)
  -- B 32, W11 = 24: vectors 13 and 29
  pub longer : executed 32 0xC00668BA 8 (x_with 11 24) (ones 32) ≡
      done_with (take 832 (z_at 32) ++ (vector_in (za_at 32) 32 13 ++ (vector_in (za_at 32) 32 29 ++ drop 896 (z_at 32)))) (za_at 32) (memory_of 8)

-- Four of the array, which are then zero: C0062ED4, W9, offset 6, Z20 to Z23.
pub record ExampleFour : Type 0 where
  -- B 16, W9 = 3: vectors 1, 5, 9 and 13
  pub moves : executed 16 0xC0062ED4 8 (x_with 9 3) (ones 16) ≡
      done_with (take 320 (z_at 16) ++ (vector_in (za_at 16) 16 1 ++ (vector_in (za_at 16) 16 5 ++ (vector_in (za_at 16) 16 9 ++ (vector_in (za_at 16) 16 13 ++ drop 384 (z_at 16))))))
      (vectors 16 16 (λ v. cond (eqb (v % 4) 1) (replicate 16 0) (vector_in (za_at 16) 16 v))) (memory_of 8)
  -- B 32, W9 = 17: vectors 7, 15, 23 and 31
  pub longer : executed 32 0xC0062ED4 8 (x_with 9 17) (ones 32) ≡
      done_with (take 640 (z_at 32) ++ (vector_in (za_at 32) 32 7 ++ (vector_in (za_at 32) 32 15 ++ (vector_in (za_at 32) 32 23 ++ (vector_in (za_at 32) 32 31 ++ drop 768 (z_at 32))))))
      (vectors 32 32 (λ v. cond (eqb (v % 8) 7) (replicate 32 0) (vector_in (za_at 32) 32 v))) (memory_of 8)

-- Refused, and nothing changed: a word of each below its level 3, with streaming off 4, with ZA off 5.
pub record ExampleRefused : Type 0 where
  pub low : executed_at 0 0xC002B973 ∷ executed_at 1 0xC00668BA ∷ executed_at 2 0xC0062ED4 ∷ [] ≡ replicate 3 (refused_with 16 8 3)
  pub streaming : map (executed_under 3 false true) (0xC002B973 ∷ 0xC00668BA ∷ 0xC0062ED4 ∷ []) ≡ replicate 3 (refused_with 16 8 4)
  pub za : map (executed_under 3 true false) (0xC002B973 ∷ 0xC00668BA ∷ 0xC0062ED4 ∷ []) ≡ replicate 3 (refused_with 16 8 5)

pub record AddedHold : Type 0 where
  pub from_tile : ExampleFromTile
  pub two : ExampleTwo
  pub four : ExampleFour
  pub refused : ExampleRefused

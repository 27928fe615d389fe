-- Worked examples of the words that request 2 of 02 adds, and of the stack check that request 4 switches, in the manner of 01 §7. To believe: the answers and the buffers afterwards.
-- Assumes nothing.
use Rattle.std.specs.Prelude.{ℕ, ◌+◌, ◌*◌, ◌-◌, ◌/◌, ◌%◌, ◌^◌, ◌≡◌, true, false, cond, ◌&&◌, List, [], ◌∷◌, ◌++◌, map, eqb, ltb, set, take, drop, replicate}
use Rattle.semantics.specs.State.{state_of}
use Rattle.semantics.specs.Execute.{execute_of}
use Rattle.semantics.specs.ExampleBuffers.{vector_in, z_at, za_at, memory_of, bytes_from, settings_at, x_with, ones, predicate0, Seen, seen, executed_in, executed_unchecked, executed, executed_under, executed_at, vectors, done_with, refused_with, outside_with}

-- ZA at B bytes with vector v replaced
abbrev with_vector : ℕ → ℕ → List ℕ → List ℕ
with_vector B v l = take (v * B) (za_at B) ++ (l ++ drop ((v + 1) * B) (za_at B))

-- Over the end of memory. E0A20025 and E0820025: store and load, m = 4, horizontal, W12, P0, X1, X2, tile 1, offset 1. B 16, W12 = 6: slice 3,
-- vector 13. 64 bytes of memory at 1000 hex; X1 = 1032 hex and X2 = 2, so element e starts at 103A + 4e hex: element 0 ends in memory, element 1
-- has its bytes 2 and 3 outside, elements 2 and 3 are outside.
abbrev at_end : ℕ → List ℕ → Seen
at_end w p = executed_in 16 0x1000 64 w (set (set (x_with 12 6) 1 0x1032) 2 2) p

pub record ExampleEnd : Type 0 where
  -- the lowest element that faults, 1, is not the first active one, and its first byte outside is byte 2, not its start
  pub all : map (λ (w : ℕ). at_end w (ones 16)) (0xE0A20025 ∷ 0xE0820025 ∷ []) ≡ replicate 2 (outside_with 16 64 0x1040 1)
  -- elements 0 and 2: element 2 is outside from its first byte on
  pub later : map (λ (w : ℕ). at_end w (predicate0 16 (1 ∷ 1 ∷ []))) (0xE0A20025 ∷ 0xE0820025 ∷ []) ≡ replicate 2 (outside_with 16 64 0x1042 2)
  -- element 0 only, and bits that belong to no element's start: done
  pub stores : at_end 0xE0A20025 (predicate0 16 (0xEF ∷ 0xEE ∷ [])) ≡
      done_with (z_at 16) (za_at 16) (take 58 (memory_of 64) ++ (take 4 (vector_in (za_at 16) 16 13) ++ drop 62 (memory_of 64)))
  pub loads : at_end 0xE0820025 (predicate0 16 (0xEF ∷ 0xEE ∷ [])) ≡
      done_with (z_at 16) (with_vector 16 13 (take 4 (drop 58 (memory_of 64)) ++ replicate 12 0)) (memory_of 64)

-- Over 2^64. E0E20026 and E0C20026: store and load, m = 8, horizontal, W12, P0, X1, X2, tile 3, offset 0. B 16, W12 = 5: slice 1, vector 11. X1 =
-- 2^64 - 4 and X2 = 2^61, which is 2^64 bytes and so none: element 0 has its bytes 0 to 3 at the top and 4 to 7 from address 0 on,
-- element 1 starts at address 4.
abbrev over_top : ℕ → ℕ → List ℕ → Seen
over_top address w p = executed_in 16 address 16 w (set (set (x_with 12 5) 1 (2 ^ 64 - 4)) 2 (2 ^ 61)) p

pub record ExampleTop : Type 0 where
  -- memory at address 0: byte 0 of element 0 is outside
  pub low : map (λ (w : ℕ). over_top 0 w (ones 16)) (0xE0E20026 ∷ 0xE0C20026 ∷ []) ≡ replicate 2 (outside_with 16 16 0xFFFFFFFFFFFFFFFC 0)
  -- memory at the top: byte 4 of element 0 is outside, and its address is 0
  pub high : map (λ (w : ℕ). over_top (2 ^ 64 - 16) w (ones 16)) (0xE0E20026 ∷ 0xE0C20026 ∷ []) ≡ replicate 2 (outside_with 16 16 0 0)
  -- element 1 only, memory at address 0
  pub stores : over_top 0 0xE0E20026 (predicate0 16 (0xFE ∷ 1 ∷ [])) ≡
      done_with (z_at 16) (za_at 16) (take 4 (memory_of 16) ++ (drop 8 (vector_in (za_at 16) 16 11) ++ drop 12 (memory_of 16)))
  pub loads : over_top 0 0xE0C20026 (predicate0 16 (0xFE ∷ 1 ∷ [])) ≡
      done_with (z_at 16) (with_vector 16 11 (replicate 8 0 ++ take 8 (drop 4 (memory_of 16)))) (memory_of 16)

-- The offset register has 64 bits, and counts elements modulo 2^64: four or one of them before a base that is 4 bytes into memory
pub record ExampleOffset : Type 0 where
  -- E0220020 and E0020020: bytes, row W12; X1 = 1004 hex, X2 = 2^64 - 4
  pub stores : executed_in 16 0x1000 16 0xE0220020 (set (set (x_with 12 5) 1 0x1004) 2 (2 ^ 64 - 4)) (ones 16) ≡ done_with (z_at 16) (za_at 16) (vector_in (za_at 16) 16 5)
  pub loads : executed_in 16 0x1000 16 0xE0020020 (set (set (x_with 12 5) 1 0x1004) 2 (2 ^ 64 - 4)) (ones 16) ≡ done_with (z_at 16) (with_vector 16 5 (memory_of 16)) (memory_of 16)
  -- E0820025, m = 4: X2 = 2^64 - 1
  pub wide : executed_in 16 0x1000 16 0xE0820025 (set (set (x_with 12 6) 1 0x1004) 2 (2 ^ 64 - 1)) (ones 16) ≡ done_with (z_at 16) (with_vector 16 13 (memory_of 16)) (memory_of 16)
  -- elements 0 and 1 of E0A20025 fault on both sides of 2^64: the lowest element is told, not the lowest address
  pub both : executed_in 16 0x10 16 0xE0A20025 (set (set (x_with 12 6) 1 (2 ^ 64 - 4)) 2 0) (ones 16) ≡ outside_with 16 16 0xFFFFFFFFFFFFFFFC 0

-- The stack pointer as a base.
pub record ExampleStack : Type 0 where
  -- E03F03E0 at B 32: only the last element is active, behind the first 16
  pub long : executed 32 0xE03F03E0 8 (x_with 31 0x1008) (predicate0 32 (0 ∷ 0 ∷ 0 ∷ 0x80 ∷ [])) ≡ refused_with 32 8 6
  -- E02203E0: bytes, row W12, offset register X2. The base alone must be a multiple of 16
  pub offset : executed 16 0xE02203E0 64 (set (set (x_with 12 5) 31 0x10) 2 1) (ones 16) ≡
      done_with (z_at 16) (za_at 16) (take 17 (memory_of 64) ++ (vector_in (za_at 16) 16 5 ++ drop 33 (memory_of 64)))
  pub sum : executed 16 0xE02203E0 64 (set (set (x_with 12 5) 31 8) 2 8) (ones 16) ≡ refused_with 16 64 6
  -- it has 64 bits: memory at the top, which E01F03E0 loads
  pub high : executed_in 16 (2 ^ 64 - 16) 16 0xE01F03E0 (set (x_with 12 5) 31 (2 ^ 64 - 16)) (ones 16) ≡ done_with (z_at 16) (with_vector 16 5 (memory_of 16)) (memory_of 16)
  -- E1FFFFEF and E05FFFEF, vertical: 1001 hex is no multiple of 16 either
  pub odd : map (λ (w : ℕ). executed 16 w 8 (x_with 31 0x1001) (ones 16)) (0xE1FFFFEF ∷ 0xE05FFFEF ∷ []) ≡ replicate 2 (refused_with 16 8 6)
  -- only the last of 8, 4 and 2 elements is active
  pub last : map (λ (w : ℕ). executed 16 w 8 (x_with 31 0x1008) (predicate0 16 (0 ∷ 0x40 ∷ []))) (0xE07F03E0 ∷ 0xE05F03E0 ∷ []) ++ (map (λ (w : ℕ). executed 16 w 8 (x_with 31 0x1008) (predicate0 16 (0 ∷ 0x10 ∷ []))) (0xE0BF03E0 ∷ 0xE09F03E0 ∷ []) ++ map (λ (w : ℕ). executed 16 w 8 (x_with 31 0x1008) (predicate0 16 (0 ∷ 1 ∷ []))) (0xE0FF03E0 ∷ 0xE0DF03E0 ∷ [])) ≡
      replicate 6 (refused_with 16 8 6)
  -- bits that no element of 4 bytes goes by: none is active
  pub between : executed 16 0xE0BF03E0 8 (x_with 31 0x1008) (predicate0 16 (0xEE ∷ 0xEE ∷ [])) ≡ done_with (z_at 16) (za_at 16) (memory_of 8)
  pub zeroes : executed 16 0xE09F03E0 8 (set (x_with 12 0) 31 0x1008) (predicate0 16 (0xEE ∷ 0xEE ∷ [])) ≡ done_with (z_at 16) (with_vector 16 0 (replicate 16 0)) (memory_of 8)

-- Answer 2, for a load of memory that ends above 2^64, and of buffers that are one byte or number too long
abbrev lengthened : List ℕ → List ℕ → List ℕ → List ℕ → ℕ
lengthened x z p za =
    (seen (execute_of (settings_at 16 0) 0xE0020020 (state_of (bytes_from 50 32 ++ x) (z_at 16 ++ z) (ones 16 ++ p) (za_at 16 ++ za) (memory_of 16)))).number

-- buffer i of X, Z, P, ZA without its first byte or number, at vectors of B bytes in the settings
abbrev shortened : ℕ → ℕ → ℕ
shortened B i =
    let less : ℕ → List ℕ → List ℕ = λ j l. cond (eqb i j) (drop 1 l) l in
    (seen (execute_of (settings_at B 0) 0xC0000010 (state_of (less 0 (bytes_from 50 32)) (less 1 (z_at 16)) (less 2 (ones 16)) (less 3 (za_at 16)) (memory_of 16)))).number

pub record ExampleLengths : Type 0 where
  pub memory : executed_in 16 (2 ^ 64 - 8) 16 0xE0020020 (x_with 12 5) (ones 16) ≡ refused_with 16 16 2
  -- one byte beyond 2^64
  pub top : executed_in 16 (2 ^ 64 - 15) 16 0xE0020020 (x_with 12 5) (ones 16) ≡ refused_with 16 16 2
  -- buffers that are one byte or number too short, with a word that is no instruction; vectors of 17 bytes come before them
  pub shorter : map (shortened 16) (0 ∷ 1 ∷ 2 ∷ 3 ∷ []) ∷ map (shortened 17) (0 ∷ 1 ∷ 2 ∷ 3 ∷ []) ∷ [] ≡ replicate 4 2 ∷ replicate 4 1 ∷ []
  pub buffers : lengthened (0 ∷ []) [] [] [] ∷ lengthened [] (0 ∷ []) [] [] ∷ lengthened [] [] (0 ∷ []) [] ∷ lengthened [] [] [] (0 ∷ []) ∷ [] ≡ replicate 4 2

-- A vector that fills memory at address 0 and at the top. E062002A: store, m = 2, horizontal, W12, P0, X1, X2, tile 1, offset 2; B 16, W12 = 9: slice 3, vector 7.
-- E1C20026: load, m = 16, horizontal, tile 6; slice 0, vector 6.
abbrev filling : ℕ → ℕ → Seen
filling address w = executed_in 16 address 16 w (set (set (x_with 12 9) 1 address) 2 0) (ones 16)

pub record ExampleFills : Type 0 where
  pub stores : map (λ (a : ℕ). filling a 0xE062002A) (0 ∷ (2 ^ 64 - 16) ∷ []) ≡ replicate 2 (done_with (z_at 16) (za_at 16) (vector_in (za_at 16) 16 7))
  pub loads : map (λ (a : ℕ). filling a 0xE1C20026) (0 ∷ (2 ^ 64 - 16) ∷ []) ≡ replicate 2 (done_with (z_at 16) (with_vector 16 6 (memory_of 16)) (memory_of 16))
  -- one byte further on, the last byte of the last element is outside, after the end and at address 0: element 7 of the first word, element 0 of the second
  pub past : map (λ (w : ℕ). executed_in 16 0 16 w (set (set (x_with 12 9) 1 1) 2 0) (ones 16)) (0xE062002A ∷ 0xE1C20026 ∷ []) ≡ outside_with 16 16 16 7 ∷ outside_with 16 16 16 0 ∷ []
  pub wraps : map (λ (w : ℕ). executed_in 16 (2 ^ 64 - 16) 16 w (set (set (x_with 12 9) 1 (2 ^ 64 - 15)) 2 0) (ones 16)) (0xE062002A ∷ 0xE1C20026 ∷ []) ≡
      outside_with 16 16 0 7 ∷ outside_with 16 16 0 0 ∷ []

-- What a load sets to zero, and what it does not touch.
pub record ExampleLoad : Type 0 where
  -- E082A829: m = 4, vertical, W13, P2, X1, X2, tile 2, offset 1. B 32, W13 = 20: column 5, element e is bytes 20 to 23 of vector 4e + 2. P2 has
  -- elements 1 and 3 active: 0 and 2 become zero, and 4 to 7 after the last active one. X2 = 1, so element e is at 1004 + 4e hex
  pub column : executed_in 32 0x1000 64 0xE082A829 (set (set (x_with 13 20) 1 0x1000) 2 1) (replicate 8 255 ++ (0x10 ∷ 0x10 ∷ 0 ∷ 0 ∷ replicate 52 255)) ≡
      done_with (z_at 32)
      (vectors 32 32 (λ v. cond (eqb (v % 4) 2)
      (take 20 (vector_in (za_at 32) 32 v) ++ (cond (eqb (v / 4 % 2) 1 && ltb (v / 4) 4) (take 4 (drop (4 + v / 4 * 4) (memory_of 64))) (replicate 4 0) ++ drop 24 (vector_in (za_at 32) 32 v)))
      (vector_in (za_at 32) 32 v)))
      (memory_of 64)
  -- E013C58D: m = 1, vertical, W14, P1, X12, X19, offset 13. B 16, W14 = 7: column 4, under alternating bits; element e is at 23 + e hex, memory at 20 hex
  pub bytes : executed_in 16 0x20 32 0xE013C58D (set (set (x_with 14 7) 12 0x20) 19 3) (replicate 2 255 ++ (0x55 ∷ 0x55 ∷ replicate 28 255)) ≡
      done_with (z_at 16)
      (vectors 16 16 (λ v. take 4 (vector_in (za_at 16) 16 v) ++ (cond (eqb (v % 2) 0) (take 1 (drop (3 + v) (memory_of 32))) (replicate 1 0) ++ drop 5 (vector_in (za_at 16) 16 v))))
      (memory_of 32)
  -- E04B3286: m = 2, horizontal, W13, P4, X20, X11, tile 0, offset 6. B 32, W13 = 5: slice 11, vector 22; elements 0, 6, 13 and 15 active, at 2000 + 2e hex
  pub pairs : executed_in 32 0x2000 40 0xE04B3286 (set (set (x_with 13 5) 20 0x1FFC) 11 2) (replicate 16 255 ++ (0x01 ∷ 0x10 ∷ 0 ∷ 0x44 ∷ replicate 44 255)) ≡
      done_with (z_at 32)
      (with_vector 32 22 (vectors 2 16 (λ e. cond (eqb e 0) (take 2 (memory_of 40)) (cond (eqb e 6) (take 2 (drop 12 (memory_of 40))) (cond (eqb e 13) (take 2 (drop 26 (memory_of 40))) (cond (eqb e 15) (take 2 (drop 30 (memory_of 40))) (replicate 2 0)))))))
      (memory_of 40)
  -- E01F03E0: bytes, row W12, base the stack pointer, no offset register. With no active element the row becomes zero, though the stack
  -- pointer is no multiple of 16 and there is no such memory; 10 hex is a base, and register 31 as an offset is zero
  pub none : executed 16 0xE01F03E0 8 (set (x_with 12 21) 31 0x1008) (predicate0 16 (0 ∷ 0 ∷ [])) ≡ done_with (z_at 16) (with_vector 16 5 (replicate 16 0)) (memory_of 8)
  pub aligned : executed 16 0xE01F03E0 64 (set (x_with 12 5) 31 16) (ones 16) ≡ done_with (z_at 16) (with_vector 16 5 (take 16 (drop 16 (memory_of 64)))) (memory_of 64)

-- Wide stores.
pub record ExampleStores : Type 0 where
  -- E0FA8DAA: m = 8, vertical, W12, P3, X13, X26, tile 5, offset 0. B 64, W12 = 11: column 3, element e is bytes 24 to 31 of vector 8e + 5;
  -- elements 0, 2, 4 and 6 active, at 1010 + 8e hex
  pub column : executed_in 64 0x1000 96 0xE0FA8DAA (set (set (x_with 12 11) 13 0x1000) 26 2) (replicate 24 255 ++ (1 ∷ 0 ∷ 1 ∷ 0 ∷ 1 ∷ 0 ∷ 1 ∷ 0 ∷ replicate 96 255)) ≡
      done_with (z_at 64) (za_at 64)
      (take 16 (memory_of 96) ++ (vectors 8 8 (λ e. cond (eqb (e % 2) 0) (take 8 (drop 24 (vector_in (za_at 64) 64 (8 * e + 5)))) (take 8 (drop (16 + 8 * e) (memory_of 96)))) ++ drop 80 (memory_of 96)))
  -- E1E66B2B: m = 16, horizontal, W15, P2, X25, X6, tile 11. B 32, W15 = 3: slice 1, vector 27; only element 1 is active, at 50 hex; element 0 would be at
  -- 40 hex, before memory
  pub wide : executed_in 32 0x48 24 0xE1E66B2B (set (set (x_with 15 3) 25 0x30) 6 1) (replicate 8 255 ++ (0xFE ∷ 0xFF ∷ 1 ∷ 0 ∷ replicate 52 255)) ≡
      done_with (z_at 32) (za_at 32) (take 8 (memory_of 24) ++ drop 16 (vector_in (za_at 32) 32 27))

-- Refused, and nothing changed: a store of each wider size and a load of each size.
abbrev access_words : List ℕ
access_words = 0xE07F03E0 ∷ 0xE0BF03E0 ∷ 0xE0FF03E0 ∷ 0xE1FF03E0 ∷ 0xE01F03E0 ∷ 0xE05F03E0 ∷ 0xE09F03E0 ∷ 0xE0DF03E0 ∷ 0xE1DF03E0 ∷ []

pub record ExampleAccessRefused : Type 0 where
  pub low : map (executed_at 0) access_words ≡ replicate 9 (refused_with 16 8 3)
  pub streaming : map (executed_under 3 false true) access_words ≡ replicate 9 (refused_with 16 8 4)
  pub za : map (executed_under 3 true false) access_words ≡ replicate 9 (refused_with 16 8 5)
  -- a stack pointer of 1008 hex, with element 0 active, which is outside memory too
  pub stack : map (λ (w : ℕ). executed 16 w 8 (x_with 31 0x1008) (predicate0 16 (1 ∷ 0 ∷ []))) access_words ≡ replicate 9 (refused_with 16 8 6)
  -- and of 1010 hex
  pub outside : map (λ (w : ℕ). executed 16 w 8 (x_with 31 0x1010) (predicate0 16 (1 ∷ 0 ∷ []))) access_words ≡ replicate 9 (outside_with 16 8 0x1010 0)

-- The stack check off (request 4). E01F03E0 is example 9 as a load: bytes, row W12, the stack pointer 1008 hex, which is a base like any other
abbrev unchecked : ℕ → List ℕ → Seen
unchecked address p = executed_unchecked 16 address 64 0xE01F03E0 (set (x_with 12 0) 31 0x1008) p

pub record ExampleUnchecked : Type 0 where
  -- all active: with memory from 1000 hex on done, with memory elsewhere 7; both 6 with the stack check on
  pub loads : unchecked 0x1000 (ones 16) ≡ done_with (z_at 16) (with_vector 16 0 (take 16 (drop 8 (memory_of 64)))) (memory_of 64)
  pub elsewhere : unchecked 0x2000 (ones 16) ≡ outside_with 16 64 0x1008 0
  pub on : map (λ (a : ℕ). executed_in 16 a 64 0xE01F03E0 (set (x_with 12 0) 31 0x1008) (ones 16)) (0x1000 ∷ 0x2000 ∷ []) ≡ replicate 2 (refused_with 16 64 6)
  -- none active: the slice is zero, as with the stack check on
  pub none : unchecked 0x2000 (predicate0 16 (0 ∷ 0 ∷ [])) ≡ done_with (z_at 16) (with_vector 16 0 (replicate 16 0)) (memory_of 64)
  -- the words above, memory at address 0
  pub each : map (λ (w : ℕ). executed_unchecked 16 0 8 w (x_with 31 0x1008) (ones 16)) access_words ≡ replicate 9 (outside_with 16 8 0x1008 0)

pub record AccessHold : Type 0 where
  pub end : ExampleEnd
  pub top : ExampleTop
  pub offset : ExampleOffset
  pub stack : ExampleStack
  pub lengths : ExampleLengths
  pub fills : ExampleFills
  pub load : ExampleLoad
  pub stores : ExampleStores
  pub refused : ExampleAccessRefused
  pub unchecked : ExampleUnchecked

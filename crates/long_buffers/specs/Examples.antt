-- Worked examples in buffers for longer vectors: the moves, loads and stores of 01 §7 again, and one of each added kind, with vectors of B bytes in buffers for S, S above B. In
-- the manner of 01 §7 and for request 12: the same slices, elements and groups as where S is B, at places that go by S, and every byte beyond B as it was. Then states
-- of the kind that the theorems of specs/Within.antt are about.
-- To believe: what each part says. The buffers, none of whose bytes is zero, are those of crates/semantics/specs/ExampleBuffers.antt for vectors of S bytes.
-- Assumes nothing.
use Rattle.std.specs.Prelude.{ℕ, zero, suc, ◌+◌, ◌*◌, ◌-◌, ◌/◌, ◌%◌, ◌^◌, ◌<◌, ◌≤◌, ◌≡◌, Bool, true, cond, ◌&&◌, ◌||◌, List, [], ◌∷◌, ◌++◌, map, eqb, ltb, get_or, set, take, drop, replicate}
use Rattle.settings.specs.Settings.{valid_vectors, stride_of}
use Rattle.settings.specs.declared.Settings.{Settings}
use Rattle.semantics.specs.State.{State, state_of}
use Rattle.semantics.specs.Answer.{executed_number}
use Rattle.semantics.specs.Execute.{execute_of}
use Rattle.semantics.specs.Run.{run_of}
use Rattle.semantics.specs.ExampleBuffers.{alternate, vector_in, settings_within, z_at, za_at, memory_of, state_at, x_with, ones, Seen, seen, vectors, done_with, refused_with, outside_with}
use Rattle.long_buffers.specs.Within.{B, S, AgreeWithin}

-- a word executed with vectors of B bytes in the buffers for S, with n bytes of memory at address 0
abbrev pub executed_within : ℕ → ℕ → ℕ → ℕ → List ℕ → List ℕ → Seen
executed_within B S w n x p = seen (execute_of (settings_within B S 0) w (state_at S n x p))

-- a buffer of so many vectors with the first n bytes of some replaced: of ZA, and of Z
abbrev pub replacing : List ℕ → ℕ → ℕ → ℕ → (ℕ → Bool) → (ℕ → List ℕ) → List ℕ
replacing l S count n some new = vectors S count (λ v. cond (some v) (new v ++ drop n (vector_in l S v)) (vector_in l S v))

abbrev pub za_with : ℕ → ℕ → (ℕ → Bool) → (ℕ → List ℕ) → List ℕ
za_with n S = replacing (za_at S) S S n

abbrev pub z_with : ℕ → ℕ → (ℕ → Bool) → (ℕ → List ℕ) → List ℕ
z_with n S = replacing (z_at S) S 32 n

-- the first B bytes of a vector of ZA, and of a register
abbrev pub za_part : ℕ → ℕ → ℕ → List ℕ
za_part B S v = take B (vector_in (za_at S) S v)

abbrev pub z_part : ℕ → ℕ → ℕ → List ℕ
z_part B S v = take B (vector_in (z_at S) S v)

-- P for vectors of 32 bytes with the first two bytes of register 0 given, all others set: of register 0 too, where they are beyond 16
abbrev pub governed_by : ℕ → ℕ → List ℕ
governed_by a b = a ∷ b ∷ replicate 62 255

-- ---- moves

pub record MovesWithin : Type 0 where
  -- 1: C0000000, byte tile, row (W12) mod B. B 16 in 32, W12 = 19: row 3, and not 19; under alternating bits
  pub row : executed_within 16 32 0xC0000000 8 (x_with 12 19) (governed_by 0x55 0x55) ≡
      done_with (z_at 32) (za_with 16 32 (λ v. eqb v 3) (λ v. alternate true (z_part 16 32 0) (za_part 16 32 3))) (memory_of 8)
  -- 2: C080ACA9, m = 4, vertical, W13, P3, Z5, tile 2, offset 1. B 16 in 64, W13 = 7: slice 0, element e is bytes 0 to 3 of vector 4e + 2, and e is below 4. P3, which
  -- starts at byte 24 of P, has bit 4 of its first two bytes clear, so elements 1 and 3 keep what they have
  pub column : executed_within 16 64 0xC080ACA9 8 (x_with 13 7) (replicate 24 255 ++ (replicate 2 0xEF ++ replicate 102 255)) ≡
      done_with (z_at 64) (za_with 4 64 (λ v. ltb v 16 && eqb (v % 8) 2) (λ v. take 4 (drop (4 * (v / 4)) (vector_in (z_at 64) 64 5)))) (memory_of 8)
  -- 4: C0C1000F, m = 16. B 16 in 32: one slice, vector 15 whatever W12 holds
  pub single : (w : ℕ) → executed_within 16 32 0xC0C1000F 8 (x_with 12 w) (ones 32) ≡ done_with (z_at 32) (za_with 16 32 (λ v. eqb v 15) (λ v. z_part 16 32 0)) (memory_of 8)
  -- 6: C0C2E3BF, m = 8, vertical, W15, tile 6, offset 1, Z31. B 32 in 64, W15 = 4,294,967,295: slice 0, element e is bytes 0 to 7 of vector 8e + 6, and e is below 4
  pub taken : executed_within 32 64 0xC0C2E3BF 8 (x_with 15 4294967295) (ones 64) ≡
      done_with (z_with 32 64 (λ v. eqb v 31) (λ v. vectors 8 4 (λ e. take 8 (vector_in (za_at 64) 64 (8 * e + 6)))))
      (za_with 8 64 (λ v. ltb v 32 && eqb (v % 8) 6) (λ v. replicate 8 0)) (memory_of 8)
  -- C0020200, byte tile, row (W12) mod B to Z0, and zero. B 16 in 32, W12 = 19: row 3; what is beyond 16 stays in both
  pub row_taken : executed_within 16 32 0xC0020200 8 (x_with 12 19) (ones 32) ≡
      done_with (z_with 16 32 (λ v. eqb v 0) (λ v. za_part 16 32 3)) (za_with 16 32 (λ v. eqb v 3) (λ v. replicate 16 0)) (memory_of 8)
  -- C0020400, the same row to Z0 under P1 (request 1), which starts at byte 4 of P; here alternating
  pub row_read : executed_within 16 32 0xC0020400 8 (x_with 12 19) (replicate 4 255 ++ (0x55 ∷ 0x55 ∷ replicate 58 255)) ≡
      done_with (z_with 16 32 (λ v. eqb v 0) (λ v. alternate true (za_part 16 32 3) (z_part 16 32 0))) (za_at 32) (memory_of 8)

pub record GroupsWithin : Type 0 where
  -- 7: C0064CFC, W10, offset 7. B 16 in 32, W10 = 2: vectors 1, 5, 9, 13 to Z28 to Z31
  pub four : executed_within 16 32 0xC0064CFC 8 (x_with 10 2) (ones 32) ≡ done_with (z_with 16 32 (λ v. ltb 27 v) (λ v. za_part 16 32 (4 * (v - 28) + 1))) (za_at 32) (memory_of 8)
  -- 8: C0060A6A, W8, offset 3. B 16 in 32, W8 = 6: vectors 1 and 9 to Z10 and Z11, both then zero
  pub two : executed_within 16 32 0xC0060A6A 8 (x_with 8 6) (ones 32) ≡
      done_with (z_with 16 32 (λ v. eqb (v / 2) 5) (λ v. za_part 16 32 (8 * (v - 10) + 1))) (za_with 16 32 (λ v. eqb v 1 || eqb v 9) (λ v. replicate 16 0)) (memory_of 8)
  -- beyond 01's sentence: W8 = 13, and 13 + 3 is 0 modulo 8: vectors 0 and 8, and not 16
  pub again : executed_within 16 32 0xC0060A6A 8 (x_with 8 13) (ones 32) ≡
      done_with (z_with 16 32 (λ v. eqb (v / 2) 5) (λ v. za_part 16 32 (8 * (v - 10)))) (za_with 16 32 (λ v. eqb v 0 || eqb v 8) (λ v. replicate 16 0)) (memory_of 8)
  -- C00668BA, W11, offset 5 (request 1). B 16 in 64, W11 = 6: vectors 3 and 11 to Z26 and Z27, which stay
  pub two_read : executed_within 16 64 0xC00668BA 8 (x_with 11 6) (ones 64) ≡ done_with (z_with 16 64 (λ v. eqb (v / 2) 13) (λ v. za_part 16 64 (8 * (v - 26) + 3))) (za_at 64) (memory_of 8)
  -- C0062ED4, W9, offset 6 (request 1). B 16 in 32, W9 = 3: vectors 1, 5, 9, 13 to Z20 to Z23, which are then zero
  pub four_taken : executed_within 16 32 0xC0062ED4 8 (x_with 9 3) (ones 32) ≡
      done_with (z_with 16 32 (λ v. eqb (v / 4) 5) (λ v. za_part 16 32 (4 * (v - 20) + 1))) (za_with 16 32 (λ v. ltb v 16 && eqb (v % 4) 1) (λ v. replicate 16 0)) (memory_of 8)

-- ---- loads and stores

-- row 19 mod 16 by W12, base 2^64 - 8 and offset 4
abbrev pub x_at_top : List ℕ
x_at_top = set (set (x_with 12 19) 1 (2 ^ 64 - 8)) 2 4

pub record AccessesWithin : Type 0 where
  -- 9: E03F03E0, stack pointer 1008 hex: with an active element 6, with none done and nothing written; the bits beyond 16 are all set and do not count
  pub active : executed_within 16 32 0xE03F03E0 8 (x_with 31 0x1008) (governed_by 0 0x80) ≡ refused_with 32 8 6
  pub none : executed_within 16 32 0xE03F03E0 8 (x_with 31 0x1008) (governed_by 0 0) ≡ done_with (z_at 32) (za_at 32) (memory_of 8)
  -- 10: E0220020, X1 = 2^64 - 8, X2 = 4, memory address 0, length 64. All active: 7, address FFFFFFFFFFFFFFFC, element 0 (request 6). Elements 4 to 15 only: done, bytes 0 to 11 written;
  -- with W12 = 19 these are of row 3
  pub all : executed_within 16 32 0xE0220020 64 x_at_top (ones 32) ≡ outside_with 32 64 0xFFFFFFFFFFFFFFFC 0
  pub some : executed_within 16 32 0xE0220020 64 x_at_top (governed_by 0xF0 0xFF) ≡ done_with (z_at 32) (za_at 32) (drop 4 (za_part 16 32 3) ++ drop 12 (memory_of 64))
  -- E0820020, a load with m = 4 (request 2), and 10 bytes of memory: element 2 has its bytes 2 and 3 outside
  pub element : executed_within 16 32 0xE0820020 10 (set (set (x_with 12 19) 1 0) 2 0) (ones 32) ≡ outside_with 32 10 10 2
  -- memory of 16 bytes is enough, though vectors start 32 apart
  pub fits : executed_within 16 32 0xE0220020 16 (set (set (x_with 12 19) 1 0) 2 0) (ones 32) ≡ done_with (z_at 32) (za_at 32) (za_part 16 32 3)
  -- E0020020, the load of that row (request 2), with alternating bits: the inactive elements become zero, the bytes beyond 16 stay
  pub load : executed_within 16 32 0xE0020020 64 (set (set (x_with 12 19) 1 0) 2 0) (governed_by 0x55 0x55) ≡
      done_with (z_at 32) (za_with 16 32 (λ v. eqb v 3) (λ v. alternate true (take 16 (memory_of 64)) (replicate 16 0))) (memory_of 64)
  -- E0A20025 and E0820025, store and load, m = 4, W12, P0, X1, X2, tile 1, offset 1 (request 2). B 16 in 32, W12 = 6: slice 3 of four, vector 13; X1 = 2 and X2 = 2, so
  -- memory's bytes 10 to 25
  pub wide_store : executed_within 16 32 0xE0A20025 64 (set (set (x_with 12 6) 1 2) 2 2) (ones 32) ≡
      done_with (z_at 32) (za_at 32) (take 10 (memory_of 64) ++ (za_part 16 32 13 ++ drop 26 (memory_of 64)))
  pub wide_load : executed_within 16 32 0xE0820025 64 (set (set (x_with 12 6) 1 2) 2 2) (ones 32) ≡
      done_with (z_at 32) (za_with 16 32 (λ v. eqb v 13) (λ v. take 16 (drop 10 (memory_of 64)))) (memory_of 64)

-- ---- answers

-- the number of the answer of C0000000 with vectors of B bytes in buffers for S, where the buffers are those for n
abbrev pub number_for : ℕ → ℕ → ℕ → ℕ
number_for B S n = executed_number (execute_of (settings_within B S 0) 0xC0000000 (state_at n 0 (x_with 12 0) (ones n))).answer

pub record AnswersWithin : Type 0 where
  -- the buffers go by the largest length: those for the vector length are answered 2, and so are those for another
  pub lengths : map (number_for 16 32) (16 ∷ 32 ∷ 64 ∷ []) ≡ 2 ∷ 0 ∷ 2 ∷ []
  -- a largest length that is below the vector length, 0, or none of the five: 1, with the buffers for the vector length and, below, for the largest
  pub largest : map (λ S. number_for 32 S 32) (0 ∷ 16 ∷ 31 ∷ 33 ∷ 48 ∷ 512 ∷ 0x1_0000_0020 ∷ []) ≡ replicate 7 1
  pub below : number_for 32 16 16 ≡ 1

-- ---- two states that agree within B and differ beyond it

-- n numbers: f i, f (i + 1) and so on
abbrev pub numbered : (ℕ → ℕ) → ℕ → ℕ → List ℕ
numbered f i zero = []
numbered f i (suc n) = f i ∷ numbered f (suc i) n

-- a state with buffers for S: the bytes within B are those of t, and every byte beyond is b
module _ (s : Settings) (t : State) where
  abbrev pub filling : ℕ → State
  filling b =
      let B = s.vector_bytes in let S = stride_of s in
      state_of t.x
      (numbered (λ i. cond (ltb (i % S) B) (get_or t.z i 0) b) 0 (32 * S))
      (numbered (λ i. cond (ltb (i % (S / 8)) (B / 8)) (get_or t.p i 0) b) 0 (16 * (S / 8)))
      (numbered (λ i. cond (ltb (i / S) B && ltb (i % S) B) (get_or t.za i 0) b) 0 (S * S))
      t.memory

-- for each pair of a vector length and a longer one, and whatever is within: two such states agree, and every byte beyond is what one likes
pub record FillingsAgree (s : Settings) (t : State) (b c : ℕ) : Type 0 where
  pub agree : AgreeWithin s (filling s t b) (filling s t c)
  pub z : (v k : ℕ) → v < 32 → B s ≤ k → k < S s → get_or (filling s t b).z (v * S s + k) 0 ≡ b
  pub p : (v k : ℕ) → v < 16 → B s / 8 ≤ k → k < S s / 8 → get_or (filling s t b).p (v * (S s / 8) + k) 0 ≡ b
  pub za : (v k : ℕ) → v < S s → B s ≤ k → k < S s → get_or (filling s t b).za (v * S s + k) 0 ≡ b
  pub vectors : (v k : ℕ) → B s ≤ v → v < S s → k < S s → get_or (filling s t b).za (v * S s + k) 0 ≡ b

abbrev pub FillingsShown : Type 0
FillingsShown = (s : Settings) (t : State) (b c : ℕ) → valid_vectors s ≡ true → s.vector_bytes < stride_of s → FillingsAgree s t b c

-- words are done on them, at 16 in 32: a run of one of each kind, all of which are done with 0 beyond and with 255
abbrev pub words_run : ℕ → ℕ
words_run b =
    (run_of (settings_within 16 32 0) (0xC0000000 ∷ 0xC0020400 ∷ 0xC0020200 ∷ 0xC0064CFC ∷ 0xC0060A6A ∷ 0xE0220020 ∷ 0xE0020020 ∷ [])
    (filling (settings_within 16 32 0) (state_at 32 16 (set (set (x_with 12 19) 1 0) 2 0) (ones 32)) b)).words

pub record LongBuffersHold : Type 0 where
  pub moves : MovesWithin
  pub groups : GroupsWithin
  pub accesses : AccessesWithin
  pub answers : AnswersWithin
  pub done : map words_run (0 ∷ 255 ∷ []) ≡ 7 ∷ 7 ∷ []

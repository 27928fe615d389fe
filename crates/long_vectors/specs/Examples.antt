-- Worked examples at vectors of 128 and of 256 bytes, in the manner of 01 §7: one of each kind at each length. A crate of their own, since every check of the
-- crate semantics would compute them again. To believe: the buffers afterwards, and for array moves the bytes.
-- Assumes nothing.
use Rattle.std.specs.Prelude.{ℕ, ◌+◌, ◌*◌, ◌-◌, ◌/◌, ◌%◌, ◌^◌, ◌<◌, ◌≡◌, Bool, cond, ◌&&◌, ◌||◌, List, [], ◌∷◌, ◌++◌, eqb, ltb, get_or, set, take, drop, replicate}
use Rattle.semantics.specs.ExampleBuffers.{vector_in, z_at, za_at, memory_of, x_with, Seen, executed_in, executed, vectors, done_with}

-- the bytes of vector register v, and Z and ZA with vector v replaced, at B bytes
abbrev register : ℕ → ℕ → List ℕ
register B v = vector_in (z_at B) B v

abbrev with_register : ℕ → ℕ → List ℕ → List ℕ
with_register B v l = take (v * B) (z_at B) ++ (l ++ drop ((v + 1) * B) (z_at B))

abbrev vector : ℕ → ℕ → List ℕ
vector B v = vector_in (za_at B) B v

abbrev with_vector : ℕ → ℕ → List ℕ → List ℕ
with_vector B v l = take (v * B) (za_at B) ++ (l ++ drop ((v + 1) * B) (za_at B))

-- P in which predicate register pg is given and every bit of the others is set
abbrev predicate : ℕ → ℕ → List ℕ → List ℕ
predicate B pg l = replicate (pg * (B / 8)) 255 ++ (l ++ replicate ((15 - pg) * (B / 8)) 255)

-- n elements of m bytes, given by element: those that are `on` from one list of bytes, from their own places, the others from another
abbrev chosen : ℕ → ℕ → (ℕ → Bool) → (ℕ → List ℕ) → (ℕ → List ℕ) → List ℕ
chosen m n on f g = vectors m n (λ e. cond (on e) (f e) (g e))

-- element e of m bytes of a vector
abbrev element_in : ℕ → List ℕ → ℕ → List ℕ
element_in m l e = take m (drop (e * m) l)

-- ---- 128 bytes

pub record At128 : Type 0 where
  -- C0805529: to the tile, m = 4, horizontal, W14, P5, Z9, tile 2, offset 1. W14 = 31: slice 0, vector 2. Odd elements below 16 and even ones from 16 on are active
  pub to_tile : executed 128 0xC0805529 8 (x_with 14 31) (predicate 128 5 (replicate 8 0xFE ++ replicate 8 0xEF)) ≡
      done_with (z_at 128) (with_vector 128 2 (chosen 4 32 (λ e. eqb (e % 2) (cond (ltb e 16) 1 0)) (element_in 4 (register 128 9)) (element_in 4 (vector 128 2)))) (memory_of 8)
  -- C04223B5: from the tile with zeroing, m = 2, horizontal, W13, tile 1, offset 5, Z21. W13 = 60: slice 1, vector 3
  pub zeroing : executed 128 0xC04223B5 8 (x_with 13 60) (replicate 256 0) ≡
      done_with (with_register 128 21 (vector 128 3)) (with_vector 128 3 (replicate 128 0)) (memory_of 8)
  -- C0C2197E: from the tile, m = 8, horizontal, W12, P6, tile 5, offset 1, Z30. W12 = 4,294,967,295: slice 0, vector 5. Every second element is active, from element 0 on
  pub from_tile : executed 128 0xC0C2197E 8 (x_with 12 4294967295) (predicate 128 6 (vectors 2 8 (λ e. 1 ∷ 0xFE ∷ []))) ≡
      done_with (with_register 128 30 (chosen 8 16 (λ e. eqb (e % 2) 0) (element_in 8 (vector 128 5)) (element_in 8 (register 128 30)))) (za_at 128) (memory_of 8)
  -- E1E76E82: store, m = 16, horizontal, W15, P3, X20, X7, tile 2. W15 = 8: slice 0, vector 2; X20 = 1FB8 hex and X7 = 5, so element e goes to 2008 + 16e hex. Elements 1, 2
  -- and 5 are active
  pub store : executed_in 128 0x2000 140 0xE1E76E82 (set (set (x_with 15 8) 20 0x1FB8) 7 5) (predicate 128 3 (0xFE ∷ 255 ∷ 1 ∷ 0 ∷ 255 ∷ 255 ∷ 0 ∷ 255 ∷ 0xFE ∷ 255 ∷ 1 ∷ 0 ∷ 0 ∷ 255 ∷ 0 ∷ 255 ∷ [])) ≡
      done_with (z_at 128) (za_at 128)
      (take 8 (memory_of 140) ++ (chosen 16 8 (λ e. eqb e 1 || eqb e 2 || eqb e 5) (element_in 16 (vector 128 2)) (λ e. element_in 16 (drop 8 (memory_of 140)) e) ++ drop 136 (memory_of 140)))
  -- E09F244E: load, m = 4, horizontal, W13, P1, X2, no offset register, tile 3, offset 2. W13 = 30: slice 0, vector 3; X2 = 2FFC hex, so element 0 is before memory, which
  -- starts at 3000 hex. Element 1 is active and the even ones from 2 on
  pub load : executed_in 128 0x3000 124 0xE09F244E (set (x_with 13 30) 2 0x2FFC) (predicate 128 1 (0xFE ∷ replicate 15 0xEF)) ≡
      done_with (z_at 128)
      (with_vector 128 3 (chosen 4 32 (λ e. eqb e 1 || (eqb (e % 2) 0 && ltb 0 e)) (λ e. take 4 (drop (4 * e - 4) (memory_of 124))) (λ e. replicate 4 0)))
      (memory_of 124)

-- ---- 256 bytes

pub record At256 : Type 0 where
  -- C0C07C6B: to the tile, m = 8, horizontal, W15, P7, Z3, tile 5, offset 1. W15 = 31: slice 0, vector 5; every second element is active, from element 1 on
  pub to_tile : executed 256 0xC0C07C6B 8 (x_with 15 31) (predicate 256 7 (vectors 2 16 (λ e. 0xFE ∷ 1 ∷ []))) ≡
      done_with (z_at 256) (with_vector 256 5 (chosen 8 32 (λ e. eqb (e % 2) 1) (element_in 8 (register 256 3)) (element_in 8 (vector 256 5)))) (memory_of 8)
  -- C00202F1: from the tile with zeroing, m = 1, horizontal, W12, offset 7, Z17. W12 = 253, with a bit above the 32: slice 4, vector 4
  pub zeroing : executed 256 0xC00202F1 8 (x_with 12 (2 ^ 32 + 253)) (replicate 512 0) ≡
      done_with (with_register 256 17 (vector 256 4)) (with_vector 256 4 (replicate 256 0)) (memory_of 8)
  -- C08229C6: from the tile, m = 4, horizontal, W13, P2, tile 3, offset 2, Z6. W13 = 62: slice 0, vector 3; elements 0, 2, 4, .. are active
  pub from_tile : executed 256 0xC08229C6 8 (x_with 13 62) (predicate 256 2 (replicate 32 0xEF)) ≡
      done_with (with_register 256 6 (chosen 4 64 (λ e. eqb (e % 2) 0) (element_in 4 (vector 256 3)) (element_in 4 (register 256 6)))) (za_at 256) (memory_of 8)
  -- E06953ED: store, m = 2, horizontal, W14, P4, stack pointer, X9, tile 1, offset 5. W14 = 124: slice 1, vector 3; the stack pointer is 1000 hex and X9 = 3, so element e goes to
  -- 1006 + 2e hex; elements 0, 2, 4, .. are active
  pub store : executed_in 256 0x1000 300 0xE06953ED (set (set (x_with 14 124) 31 0x1000) 9 3) (predicate 256 4 (replicate 32 0xBB)) ≡
      done_with (z_at 256) (za_at 256)
      (take 6 (memory_of 300) ++ (chosen 2 128 (λ e. eqb (e % 2) 0) (element_in 2 (vector 256 3)) (λ e. element_in 2 (drop 6 (memory_of 300)) e) ++ drop 262 (memory_of 300)))
  -- E0031509: load, m = 1, horizontal, W12, P5, X8, X3, offset 9. W12 = 248: slice 1, vector 1; X8 = 500 hex and X3 = 20 hex, so element e is byte e of memory. The first
  -- four of each eight elements are active
  pub load : executed_in 256 0x520 256 0xE0031509 (set (set (x_with 12 248) 8 0x500) 3 0x20) (predicate 256 5 (replicate 32 0x0F)) ≡
      done_with (z_at 256) (with_vector 256 1 (chosen 1 256 (λ e. ltb (e % 8) 4) (element_in 1 (memory_of 256)) (λ e. replicate 1 0))) (memory_of 256)

-- ---- array moves: each byte by the sentences of document 01 (`OperationsMean`), as computing whole buffers would take long

-- C0066CCC: four of the array, W11, offset 6, Z12 to Z15; with zeroing it is C0066ECC. x is X11
abbrev four_at : ℕ → ℕ → ℕ → Seen
four_at B w x = executed B w 8 (x_with 11 x) (replicate (2 * B) 0)

-- byte k of register j takes byte k of vector first + j * B / 4
abbrev TakesFour : ℕ → ℕ → Seen → Type 0
TakesFour B first r = (j k : ℕ) → j < 4 → k < B → get_or r.z ((12 + j) * B + k) 0 ≡ get_or (za_at B) ((first + j * (B / 4)) * B + k) 0

-- these vectors are zero and every other byte of ZA is as it was
pub record ZeroesFour (B first : ℕ) (r : Seen) : Type 0 where
  pub inside : (j k : ℕ) → j < 4 → k < B → get_or r.za ((first + j * (B / 4)) * B + k) 0 ≡ 0
  pub outside : (q : ℕ) → ((j k : ℕ) → j < 4 → k < B → q ≡ (first + j * (B / 4)) * B + k → ⊥) → get_or r.za q 0 ≡ get_or (za_at B) q 0

pub record ArraysMove : Type 0 where
  -- at 128 bytes W11 = 60: vectors 2, 34, 66 and 98
  pub taken128 : TakesFour 128 2 (four_at 128 0xC0066CCC 60) × ((four_at 128 0xC0066CCC 60).za ≡ za_at 128)
  pub zeroed128 : TakesFour 128 2 (four_at 128 0xC0066ECC 60) × ZeroesFour 128 2 (four_at 128 0xC0066ECC 60)
  -- at 256 bytes W11 = 253: vectors 3, 67, 131 and 195
  pub taken256 : TakesFour 256 3 (four_at 256 0xC0066CCC 253) × ((four_at 256 0xC0066CCC 253).za ≡ za_at 256)
  pub zeroed256 : TakesFour 256 3 (four_at 256 0xC0066ECC 253) × ZeroesFour 256 3 (four_at 256 0xC0066ECC 253)
  -- in numbers: the last byte of Z15, which is that of vector 195, and the first byte of vector 131
  pub last256 : get_or (four_at 256 0xC0066ECC 253).z 4095 0 ≡ 3
  pub first256 : get_or (four_at 256 0xC0066ECC 253).za 33536 0 ≡ 0

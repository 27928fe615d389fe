-- Worked examples of the element that answer 7 carries (request 6 of 02), in the manner of 01 §7, each for a store and a load, the last two for loads or stores of every
-- size. To believe: the addresses and the elements. Examples 9 and 10, and those of the words that request 2 adds, tell the element too.
-- Assumes nothing.
use Rattle.std.specs.Prelude.{ℕ, ◌-◌, ◌^◌, ◌≡◌, List, [], ◌∷◌, ◌++◌, map, set, replicate}
use Rattle.semantics.specs.ExampleBuffers.{x_with, ones, predicate0, Seen, executed_in, outside_with}

-- X with a base in X1, nothing in X2, and W12 = 5
abbrev x_at : ℕ → List ℕ
x_at base = set (set (x_with 12 5) 1 base) 2 0

-- E0220020 and E0020020: bytes, horizontal, W12, P0, X1, X2. B 16, 64 bytes of memory at 1000 hex, X1 = 1038 hex: elements 8 to 15 are outside. P0 has elements
-- 2, 5, 11 and 13 active: the first active one is 2, the lowest outside memory is 8, and the lowest that is both is 11
abbrev among_active : ℕ → Seen
among_active w = executed_in 16 0x1000 64 w (x_at 0x1038) (predicate0 16 (0x24 ∷ 0x28 ∷ []))

-- E1E20026 and E1C20026: m = 16, horizontal, W12, P0, X1, X2, tile 6. B 64, so four elements; 64 bytes of memory at 1000 hex
abbrev of_sixteen : ℕ → ℕ → Seen
of_sixteen base w = executed_in 64 0x1000 64 w (x_at base) (ones 64)

-- E0E20026 and E0C20026: m = 8, horizontal, W12, P0, X1, X2, tile 3. B 32, X1 = 2^64 - 12: element 0 ends below 2^64, and element 1 has its bytes 0 to 3 at the
-- top and 4 to 7 from address 0 on. n bytes of memory at an address
abbrev over_top : ℕ → ℕ → List ℕ → ℕ → Seen
over_top address n p w = executed_in 32 address n w (x_at (2 ^ 64 - 12)) p

-- E0A2A829 and E082A829: m = 4, vertical, W13, P2, X1, X2, tile 2, offset 1. B 32, 22 bytes of memory at 1000 hex and X1 = 1000 hex: element 5 has its bytes 2
-- and 3 outside, elements 6 and 7 are outside. P2 as given
abbrev in_column : List ℕ → ℕ → Seen
in_column r w = executed_in 32 0x1000 22 w (set (x_at 0x1000) 13 20) (replicate 8 255 ++ (r ++ replicate 52 255))

-- 40 bytes of memory at 1000 hex, B 64, every element active from X1 = 1000 hex on: what is told
abbrev told : ℕ → List ℕ
told w =
    let o = executed_in 64 0x1000 40 w (x_at 0x1000) (ones 64) in
    o.number ∷ o.address ∷ o.element ∷ []

pub record ElementsHold : Type 0 where
  pub not_first_active : map among_active (0xE0220020 ∷ 0xE0020020 ∷ []) ≡ replicate 2 (outside_with 16 64 0x1043 11)
  -- from 1010 hex on element 3 is outside; from 1014 hex on element 2 has its bytes 12 to 15 outside
  pub wide : map (of_sixteen 0x1010) (0xE1E20026 ∷ 0xE1C20026 ∷ []) ≡ replicate 2 (outside_with 64 64 0x1040 3)
  pub straddling : map (of_sixteen 0x1014) (0xE1E20026 ∷ 0xE1C20026 ∷ []) ≡ replicate 2 (outside_with 64 64 0x1040 2)
  -- memory ends at 2^64: byte 4 of element 1 is the first outside, and its address is 0
  pub top_below : map (over_top (2 ^ 64 - 12) 12 (ones 32)) (0xE0E20026 ∷ 0xE0C20026 ∷ []) ≡ replicate 2 (outside_with 32 12 0 1)
  -- memory begins at 0, and element 0 is not active: byte 0 of element 1 is the first outside
  pub top_above : map (over_top 0 32 (predicate0 32 (0xFE ∷ 1 ∷ 1 ∷ 1 ∷ []))) (0xE0E20026 ∷ 0xE0C20026 ∷ []) ≡ replicate 2 (outside_with 32 32 0xFFFFFFFFFFFFFFFC 1)
  -- elements 1, 3, 5 and 6 active, and the same without 5
  pub vertical : map (in_column (0x10 ∷ 0x10 ∷ 0x10 ∷ 1 ∷ [])) (0xE0A2A829 ∷ 0xE082A829 ∷ []) ≡ replicate 2 (outside_with 32 22 0x1016 5)
  pub vertical_later : map (in_column (0x10 ∷ 0x10 ∷ 0 ∷ 1 ∷ [])) (0xE0A2A829 ∷ 0xE082A829 ∷ []) ≡ replicate 2 (outside_with 32 22 0x1018 6)
  -- one address, and by the size m = 1, 2, 4, 8, 16 element 40, 20, 10, 5 or 2: horizontal loads, vertical stores
  pub loads : map told (0xE0020020 ∷ 0xE0420020 ∷ 0xE0820020 ∷ 0xE0C20020 ∷ 0xE1C20020 ∷ []) ≡ map (λ (e : ℕ). 7 ∷ 0x1028 ∷ e ∷ []) (40 ∷ 20 ∷ 10 ∷ 5 ∷ 2 ∷ [])
  pub stores : map told (0xE0228020 ∷ 0xE0628020 ∷ 0xE0A28020 ∷ 0xE0E28020 ∷ 0xE1E28020 ∷ []) ≡ map (λ (e : ℕ). 7 ∷ 0x1028 ∷ e ∷ []) (40 ∷ 20 ∷ 10 ∷ 5 ∷ 2 ∷ [])

-- Worked examples of taking and giving up, computed from the definitions. Request 9 has none; these are worked from 01 §3: tile t of m bytes
-- is ZA's vectors t, t + m, t + 2m and so on. To believe: the literal answers and tiles.
-- Assumes nothing.
use Rattle.std.specs.Prelude.{ℕ, ◌≡◌, List, [], ◌∷◌, map, take, replicate, Ok}
use Rattle.planner.specs.Tile.{tile_of, no_tile}
use Rattle.planner.specs.Held.{answer_number, held_tiles, held_from, take_of, number_of, held_after, give_up_of, held_left}
use Rattle.planner.specs.declared.tile.Tile.{Tile}
use Rattle.planner.specs.declared.held.Held.{Held}

-- tiles as pairs of numbers, bytes and number
abbrev pub numbers_of : List Tile → List ℕ
numbers_of [] = []
numbers_of (x ∷ xs) = x.bytes ∷ x.number ∷ numbers_of xs

-- the answer's number, the tile's number, and the held tiles afterwards
abbrev pub asks : Held → ℕ → List ℕ
asks h m = let r = take_of h m in answer_number r ∷ number_of r ∷ numbers_of (held_tiles (held_after h r))

-- the answer's number, and the held tiles afterwards
abbrev pub gives : Held → Tile → List ℕ
gives h x = let r = give_up_of h x in answer_number r ∷ numbers_of (held_tiles (held_left h r))

-- the answer's number and the tile's
abbrev pub answers : List Tile → List ℕ → List (List ℕ)
answers l ms = map (λ m. let r = take_of (held_from l) m in answer_number r ∷ number_of r ∷ []) ms

-- the answer's number, the tile's number, and the whole record afterwards
abbrev pub asks_whole : Held → ℕ → ℕ × ℕ × Held
asks_whole h m = let r = take_of h m in (answer_number r, number_of r, held_after h r)

-- the answer's number, and the whole record afterwards
abbrev pub gives_whole : Held → Tile → ℕ × Held
gives_whole h x = let r = give_up_of h x in (answer_number r, held_left h r)

abbrev pub every_size : List ℕ
every_size = 1 ∷ 2 ∷ 4 ∷ 8 ∷ 16 ∷ []

-- all tiles of 16 bytes
abbrev pub every_part : List Tile
every_part = map (tile_of 16) (0 ∷ 1 ∷ 2 ∷ 3 ∷ 4 ∷ 5 ∷ 6 ∷ 7 ∷ 8 ∷ 9 ∷ 10 ∷ 11 ∷ 12 ∷ 13 ∷ 14 ∷ 15 ∷ [])

-- a record with something after the tiles that are held
abbrev pub cluttered : ℕ → Held
cluttered n = record { tiles = tile_of 1 0 ∷ tile_of 3 9 ∷ replicate 14 no_tile; count = n }

abbrev pub above_sixteen : List ℕ
above_sixteen = 17 ∷ 18 ∷ 256 ∷ 272 ∷ 0x1_0000_0000 ∷ 0xFFFF_FFFF_FFFF_FFFF ∷ []

-- sixteen places with every part, and a count
abbrev pub counted : ℕ → Held
counted n = record { tiles = every_part; count = n }

pub record TakingExamplesHold : Type 0 where
  -- nothing is held: tile 0 of each size
  pub nothing : answers [] every_size ≡ replicate 5 (0 ∷ 0 ∷ [])
  pub first : asks (held_from []) 4 ≡ 0 ∷ 0 ∷ 4 ∷ 0 ∷ []
  -- tile 0 of 2 bytes, the even vectors, is held: the lowest odd number, and no tile of 1 byte
  pub even : answers (tile_of 2 0 ∷ []) every_size ≡ (13 ∷ 0 ∷ []) ∷ replicate 4 (0 ∷ 1 ∷ [])
  pub odd : answers (tile_of 2 1 ∷ []) every_size ≡ (13 ∷ 0 ∷ []) ∷ replicate 4 (0 ∷ 0 ∷ [])
  -- tile 1 of 4 bytes (vectors 1, 5, 9, 13) and tile 0 of 8 bytes (vectors 0 and 8) are held
  pub two : answers (tile_of 4 1 ∷ tile_of 8 0 ∷ []) every_size ≡ (13 ∷ 0 ∷ []) ∷ (13 ∷ 0 ∷ []) ∷ replicate 3 (0 ∷ 2 ∷ [])
  pub joins : asks (held_from (tile_of 4 1 ∷ tile_of 8 0 ∷ [])) 4 ≡ 0 ∷ 2 ∷ 4 ∷ 1 ∷ 8 ∷ 0 ∷ 4 ∷ 2 ∷ []
  -- the lowest number: 1, not 4, which lies in the same half as 0
  pub lowest : answers (tile_of 8 0 ∷ []) (8 ∷ 16 ∷ []) ≡ replicate 2 (0 ∷ 1 ∷ [])
  -- a gap between held numbers, and the last number of a size
  pub gap : answers (tile_of 16 0 ∷ tile_of 16 2 ∷ []) (16 ∷ 8 ∷ 4 ∷ 2 ∷ []) ≡ replicate 4 (0 ∷ 1 ∷ [])
  pub last : answers (tile_of 2 0 ∷ tile_of 4 1 ∷ tile_of 8 3 ∷ []) (8 ∷ 16 ∷ 4 ∷ []) ≡ (0 ∷ 7 ∷ []) ∷ (0 ∷ 7 ∷ []) ∷ (13 ∷ 0 ∷ []) ∷ []
  -- all of ZA is held: none of any size
  pub full : answers every_part every_size ≡ replicate 5 (13 ∷ 0 ∷ [])
  pub whole : asks (held_from (tile_of 1 0 ∷ [])) 16 ≡ 13 ∷ 0 ∷ 1 ∷ 0 ∷ []
  -- no such size: 8, also where the held tiles are bad
  pub sizes : answers (tile_of 3 0 ∷ []) (0 ∷ 3 ∷ 5 ∷ 6 ∷ 7 ∷ 9 ∷ 10 ∷ 12 ∷ 15 ∷ 17 ∷ 32 ∷ 64 ∷ 257 ∷ 0x1_0000_0001 ∷ []) ≡ replicate 14 (8 ∷ 0 ∷ [])
  -- held tiles that do not exist
  pub missing : map (λ x. answers (tile_of 16 5 ∷ x ∷ []) (4 ∷ []))
      (tile_of 1 1 ∷ tile_of 2 2 ∷ tile_of 4 4 ∷ tile_of 8 8 ∷ tile_of 16 16 ∷ tile_of 3 0 ∷ no_tile ∷ tile_of 32 0 ∷ tile_of 257 0 ∷ tile_of 8 257 ∷ []) ≡
      replicate 10 ((16 ∷ 0 ∷ []) ∷ [])
  -- held tiles of one size or of two that share a byte, in either order, also beside others and where nothing else is free
  pub overlap : map (λ l. answers l (16 ∷ [])) (
      (tile_of 4 1 ∷ tile_of 4 1 ∷ []) ∷ (tile_of 2 1 ∷ tile_of 8 3 ∷ []) ∷ (tile_of 8 3 ∷ tile_of 2 1 ∷ []) ∷
      (tile_of 16 0 ∷ tile_of 8 3 ∷ tile_of 16 1 ∷ tile_of 16 11 ∷ []) ∷ (tile_of 1 0 ∷ tile_of 1 0 ∷ []) ∷ []) ≡
      replicate 5 ((16 ∷ 0 ∷ []) ∷ [])
  -- a count above sixteen: 16, but 8 comes first
  pub counts : map (λ n. answer_number (take_of (counted n) 16)) above_sixteen ≡ replicate 6 16
  pub counts_given : map (λ n. answer_number (give_up_of (counted n) (tile_of 16 15))) above_sixteen ≡ replicate 6 16
  pub counts_size : map (λ n. answer_number (take_of (counted n) 3)) above_sixteen ≡ replicate 6 8
  -- a refusal gives tile 0 and leaves the whole record
  pub kept_size : asks_whole (cluttered 1) 3 ≡ (8, 0, cluttered 1)
  pub kept_full : asks_whole (cluttered 1) 4 ≡ (13, 0, cluttered 1)
  pub kept_bad : asks_whole (cluttered 2) 4 ≡ (16, 0, cluttered 2)
  pub kept_count : asks_whole (cluttered 17) 4 ≡ (16, 0, cluttered 17)
  pub kept_given : gives_whole (cluttered 1) (tile_of 3 9) ≡ (16, cluttered 1)
  pub kept_given_count : gives_whole (cluttered 17) (tile_of 1 0) ≡ (16, cluttered 17)
  -- what stands after the held tiles does not count, and stays
  pub after : take_of (record { tiles = tile_of 8 1 ∷ tile_of 3 9 ∷ tile_of 8 1 ∷ replicate 13 no_tile; count = 1 }) 8 ≡
      Ok (record { number = 0; held = record { tiles = tile_of 8 1 ∷ tile_of 8 0 ∷ tile_of 8 1 ∷ replicate 13 no_tile; count = 2 } })
  -- the tile that is given up goes, and the others stay in their order, with no tile after them
  pub given : gives (held_from (tile_of 4 1 ∷ tile_of 8 0 ∷ tile_of 4 3 ∷ [])) (tile_of 8 0) ≡ 0 ∷ 4 ∷ 1 ∷ 4 ∷ 3 ∷ []
  pub order : gives (held_from (tile_of 4 1 ∷ tile_of 8 0 ∷ tile_of 4 3 ∷ [])) (tile_of 4 1) ≡ 0 ∷ 8 ∷ 0 ∷ 4 ∷ 3 ∷ []
  pub fifteen : gives (held_from every_part) (tile_of 16 15) ≡ 0 ∷ numbers_of (take 15 every_part)
  pub cleared : give_up_of (cluttered 1) (tile_of 1 0) ≡ Ok (record { tiles = replicate 16 no_tile; count = 0 })
  -- not held: another number, another size, a half of a held tile, no tile at all
  pub unheld : map (gives (held_from (tile_of 4 1 ∷ tile_of 8 0 ∷ []))) (tile_of 4 0 ∷ tile_of 8 1 ∷ tile_of 16 1 ∷ tile_of 2 1 ∷ tile_of 3 1 ∷ no_tile ∷ []) ≡
      replicate 6 (16 ∷ 4 ∷ 1 ∷ 8 ∷ 0 ∷ [])
  -- held tiles that are bad stay, also where the tile is among them or has no size
  pub bad : gives (held_from (tile_of 4 1 ∷ tile_of 2 1 ∷ [])) (tile_of 4 1) ≡ 16 ∷ 4 ∷ 1 ∷ 2 ∷ 1 ∷ []
  pub twice : gives (held_from (tile_of 4 1 ∷ tile_of 4 1 ∷ [])) (tile_of 4 1) ≡ 16 ∷ 4 ∷ 1 ∷ 4 ∷ 1 ∷ []
  pub bad_too : map (gives (held_from (tile_of 4 1 ∷ tile_of 4 4 ∷ []))) (tile_of 4 4 ∷ tile_of 4 1 ∷ tile_of 5 0 ∷ []) ≡ replicate 3 (16 ∷ 4 ∷ 1 ∷ 4 ∷ 4 ∷ [])

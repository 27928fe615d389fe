-- Claims about held tiles in arrays that a host lends: an array shorter than its count; worked examples, each about all results that the
-- contracts allow; and that the contracts leave nothing open. To believe: the literal numbers.
-- Assumes nothing.
use Rattle.std.specs.Prelude.{ℕ, ◌+◌, ◌*◌, ◌<◌, ◌≤◌, ◌≡◌, true, List, [], ◌∷◌, ◌++◌, length, get_or, take, drop, Result, Err, IsOkAnd}
use Rattle.general.specs.Determined.{Determined, IsOneOf}
use Rattle.std.specs.Result.{result_unwrap_or}
use Rattle.planner.specs.Tile.{tile_of, no_tile, is_size}
use Rattle.planner.specs.Held.{answer_number}
use Rattle.planner.specs.Examples.{numbers_of, every_part}
use Rattle.planner.specs.declared.tile.Tile.{Tile}
use Rattle.planner.specs.declared.answer.TileRefusal.{TileRefusal}
use Rattle.planner.specs.declared.answer.TileRefusal.TheVariants.{BadHeld}
use Rattle.planner.specs.declared.held.Held.{Held}
use Rattle.lent_tiles.specs.Lent.{take_in, give_up_in, TakesLent, GivesUpLent, Settles, TakesTile, GivesUpTile}

-- an array shorter than its count is answer 16, but for a size that is none of the five
abbrev pub ShortIsBad : Type 0
ShortIsBad =
    (ns : List ℕ) (n : ℕ) → length ns < 2 * n →
    ((m : ℕ) → is_size m ≡ true → take_in ns n m ≡ Err BadHeld) × ((x : Tile) → give_up_in ns n x ≡ Err BadHeld)

-- asked for a tile of m bytes with this array and count: the answer's number, the tile's, the count afterwards, the array afterwards
abbrev pub Took : List ℕ → ℕ → ℕ → List ℕ → Type 0
Took ns n m l = (r t n' : ℕ) (ns' : List ℕ) → TakesTile ns n m r t ns' n' → r ∷ t ∷ n' ∷ ns' ≡ l

-- given up a tile: the answer's number, the count afterwards, the array afterwards
abbrev pub Gave : List ℕ → ℕ → Tile → List ℕ → Type 0
Gave ns n x l = (r n' : ℕ) (ns' : List ℕ) → GivesUpTile ns n x r ns' n' → r ∷ n' ∷ ns' ≡ l

pub record LentExamplesHold : Type 0 where
  -- the new tile is written after the held ones, bytes first, and what is after it stays
  pub first : Took (9 ∷ 9 ∷ 9 ∷ []) 0 4 (0 ∷ 0 ∷ 1 ∷ 4 ∷ 0 ∷ 9 ∷ [])
  pub third : Took (4 ∷ 1 ∷ 8 ∷ 0 ∷ 7 ∷ 7 ∷ 6 ∷ []) 2 4 (0 ∷ 2 ∷ 3 ∷ 4 ∷ 1 ∷ 8 ∷ 0 ∷ 4 ∷ 2 ∷ 6 ∷ [])
  -- numbers after the held tiles do not count
  pub after : Took (8 ∷ 1 ∷ 3 ∷ 9 ∷ 8 ∷ 0 ∷ []) 1 8 (0 ∷ 0 ∷ 2 ∷ 8 ∷ 1 ∷ 8 ∷ 0 ∷ 8 ∷ 0 ∷ [])
  -- an array shorter than its count, by a tile, by a number, or by far; but 8 comes first
  pub short : Took (4 ∷ 1 ∷ []) 2 8 (16 ∷ 0 ∷ 2 ∷ 4 ∷ 1 ∷ [])
  pub short_by_half : Took (4 ∷ 1 ∷ 8 ∷ []) 2 8 (16 ∷ 0 ∷ 2 ∷ 4 ∷ 1 ∷ 8 ∷ [])
  pub short_full : Took (1 ∷ []) 1 8 (16 ∷ 0 ∷ 1 ∷ 1 ∷ [])
  pub short_by_far : Took [] 0xFFFF_FFFF_FFFF_FFFF 8 (16 ∷ 0 ∷ 0xFFFF_FFFF_FFFF_FFFF ∷ [])
  pub short_size : Took (8 ∷ 1 ∷ []) 2 3 (8 ∷ 0 ∷ 2 ∷ 8 ∷ 1 ∷ [])
  -- a free tile that has no place, and none free where there would be no place
  pub placeless : Took (8 ∷ 0 ∷ []) 1 8 (16 ∷ 0 ∷ 1 ∷ 8 ∷ 0 ∷ [])
  pub half : Took (4 ∷ 1 ∷ 8 ∷ []) 1 16 (16 ∷ 0 ∷ 1 ∷ 4 ∷ 1 ∷ 8 ∷ [])
  pub nothing : Took [] 0 1 (16 ∷ 0 ∷ 0 ∷ [])
  pub none_free : Took (1 ∷ 0 ∷ []) 1 16 (13 ∷ 0 ∷ 1 ∷ 1 ∷ 0 ∷ [])
  -- an array with just the place
  pub just : Took (5 ∷ 6 ∷ []) 0 16 (0 ∷ 0 ∷ 1 ∷ 16 ∷ 0 ∷ [])
  pub exact : Took (2 ∷ 1 ∷ 0 ∷ 0 ∷ []) 1 2 (0 ∷ 0 ∷ 2 ∷ 2 ∷ 1 ∷ 2 ∷ 0 ∷ [])
  -- sixteen held, and one more than that
  pub full : Took (numbers_of every_part) 16 16 (13 ∷ 0 ∷ 16 ∷ numbers_of every_part)
  pub many : Took (numbers_of every_part ++ (1 ∷ 0 ∷ [])) 17 16 (16 ∷ 0 ∷ 17 ∷ numbers_of every_part ++ (1 ∷ 0 ∷ []))
  -- no number is cut off
  pub wide : Took (257 ∷ 0 ∷ 0 ∷ 0 ∷ []) 1 8 (16 ∷ 0 ∷ 1 ∷ 257 ∷ 0 ∷ 0 ∷ 0 ∷ [])
  pub large : Took (8 ∷ 0x1_0000_0000 ∷ 0 ∷ 0 ∷ []) 1 8 (16 ∷ 0 ∷ 1 ∷ 8 ∷ 0x1_0000_0000 ∷ 0 ∷ 0 ∷ [])
  pub asked : Took (0 ∷ 0 ∷ []) 0 0x1_0000_0001 (8 ∷ 0 ∷ 0 ∷ 0 ∷ 0 ∷ [])
  -- the tiles after the one that is given up move up; the last pair stays behind them
  pub given : Gave (4 ∷ 1 ∷ 8 ∷ 0 ∷ 4 ∷ 3 ∷ 9 ∷ []) 3 (tile_of 4 1) (0 ∷ 2 ∷ 8 ∷ 0 ∷ 4 ∷ 3 ∷ 4 ∷ 3 ∷ 9 ∷ [])
  pub only : Gave (16 ∷ 5 ∷ []) 1 (tile_of 16 5) (0 ∷ 0 ∷ 16 ∷ 5 ∷ [])
  pub last : Gave (numbers_of every_part) 16 (tile_of 16 15) (0 ∷ 15 ∷ numbers_of every_part)
  -- all fifteen others move up, and a sixteenth is written behind fifteen
  pub first_given : Gave (numbers_of every_part) 16 (tile_of 16 0) (0 ∷ 15 ∷ numbers_of (drop 1 every_part) ++ (16 ∷ 15 ∷ []))
  pub sixteenth : Took (numbers_of (take 15 every_part) ++ (5 ∷ 6 ∷ 7 ∷ [])) 15 16 (0 ∷ 15 ∷ 16 ∷ numbers_of every_part ++ (7 ∷ []))
  -- a tile that is only after the held ones, one of another size, and one of no size are not held
  pub unheld : Gave (4 ∷ 1 ∷ 8 ∷ 0 ∷ []) 1 (tile_of 8 0) (16 ∷ 1 ∷ 4 ∷ 1 ∷ 8 ∷ 0 ∷ [])
  pub other : Gave (4 ∷ 1 ∷ []) 1 (tile_of 8 1) (16 ∷ 1 ∷ 4 ∷ 1 ∷ [])
  pub sizeless : Gave (4 ∷ 1 ∷ []) 1 (tile_of 3 1) (16 ∷ 1 ∷ 4 ∷ 1 ∷ [])
  -- an array shorter than its count, which has the tile
  pub short_given : Gave (4 ∷ 0 ∷ []) 2 (tile_of 4 0) (16 ∷ 2 ∷ 4 ∷ 0 ∷ [])
  pub short_given_by_half : Gave (4 ∷ 1 ∷ 16 ∷ []) 2 (tile_of 4 1) (16 ∷ 2 ∷ 4 ∷ 1 ∷ 16 ∷ [])

-- ---- the promises leave nothing open: each statement is from the promise alone, whichever function meets it

-- an array has held tiles in it, two numbers to a tile: the other numbers and the length are as they were
pub record Holds (ns : List ℕ) (h : Held) (ns' : List ℕ) : Type 0 where
  pub bytes : (i : ℕ) → i < h.count → get_or ns' (2 * i) 0 ≡ (get_or h.tiles i no_tile).bytes
  pub numbers : (i : ℕ) → i < h.count → get_or ns' (2 * i + 1) 0 ≡ (get_or h.tiles i no_tile).number
  pub others : (q : ℕ) → 2 * h.count ≤ q → get_or ns' q 0 ≡ get_or ns q 0
  pub long : length ns' ≡ length ns

-- an answer's number, array and count are one; with 0 the array has the held tiles that have places, and another number leaves array and count
pub record SettlesDetermines (ns : List ℕ) (n : ℕ) (a : Result Held TileRefusal) : Type 0 where
  pub determined : Determined (λ (o : ℕ × List ℕ × ℕ). Settles ns n a o.0 o.1 o.2)
  pub done : (r n' : ℕ) (ns' : List ℕ) → Settles ns n a r ns' n' → r ≡ 0 → IsOkAnd a (λ h. 2 * h.count ≤ length ns → (n' ≡ h.count) × Holds ns h ns')
  pub refused : (r n' : ℕ) (ns' : List ℕ) → Settles ns n a r ns' n' → (r ≡ 0 → ⊥) → (ns' ≡ ns) × (n' ≡ n)

pub record TakesTileDetermines (ns : List ℕ) (n m : ℕ) : Type 0 where
  pub determined : Determined (λ (o : ℕ × ℕ × List ℕ × ℕ). TakesTile ns n m o.0 o.1 o.2 o.3)
  pub numbers : (r t n' : ℕ) (ns' : List ℕ) → TakesTile ns n m r t ns' n' → IsOneOf (0 ∷ 8 ∷ 13 ∷ 16 ∷ []) r
  pub refused : (r t n' : ℕ) (ns' : List ℕ) → TakesTile ns n m r t ns' n' → (r ≡ 0 → ⊥) → (t ≡ 0) × (ns' ≡ ns) × (n' ≡ n)

pub record GivesUpTileDetermines (ns : List ℕ) (n : ℕ) (x : Tile) : Type 0 where
  pub determined : Determined (λ (o : ℕ × List ℕ × ℕ). GivesUpTile ns n x o.0 o.1 o.2)
  pub numbers : (r n' : ℕ) (ns' : List ℕ) → GivesUpTile ns n x r ns' n' → IsOneOf (0 ∷ 16 ∷ []) r
  pub refused : (r n' : ℕ) (ns' : List ℕ) → GivesUpTile ns n x r ns' n' → (r ≡ 0 → ⊥) → (ns' ≡ ns) × (n' ≡ n)

-- the same of the contracts over answers; a refusal leaves array and count
pub record TakesLentDetermines (ns : List ℕ) (n m : ℕ) : Type 0 where
  pub determined : Determined (λ (o : Result ℕ TileRefusal × List ℕ × ℕ). TakesLent ns n m o.0 o.1 o.2)
  pub refused : (e : TileRefusal) (n' : ℕ) (ns' : List ℕ) → TakesLent ns n m (Err e) ns' n' → (ns' ≡ ns) × (n' ≡ n)

pub record GivesUpLentDetermines (ns : List ℕ) (n : ℕ) (x : Tile) : Type 0 where
  pub determined : Determined (λ (o : Result (Unit {0}) TileRefusal × List ℕ × ℕ). GivesUpLent ns n x o.0 o.1 o.2)
  pub refused : (e : TileRefusal) (n' : ℕ) (ns' : List ℕ) → GivesUpLent ns n x (Err e) ns' n' → (ns' ≡ ns) × (n' ≡ n)

pub record LentDetermines : Type 0 where
  pub settles : (ns : List ℕ) (n : ℕ) (a : Result Held TileRefusal) → SettlesDetermines ns n a
  pub takes : (ns : List ℕ) (n m : ℕ) → TakesTileDetermines ns n m
  pub gives_up : (ns : List ℕ) (n : ℕ) (x : Tile) → GivesUpTileDetermines ns n x
  pub takes_lent : (ns : List ℕ) (n m : ℕ) → TakesLentDetermines ns n m
  pub gives_up_lent : (ns : List ℕ) (n : ℕ) (x : Tile) → GivesUpLentDetermines ns n x

-- what taking and giving up promise is what C is told by the answer's number and the tile's, 0 with a refusal: so what is said above of the numbers is said of them
pub record LentInNumbers : Type 0 where
  pub takes : (ns : List ℕ) (n m : ℕ) (r : Result ℕ TileRefusal) (ns' : List ℕ) (n' : ℕ) → TakesLent ns n m r ns' n' → TakesTile ns n m (answer_number r) (result_unwrap_or r 0) ns' n'
  pub gives_up : (ns : List ℕ) (n : ℕ) (x : Tile) (r : Result (Unit {0}) TileRefusal) (ns' : List ℕ) (n' : ℕ) → GivesUpLent ns n x r ns' n' → GivesUpTile ns n x (answer_number r) ns' n'

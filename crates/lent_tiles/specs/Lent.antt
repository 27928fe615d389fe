-- What taking a tile and giving one up promise where a host lends the held tiles as an array of numbers and a count. Renders request 9.
-- To believe: two numbers are a tile, its element's bytes and its number; a place outside the array has a tile that does not exist, so that an
-- array shorter than its count is answer 16; a tile that is found needs a place in the array, or the answer is 16 too; what stands after the held
-- tiles stays.
-- Assumes nothing.
use Rattle.std.specs.Prelude.{ℕ, zero, suc, ◌+◌, ◌*◌, ◌/◌, ◌%◌, ◌≡◌, Bool, cond, List, [], ◌∷◌, ◌++◌, eqb, leb, ltb, length, get_or, Result, Ok, Err}
use Rattle.std.specs.Result.{result_map_both}
use Rattle.general.specs.Scatter.{scatter, all}
use Rattle.planner.specs.Tile.{tile_of, no_tile}
use Rattle.planner.specs.Held.{answer_number, take_of, number_of, give_up_of}
use Rattle.planner.specs.declared.tile.Tile.{Tile}
use Rattle.planner.specs.declared.held.Held.{Held}
use Rattle.planner.specs.declared.answer.TileRefusal.{TileRefusal}
use Rattle.planner.specs.declared.answer.TileRefusal.TheVariants.{BadHeld}
use Rattle.planner.specs.declared.answer.Taken.{Taken}

-- ---- reading

-- the tile at place i of an array
abbrev pub tile_at_place : List ℕ → ℕ → Tile
tile_at_place ns i = cond (ltb (2 * i + 1) (length ns)) (tile_of (get_or ns (2 * i) 0) (get_or ns (2 * i + 1) 0)) no_tile

-- the tiles at its first n places
unfoldable pub tiles_in : List ℕ → ℕ → List Tile
tiles_in ns zero = []
tiles_in ns (suc n) = tiles_in ns n ++ (tile_at_place ns n ∷ [])

-- the record that array and count name
abbrev pub held_in : List ℕ → ℕ → Held
held_in ns n = record { tiles = tiles_in ns 16; count = n }

-- ---- answering

-- an array has a place for each of so many tiles
abbrev pub has_places : List ℕ → ℕ → Bool
has_places ns n = leb (2 * n) (length ns)

-- a tile that was found needs a place
abbrev pub if_placed : List ℕ → Result Taken TileRefusal → Result Taken TileRefusal
if_placed ns (Ok r) = cond (has_places ns r.held.count) (Ok r) (Err BadHeld)
if_placed ns (Err e) = Err e

unfoldable pub take_in : List ℕ → ℕ → ℕ → Result Taken TileRefusal
take_in ns n m = if_placed ns (take_of (held_in ns n) m)

unfoldable pub give_up_in : List ℕ → ℕ → Tile → Result Held TileRefusal
give_up_in ns n x = give_up_of (held_in ns n) x

-- the held tiles alone
abbrev pub held_of : Result Taken TileRefusal → Result Held TileRefusal
held_of a = result_map_both (λ r. r.held) (λ e. e) a

-- ---- writing

-- number k of held tiles, two to a tile
abbrev pub number_in : Held → ℕ → ℕ
number_in h k = let x = get_or h.tiles (k / 2) no_tile in cond (eqb (k % 2) 0) x.bytes x.number

-- an array with held tiles at its first places
unfoldable pub held_out : List ℕ → Held → List ℕ
held_out ns h = scatter (λ k. k) all (number_in h) (2 * h.count) ns

-- array and count afterwards: those of the held tiles, or as they were where the answer is a refusal
abbrev pub array_after : List ℕ → Result Held TileRefusal → List ℕ
array_after ns (Ok h) = held_out ns h
array_after ns (Err e) = ns

abbrev pub count_after : ℕ → Result Held TileRefusal → ℕ
count_after n (Ok h) = h.count
count_after n (Err e) = n

-- ---- promises

-- what an answer leaves in array and count
pub record Leaves (ns : List ℕ) (n : ℕ) (a : Result Held TileRefusal) (ns' : List ℕ) (n' : ℕ) : Type 0 where
  pub tiles : ns' ≡ array_after ns a
  pub count : n' ≡ count_after n a

-- taking gives the tile's number
pub record TakesLent (ns : List ℕ) (n m : ℕ) (r : Result ℕ TileRefusal) (ns' : List ℕ) (n' : ℕ) : Type 0 where
  pub answer : r ≡ result_map_both (λ t. t.number) (λ e. e) (take_in ns n m)
  pub leaves : Leaves ns n (held_of (take_in ns n m)) ns' n'

pub record GivesUpLent (ns : List ℕ) (n : ℕ) (x : Tile) (r : Result (Unit {0}) TileRefusal) (ns' : List ℕ) (n' : ℕ) : Type 0 where
  pub answer : r ≡ result_map_both (λ _. tt) (λ e. e) (give_up_in ns n x)
  pub leaves : Leaves ns n (give_up_in ns n x) ns' n'

-- ---- the same in numbers, for C

-- an answer's number, and what it leaves in array and count
pub record Settles (ns : List ℕ) (n : ℕ) (a : Result Held TileRefusal) (r : ℕ) (ns' : List ℕ) (n' : ℕ) : Type 0 where
  pub number : r ≡ answer_number a
  pub tiles : ns' ≡ array_after ns a
  pub count : n' ≡ count_after n a

pub record TakesTile (ns : List ℕ) (n m r t : ℕ) (ns' : List ℕ) (n' : ℕ) : Type 0 where
  pub settles : Settles ns n (held_of (take_in ns n m)) r ns' n'
  pub tile : t ≡ number_of (take_in ns n m)

abbrev pub GivesUpTile : List ℕ → ℕ → Tile → ℕ → List ℕ → ℕ → Type 0
GivesUpTile ns n x r ns' n' = Settles ns n (give_up_in ns n x) r ns' n'

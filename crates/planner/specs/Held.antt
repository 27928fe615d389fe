-- Held tiles, taking one more and giving one up. Renders request 9.
-- To believe: the order of the refusals, 8, 16 and 13 for taking and 16 alone for giving up; that a count above sixteen is 16; that a refusal gives
-- tile 0 and leaves the record as it was (`number_of`, `held_after`, `held_left`). A tile that is taken stands after the others, and no tile after those that giving up leaves (docs/DECISIONS.md).
-- Assumes nothing.
use Rattle.std.specs.Prelude.{ℕ, ◌+◌, ◌-◌, ◌≡◌, Bool, cond, not, ◌&&◌, List, ◌++◌, leb, length, take, set, replicate, Result, Ok, Err}
use Rattle.std.proofs.Math.Option.{Option, none, some}
use Rattle.general.specs.Least.{is_some}
use Rattle.settings.specs.Answer.{done, out_of_range, no_free_tile, bad_held}
use Rattle.planner.specs.Tile.{tile_of, no_tile, is_size, is_valid, lowest_free, is_among, without}
use Rattle.planner.specs.declared.tile.Tile.{Tile}
use Rattle.planner.specs.declared.held.Held.{Held}
use Rattle.planner.specs.declared.answer.TileRefusal.{TileRefusal}
use Rattle.planner.specs.declared.answer.TileRefusal.TheVariants.{BadSize, BadHeld, NoFreeTile}
use Rattle.planner.specs.declared.answer.Taken.{Taken}

-- the numbers of the refusals
abbrev pub refusal_number : TileRefusal → ℕ
refusal_number BadSize = out_of_range
refusal_number BadHeld = bad_held
refusal_number NoFreeTile = no_free_tile

-- the number of an answer
abbrev pub answer_number : {A : Type 0} → Result A TileRefusal → ℕ
answer_number (Ok x) = done
answer_number (Err e) = refusal_number e

-- the tiles that a record holds: the first `count` of its sixteen
abbrev pub held_tiles : Held → List Tile
held_tiles h = take h.count h.tiles

-- more than sixteen tiles cannot be held: two of them would share a byte
abbrev pub valid_held : Held → Bool
valid_held h = leb h.count 16 && is_valid (held_tiles h)

-- ---- taking

-- one tile more, after the others
abbrev pub joined : Held → Tile → Held
joined h x = record { tiles = set h.tiles h.count x; count = h.count + 1 }

abbrev pub taken : Held → ℕ → Option ℕ → Result Taken TileRefusal
taken h m none = Err NoFreeTile
taken h m (some t) = Ok (record { number = t; held = joined h (tile_of m t) })

-- what asking for a tile of m bytes gives
unfoldable pub take_of : Held → ℕ → Result Taken TileRefusal
take_of h m = cond (is_size m) (cond (valid_held h) (taken h m (lowest_free (held_tiles h) m)) (Err BadHeld)) (Err BadSize)

-- the tile that an answer gives, and the held tiles after it: with a refusal tile 0, and the held tiles as they were
abbrev pub number_of : Result Taken TileRefusal → ℕ
number_of (Ok r) = r.number
number_of (Err e) = 0

abbrev pub held_after : Held → Result Taken TileRefusal → Held
held_after h (Ok r) = r.held
held_after h (Err e) = h

-- the number of the answer, by the order of request 9: 8, then 16, then 13
abbrev pub take_number : Held → ℕ → ℕ
take_number h m = cond (not (is_size m)) out_of_range (cond (not (valid_held h)) bad_held (cond (is_some (lowest_free (held_tiles h) m)) done no_free_tile))

-- what taking promises: the result, and the number of its answer
pub record TakesOne (h : Held) (m : ℕ) (r : Result Taken TileRefusal) : Type 0 where
  pub equal : r ≡ take_of h m
  pub number : answer_number r ≡ take_number h m

-- ---- giving up

-- a record that holds these tiles, with no tile at the places after them
abbrev pub held_from : List Tile → Held
held_from l = record { tiles = l ++ replicate (16 - length l) no_tile; count = length l }

-- what giving up a tile gives
unfoldable pub give_up_of : Held → Tile → Result Held TileRefusal
give_up_of h x = cond (valid_held h && is_among (held_tiles h) x) (Ok (held_from (without (held_tiles h) x))) (Err BadHeld)

-- the held tiles after it, with a refusal as they were
abbrev pub held_left : Held → Result Held TileRefusal → Held
held_left h (Ok k) = k
held_left h (Err e) = h

abbrev pub give_up_number : Held → Tile → ℕ
give_up_number h x = cond (valid_held h && is_among (held_tiles h) x) done bad_held

-- what giving up promises: the result, and the number of its answer
pub record GivesUpOne (h : Held) (x : Tile) (r : Result Held TileRefusal) : Type 0 where
  pub equal : r ≡ give_up_of h x
  pub number : answer_number r ≡ give_up_number h x

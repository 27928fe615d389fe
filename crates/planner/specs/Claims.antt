-- The theorems about taking a tile and giving one up, as statements in bytes of ZA, and that the promises leave nothing open; proofs/Claims.antt
-- proves each. Renders request 9.
-- Assumes nothing.
use Rattle.std.specs.Prelude.{ℕ, ◌<◌, ◌≤◌, ◌≡◌, true, false, List, [], ◌∷◌, ◌++◌, ◌⊎◌, length, Result, Ok, Err, IsOk}
use Rattle.general.specs.Determined.{Determined, Met, IsOneOf}
use Rattle.planner.specs.Tile.{tile_of, is_size, is_tile}
use Rattle.planner.specs.Held.{answer_number, held_tiles, held_from, valid_held, take_of, number_of, held_after, TakesOne, give_up_of, held_left, GivesUpOne}
use Rattle.planner.specs.Bytes.{Vectors, ByteShared, Halves, tile_at, Apart, SharedBy}
use Rattle.planner.specs.declared.tile.Tile.{Tile}
use Rattle.planner.specs.declared.held.Held.{Held}
use Rattle.planner.specs.declared.answer.TileRefusal.{TileRefusal}
use Rattle.planner.specs.declared.answer.TileRefusal.TheVariants.{BadSize, BadHeld, NoFreeTile}
use Rattle.planner.specs.declared.answer.Taken.{Taken}

-- a record of held tiles has sixteen places, as its type says
abbrev pub Sixteen : Held → Type 0
Sixteen h = length h.tiles ≡ 16

-- held tiles are valid exactly if they are at most sixteen, exist and share no byte
abbrev pub ValidHeldIsApart : Type 0
ValidHeldIsApart =
    (S B : ℕ) (h : Held) → Vectors S B →
    (valid_held h ≡ true → (h.count ≤ 16) × Apart S B (held_tiles h)) × (h.count ≤ 16 → Apart S B (held_tiles h) → valid_held h ≡ true)

-- 8 first, then 16, and otherwise 0 or 13; a refusal gives tile 0 and leaves the record
pub record Answers (h : Held) (m : ℕ) : Type 0 where
  pub size : is_size m ≡ false → take_of h m ≡ Err BadSize
  pub bad : is_size m ≡ true → valid_held h ≡ false → take_of h m ≡ Err BadHeld
  pub good : is_size m ≡ true → valid_held h ≡ true → IsOk (take_of h m) ⊎ (take_of h m ≡ Err NoFreeTile)
  pub refused : (IsOk (take_of h m) → ⊥) → (number_of (take_of h m) ≡ 0) × (held_after h (take_of h m) ≡ h)

abbrev pub TakingAnswers : Type 0
TakingAnswers = (h : Held) (m : ℕ) → Answers h m

-- a tile t of m bytes was taken: it exists, joins the held ones, shares no byte with them, and every lower number shares one
pub record Takes (S B : ℕ) (h : Held) (m t : ℕ) (h' : Held) : Type 0 where
  pub exists : is_tile (tile_of m t) ≡ true
  pub joins : held_tiles h' ≡ held_tiles h ++ (tile_of m t ∷ [])
  pub sixteen : Sixteen h'
  pub valid : valid_held h' ≡ true
  pub free : SharedBy S B (held_tiles h) (tile_of m t) → ⊥
  pub lowest : (u : ℕ) → u < t → SharedBy S B (held_tiles h) (tile_of m u)

abbrev pub TakingTakes : Type 0
TakingTakes =
    (S B : ℕ) (h : Held) (m : ℕ) (r : Taken) → Vectors S B → Sixteen h → take_of h m ≡ Ok r → Takes S B h m r.number r.held

-- 13 exactly when the size and the held tiles are good and every tile of the size shares a byte with a held one
pub record Full (S B : ℕ) (h : Held) (m : ℕ) : Type 0 where
  pub size : is_size m ≡ true
  pub valid : valid_held h ≡ true
  pub none : (t : ℕ) → t < m → SharedBy S B (held_tiles h) (tile_of m t)

abbrev pub NoFreeIsFull : Type 0
NoFreeIsFull =
    (S B : ℕ) (h : Held) (m : ℕ) → Vectors S B → Sixteen h →
    (take_of h m ≡ Err NoFreeTile → Full S B h m) × (Full S B h m → take_of h m ≡ Err NoFreeTile)

-- a tile can be given up exactly if the held ones are valid and it is one of them; a refusal is 16 and leaves the record
pub record GivingUp (h : Held) : Type 0 where
  pub held : valid_held h ≡ true → (k : ℕ) → k < length (held_tiles h) → IsOk (give_up_of h (tile_at (held_tiles h) k))
  pub refused : (x : Tile) → (IsOk (give_up_of h x) → ⊥) → (give_up_of h x ≡ Err BadHeld) × (held_left h (give_up_of h x) ≡ h)

abbrev pub GivingUpAnswers : Type 0
GivingUpAnswers = (h : Held) → GivingUp h

-- a tile was given up: it, and no other, is gone from the held ones, which were valid and are
pub record GivesUp (h : Held) (x : Tile) (h' : Held) : Type 0 where
  pub before : List Tile
  pub after : List Tile
  pub was : held_tiles h ≡ before ++ (x ∷ after)
  pub is : held_tiles h' ≡ before ++ after
  pub was_valid : valid_held h ≡ true
  pub sixteen : Sixteen h'
  pub valid : valid_held h' ≡ true

abbrev pub GivingUpGives : Type 0
GivingUpGives = (h : Held) (x : Tile) (h' : Held) → Sixteen h → give_up_of h x ≡ Ok h' → GivesUp h x h'

-- a tile that was taken can be given up, and the held ones are then those from before
pub record Undone (h : Held) (x : Tile) (h' : Held) : Type 0 where
  pub left : Held
  pub done : give_up_of h' x ≡ Ok left
  pub held : held_tiles left ≡ held_tiles h

abbrev pub TakingUndone : Type 0
TakingUndone = (h : Held) (m : ℕ) (r : Taken) → Sixteen h → take_of h m ≡ Ok r → Undone h (tile_of m r.number) r.held

-- when a tile has been given up, one of its size can be taken
abbrev pub GivenUpRetaken : Type 0
GivenUpRetaken = (h : Held) (x : Tile) (h' : Held) → Sixteen h → give_up_of h x ≡ Ok h' → IsOk (take_of h' x.bytes)

-- ---- the promises leave nothing open: each statement is from the promise alone, whichever function meets it

pub record TakesOneDetermines (h : Held) (m : ℕ) : Type 0 where
  pub met : Met (TakesOne h m)
  pub determined : Determined (TakesOne h m)
  pub numbers : (r : Result Taken TileRefusal) → TakesOne h m r → IsOneOf (0 ∷ 8 ∷ 13 ∷ 16 ∷ []) (answer_number r)
  pub refused : (r : Result Taken TileRefusal) → TakesOne h m r → (answer_number r ≡ 0 → ⊥) → (number_of r ≡ 0) × (held_after h r ≡ h)

pub record GivesUpOneDetermines (h : Held) (x : Tile) : Type 0 where
  pub met : Met (GivesUpOne h x)
  pub determined : Determined (GivesUpOne h x)
  pub numbers : (r : Result Held TileRefusal) → GivesUpOne h x r → IsOneOf (0 ∷ 16 ∷ []) (answer_number r)
  pub refused : (r : Result Held TileRefusal) → GivesUpOne h x r → (answer_number r ≡ 0 → ⊥) → held_left h r ≡ h

pub record HeldDetermines : Type 0 where
  pub takes : (h : Held) (m : ℕ) → TakesOneDetermines h m
  pub gives_up : (h : Held) (x : Tile) → GivesUpOneDetermines h x

-- ---- each theorem at a state

-- tile 1 of 4 bytes and tile 0 of 8 bytes are held, in vectors of 32 bytes that start 256 apart
abbrev pub shown_held : List Tile
shown_held = tile_of 4 1 ∷ tile_of 8 0 ∷ []

pub record Shown : Type 0 where
  pub halves : (q : ℕ) → Halves 256 32 8 3 q
  pub shared : ByteShared 256 32 (tile_of 2 1) (tile_of 8 3)
  pub unshared : ByteShared 256 32 (tile_of 2 1) (tile_of 8 4) → ⊥
  pub apart : Apart 256 32 shown_held
  pub taken : Takes 256 32 (held_from shown_held) 4 2 (held_from (shown_held ++ (tile_of 4 2 ∷ [])))
  pub full : Full 256 32 (held_from shown_held) 2
  pub given : GivesUp (held_from shown_held) (tile_of 4 1) (held_from (tile_of 8 0 ∷ []))
  pub undone : Undone (held_from shown_held) (tile_of 4 2) (held_from (shown_held ++ (tile_of 4 2 ∷ [])))
  pub retaken : IsOk (take_of (held_from (tile_of 8 0 ∷ [])) 4)

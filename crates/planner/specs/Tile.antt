-- Tiles as numbers, which of them share a byte, and lists of them. Renders 01 §3 and request 9.
-- Part r of ZA, r below 16, is the vectors whose number has remainder r by 16; tile t of m bytes has the parts with remainder t by m, 16 / m of them.
-- To believe: which tiles exist. That two that exist share a part exactly if they share a byte is shown (`SharesBytes` of specs/Bytes.antt).
-- Assumes nothing.
use Rattle.std.specs.Prelude.{ℕ, ◌%◌, Bool, true, false, cond, not, ◌&&◌, ◌||◌, List, [], ◌∷◌, eqb, ltb}
use Rattle.std.proofs.Math.Option.{Option}
use Rattle.tiles.specs.Element.{bytes_of, size_of}
use Rattle.general.specs.Least.{least, is_some}
use Rattle.planner.specs.declared.tile.Tile.{Tile}

-- m is the bytes of an element: those of the size that m is read as
unfoldable pub is_size : ℕ → Bool
is_size m = eqb (bytes_of (size_of m)) m

abbrev pub tile_of : ℕ → ℕ → Tile
tile_of m t = record { bytes = m; number = t }

-- what stands where no tile is: no element has 0 bytes
abbrev pub no_tile : Tile
no_tile = tile_of 0 0

-- there are m tiles of m bytes
abbrev pub is_tile : Tile → Bool
is_tile x = is_size x.bytes && ltb x.number x.bytes

-- part r is a tile's
abbrev pub covers : Tile → ℕ → Bool
covers x r = eqb (r % x.bytes) x.number

-- some part is both tiles'; of tiles that exist, some byte
unfoldable pub shares : Tile → Tile → Bool
shares x y = is_some (least (λ r. covers x r && covers y r) 16)

-- a tile shares no part, so no byte, with those of a list
unfoldable pub is_free : List Tile → Tile → Bool
is_free [] x = true
is_free (y ∷ ys) x = not (shares x y) && is_free ys x

-- every tile of a list exists, and no two share a byte
unfoldable pub is_valid : List Tile → Bool
is_valid [] = true
is_valid (x ∷ xs) = is_tile x && is_free xs x && is_valid xs

-- the lowest-numbered tile of m bytes that shares no byte with those of a list
abbrev pub lowest_free : List Tile → ℕ → Option ℕ
lowest_free l m = least (λ t. is_free l (tile_of m t)) m

-- the same tile: of one size, with one number
abbrev pub is_same : Tile → Tile → Bool
is_same x y = eqb x.bytes y.bytes && eqb x.number y.number

unfoldable pub is_among : List Tile → Tile → Bool
is_among [] x = false
is_among (y ∷ ys) x = is_same y x || is_among ys x

-- a list without a tile, the others in their order
unfoldable pub without : List Tile → Tile → List Tile
without [] x = []
without (y ∷ ys) x = cond (is_same y x) (without ys x) (y ∷ without ys x)

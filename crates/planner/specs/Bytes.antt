-- The bytes of tiles in ZA, whose vectors of B bytes start S apart, and as statements what parts and halves have to do with them;
-- proofs/Claims.antt proves each. So the arithmetic of parts and halves need not be believed.
-- Assumes nothing.
use Rattle.std.specs.Prelude.{ℕ, ◌+◌, ◌*◌, ◌/◌, ◌<◌, ◌≤◌, ◌≡◌, true, false, List, ◌⊎◌, length, get_or}
use Rattle.settings.specs.Settings.{is_vector_length}
use Rattle.tiles.specs.Tile.{byte_at}
use Rattle.planner.specs.Tile.{tile_of, no_tile, is_size, is_tile, shares, is_valid}
use Rattle.planner.specs.declared.tile.Tile.{Tile}

-- vectors of a length that settings may have, any distance apart that is not below it
pub record Vectors (S B : ℕ) : Type 0 where
  pub valid : is_vector_length B ≡ true
  pub fit : B ≤ S

-- ---- tiles

-- byte q of ZA is a tile's, which has B / m rows and as many columns (01 §3)
pub record ByteIn (S B : ℕ) (x : Tile) (q : ℕ) : Type 0 where
  pub row : ℕ
  pub column : ℕ
  pub byte : ℕ
  pub row_below : row < B / x.bytes
  pub column_below : column < B / x.bytes
  pub byte_below : byte < x.bytes
  pub place : q ≡ byte_at S x.bytes x.number row column byte

-- a byte is both tiles'
pub record ByteShared (S B : ℕ) (x y : Tile) : Type 0 where
  pub at : ℕ
  pub first : ByteIn S B x at
  pub second : ByteIn S B y at

-- tile t of m bytes is tiles t and t + m of 2m bytes, byte for byte, and these two share none
pub record Halves (S B m t q : ℕ) : Type 0 where
  pub parted : ByteIn S B (tile_of m t) q → ByteIn S B (tile_of (2 * m) t) q ⊎ ByteIn S B (tile_of (2 * m) (t + m)) q
  pub lower : ByteIn S B (tile_of (2 * m) t) q → ByteIn S B (tile_of m t) q
  pub upper : ByteIn S B (tile_of (2 * m) (t + m)) q → ByteIn S B (tile_of m t) q
  pub apart : ByteIn S B (tile_of (2 * m) t) q → ByteIn S B (tile_of (2 * m) (t + m)) q → ⊥

abbrev pub TilesHalve : Type 0
TilesHalve = (S B m t q : ℕ) → Vectors S B → is_size m ≡ true → is_size (2 * m) ≡ true → t < m → Halves S B m t q

-- two tiles share a part exactly if they share a byte
abbrev pub SharesBytes : Type 0
SharesBytes =
    (S B : ℕ) (x y : Tile) → Vectors S B → is_tile x ≡ true → is_tile y ≡ true →
    (shares x y ≡ true → ByteShared S B x y) × (shares x y ≡ false → ByteShared S B x y → ⊥)

-- ---- lists of tiles

-- the tile at place k of a list
abbrev pub tile_at : List Tile → ℕ → Tile
tile_at l k = get_or l k no_tile

-- every tile exists, and no two share a byte
pub record Apart (S B : ℕ) (l : List Tile) : Type 0 where
  pub exist : (k : ℕ) → k < length l → is_tile (tile_at l k) ≡ true
  pub differ : (j k : ℕ) → j < k → k < length l → ByteShared S B (tile_at l j) (tile_at l k) → ⊥

-- `is_valid` says exactly that
abbrev pub ValidIsApart : Type 0
ValidIsApart = (S B : ℕ) (l : List Tile) → Vectors S B → (is_valid l ≡ true → Apart S B l) × (Apart S B l → is_valid l ≡ true)

-- some tile of a list shares a byte with a tile
pub record SharedBy (S B : ℕ) (l : List Tile) (x : Tile) : Type 0 where
  pub place : ℕ
  pub within : place < length l
  pub shared : ByteShared S B (tile_at l place) x

-- The slice of a tile that a word names, by an index register and an offset. Renders the slice number of 01 §5.
-- To believe: the low 32 bits of the register and the offset are added as whole numbers, and taken modulo how many slices there are.
-- Assumes nothing.
use Rattle.std.specs.Prelude.{ℕ, ◌+◌, ◌/◌, ◌%◌, ◌^◌, ◌≡◌, List, get_or}
use Rattle.tiles.specs.Element.{bytes_of}
use Rattle.tiles.specs.declared.slice.TileSlice.{TileSlice}

-- (W + offset) mod n, W the low 32 bits of the register
abbrev pub selected : List ℕ → ℕ → ℕ → ℕ → ℕ
selected x register offset n = (get_or x register 0 % 2 ^ 32 + offset) % n

-- the number of the slice, one of the B / m of its tile
abbrev pub slice_number_of : ℕ → List ℕ → TileSlice → ℕ
slice_number_of B x o = selected x o.index o.offset (B / bytes_of o.size)

-- n is a power of two, as code relies on that takes a number modulo n: nothing to believe goes by it
pub record PowerOfTwo (n : ℕ) : Type 0 where
  pub exponent : ℕ
  pub equal : n ≡ 2 ^ exponent

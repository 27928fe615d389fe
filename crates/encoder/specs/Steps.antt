-- What single steps of encoding compute. Only contracts of private functions cite these: nothing here has to be believed.
-- Assumes nothing.
use Rattle.std.specs.Prelude.{ℕ, Bool, ◌&&◌, leb, ltb}
use Rattle.tiles.specs.Element.{bytes_of}
use Rattle.tiles.specs.declared.slice.TileSlice.{TileSlice}
use Rattle.tiles.specs.declared.element.ElementSize.{ElementSize}
use Rattle.tiles.specs.declared.element.ElementSize.TheVariants.{Bits8, Bits16, Bits32, Bits64, Bits128}

-- how many offsets there are; of tiles there are as many as an element has bytes
abbrev pub offset_count : ElementSize → ℕ
offset_count Bits8 = 16
offset_count Bits16 = 8
offset_count Bits32 = 4
offset_count Bits64 = 2
offset_count Bits128 = 1

-- a word can name the slice: index register, tile and offset are in range
abbrev pub slice_held : TileSlice → Bool
slice_held o = leb 12 o.index && leb o.index 15 && ltb o.tile (bytes_of o.size) && ltb o.offset (offset_count o.size)

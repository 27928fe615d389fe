-- The five element sizes. Renders 01 §3. To believe: the bytes of each.
-- Assumes nothing.
use Rattle.std.specs.Prelude.{ℕ, cond, eqb}
use Rattle.tiles.specs.declared.element.ElementSize.{ElementSize}
use Rattle.tiles.specs.declared.element.ElementSize.TheVariants.{Bits8, Bits16, Bits32, Bits64, Bits128}

-- the bytes of an element, m of 01 §3
abbrev pub bytes_of : ElementSize → ℕ
bytes_of Bits8 = 1
bytes_of Bits16 = 2
bytes_of Bits32 = 4
bytes_of Bits64 = 8
bytes_of Bits128 = 16

-- the way back: the widest where no size has so many bytes
abbrev pub size_of : ℕ → ElementSize
size_of m = cond (eqb m 1) Bits8 (cond (eqb m 2) Bits16 (cond (eqb m 4) Bits32 (cond (eqb m 8) Bits64 Bits128)))

-- how often a byte is doubled, as code shifts: nothing to believe goes by it
abbrev pub doublings_of : ElementSize → ℕ
doublings_of Bits8 = 0
doublings_of Bits16 = 1
doublings_of Bits32 = 2
doublings_of Bits64 = 3
doublings_of Bits128 = 4

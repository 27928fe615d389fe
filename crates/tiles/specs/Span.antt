-- Where elements lie in a buffer, as code reaches them: registers, slices and stretches of memory alike.
-- To believe: nothing; that the places of a slice are those of `slice_at` is proved.
-- Assumes nothing.
use Rattle.std.specs.Prelude.{ℕ, ◌+◌, ◌*◌, ◌/◌, ◌%◌, ◌<◌, ◌≤◌, List}
use Rattle.settings.specs.Settings.{stride_of}
use Rattle.settings.specs.declared.Settings.{Settings}
use Rattle.tiles.specs.Element.{bytes_of}
use Rattle.tiles.specs.Slice.{slice_number_of}
use Rattle.tiles.specs.declared.direction.Direction.{Direction}
use Rattle.tiles.specs.declared.direction.Direction.TheVariants.{Horizontal, Vertical}
use Rattle.tiles.specs.declared.element.ElementSize.{ElementSize}
use Rattle.tiles.specs.declared.slice.TileSlice.{TileSlice}
use Rattle.tiles.specs.declared.span.Span.{Span}

-- byte k of elements of m bytes that start `step` apart, which is byte k % m of element k / m
unfoldable pub strided : ℕ → ℕ → ℕ → ℕ → ℕ
strided start step m k = start + k / m * step + k % m

abbrev pub span_at : Span → ℕ → ℕ → ℕ
span_at v m = strided v.start v.step m

-- it starts within a buffer of `long` bytes, and each element ends there
abbrev pub Within : Span → ℕ → ℕ → Type 0
Within v m long = (v.start ≤ long) × ((e : ℕ) → e < v.count → v.start + e * v.step + m ≤ long)

-- a vector's elements, one after another from `start` on
abbrev pub run_from : Settings → ElementSize → ℕ → Span
run_from s size start = record { start = start; step = bytes_of size; count = s.vector_bytes / bytes_of size }

-- the first byte of slice n of tile t, and from one element to the next, in vectors that start S apart
abbrev pub slice_start : ℕ → ℕ → ℕ → Direction → ℕ → ℕ
slice_start S m t Horizontal n = (n * m + t) * S
slice_start S m t Vertical n = t * S + n * m

abbrev pub slice_step : ℕ → ℕ → Direction → ℕ
slice_step S m Horizontal = m
slice_step S m Vertical = m * S

-- the elements of the slice that a word names
abbrev pub slice_span : Settings → List ℕ → TileSlice → Span
slice_span s x o =
    let m = bytes_of o.size in
    record { start = slice_start (stride_of s) m o.tile o.direction (slice_number_of s.vector_bytes x o); step = slice_step (stride_of s) m o.direction; count = s.vector_bytes / m }

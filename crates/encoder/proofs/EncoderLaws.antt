-- What the functions of src/lib.rt cite: for each kind, the range in which an operation encodes and its word, for every
-- element size at once. What a row asks of an operation is computed from the table.
-- Assumes nothing.
use Rattle.std.specs.Prelude.{Ok, Err}
use Prim.Native.Nat.{ℕ, ◌+◌, ◌*◌, ◌-◌, ◌%◌, ◌≤◌, ◌<◌}
use mathlib.Core.Path.{◌≡◌, refl, sym, ◌∙◌}
use mathlib.Core.Bool.{Bool, true, false, ◌&&◌, true≢false}
use native.Mathlib.Omega.{arith}
use lib.Dec.{leb, ltb}
use borrow.Author.Tests.{leb-true, ltb-true, le-leb, lt-ltb}
use Rattle.general.proofs.BoolLaws.{and_parts}
use Rattle.tiles.specs.Direction.{direction_number}
use Rattle.encoding.specs.Flat.{registers_of, no_word}
use Rattle.tiles.specs.Element.{bytes_of}
use Rattle.encoding.specs.Table.{table}
use Rattle.encoding.specs.Codec.{Encodes, row_of_numbers}
use Rattle.encoding.specs.Steps.{size_bits, from_tile_move, from_tile_bits, array_move, array_bits, access_move, access_bits}
use Rattle.encoder.specs.Steps.{offset_count, slice_held}
use Rattle.tiles.specs.declared.slice.TileSlice.{TileSlice}
use Rattle.tiles.specs.declared.element.ElementSize.{ElementSize}
use Rattle.tiles.specs.declared.element.ElementSize.TheVariants.{Bits8, Bits16, Bits32, Bits64, Bits128}
use Rattle.tiles.specs.declared.direction.Direction.{Direction}
use Rattle.tiles.specs.declared.direction.Direction.TheVariants.{Horizontal, Vertical}
use Rattle.encoding.specs.declared.operation.RegisterCount.{RegisterCount}
use Rattle.encoding.specs.declared.operation.RegisterCount.TheVariants.{Two, Four}
use Rattle.encoding.specs.declared.operation.Operation.TheVariants.{MovaToTile}
use Rattle.encoding.proofs.CodecLaws.{encodes_as, refuses_as}

direction_below : (d : Direction) → direction_number d < 2
direction_below Horizontal = omega arith
direction_below Vertical = omega arith

-- what the test of a slice says
pub record SliceRange (o : TileSlice) : Type 0 where
  pub low : 12 ≤ o.index
  pub high : o.index ≤ 15
  pub tile : o.tile < bytes_of o.size
  pub offset : o.offset < offset_count o.size

pub slice_held_lem : (o : TileSlice) → slice_held o ≡ true → SliceRange o
slice_held_lem o e =
    let h = and_parts (leb 12 o.index && leb o.index 15 && ltb o.tile (bytes_of o.size)) (ltb o.offset (offset_count o.size)) e in
    let g = and_parts (leb 12 o.index && leb o.index 15) (ltb o.tile (bytes_of o.size)) h.0 in
    let f = and_parts (leb 12 o.index) (leb o.index 15) g.0 in
    record { low = leb-true _ _ f.0; high = leb-true _ _ f.1; tile = ltb-true _ _ g.1; offset = ltb-true _ _ h.1 }

-- past the first three tests the last decides
pub slice_rest : (o : TileSlice) → 12 ≤ o.index → o.index ≤ 15 → o.tile < bytes_of o.size → ltb o.offset (offset_count o.size) ≡ slice_held o
slice_rest o a b c = rw (le-leb 12 o.index a, le-leb o.index 15 b, lt-ltb o.tile (bytes_of o.size) c)

pub slice_outside : (o : TileSlice) → slice_held o ≡ false → SliceRange o → ⊥
slice_outside o e h = true≢false (sym (lt-ltb _ _ h.offset) ∙ slice_rest o h.low h.high h.tile ∙ e)

module _ (d : Direction) (index pg zn tile offset : ℕ) where
  abbrev pub ToTileRange : ElementSize → Type 0
  ToTileRange m = (12 ≤ index) × (index ≤ 15) × (pg ≤ 7) × (zn ≤ 31) × (tile < bytes_of m) × (offset < offset_count m)

  abbrev pub to_tile_word : ElementSize → ℕ
  to_tile_word m = 0xC0000000 + size_bits m * 65536 + direction_number d * 32768 + (index - 12) * 8192 + pg * 1024 + zn * 32 + (tile * offset_count m + offset)

  pub to_tile_encodes : (m : ElementSize) (v : ℕ) → ToTileRange m → v ≡ to_tile_word m → Encodes (MovaToTile (record { slice = record { size = m; direction = d; index = index; tile = tile; offset = offset }; pg = pg; zn = zn })) (Ok v)
  unfolding table row_of_numbers
  to_tile_encodes Bits8 v h e = encodes_as _ _ v refl (omega (arith, direction_below d)) (omega arith)
  to_tile_encodes Bits16 v h e = encodes_as _ _ v refl (omega (arith, direction_below d)) (omega arith)
  to_tile_encodes Bits32 v h e = encodes_as _ _ v refl (omega (arith, direction_below d)) (omega arith)
  to_tile_encodes Bits64 v h e = encodes_as _ _ v refl (omega (arith, direction_below d)) (omega arith)
  to_tile_encodes Bits128 v h e = encodes_as _ _ v refl (omega (arith, direction_below d)) (omega arith)

  pub to_tile_refuses : (m : ElementSize) → (ToTileRange m → ⊥) → Encodes (MovaToTile (record { slice = record { size = m; direction = d; index = index; tile = tile; offset = offset }; pg = pg; zn = zn })) (Err no_word)
  unfolding table row_of_numbers
  to_tile_refuses Bits8 h = refuses_as _ _ refl (λ k. h (omega arith))
  to_tile_refuses Bits16 h = refuses_as _ _ refl (λ k. h (omega arith))
  to_tile_refuses Bits32 h = refuses_as _ _ refl (λ k. h (omega arith))
  to_tile_refuses Bits64 h = refuses_as _ _ refl (λ k. h (omega arith))
  to_tile_refuses Bits128 h = refuses_as _ _ refl (λ k. h (omega arith))

-- with zeroing there is no predicate
module _ (d : Direction) (pg index tile offset zd : ℕ) where
  abbrev pub FromTileRange : ElementSize → Type 0
  FromTileRange m = (pg ≤ 7) × (12 ≤ index) × (index ≤ 15) × (tile < bytes_of m) × (offset < offset_count m) × (zd ≤ 31)

  abbrev pub from_tile_word : Bool → ElementSize → ℕ
  from_tile_word z m = 0xC0020000 + size_bits m * 65536 + direction_number d * 32768 + (index - 12) * 8192 + from_tile_bits z pg * 512 + (tile * offset_count m + offset) * 32 + zd

  pub from_tile_encodes : (z : Bool) (m : ElementSize) (v : ℕ) → FromTileRange m → v ≡ from_tile_word z m → Encodes (from_tile_move z pg (record { slice = record { size = m; direction = d; index = index; tile = tile; offset = offset }; zd = zd })) (Ok v)
  unfolding table row_of_numbers
  from_tile_encodes true Bits8 v h e = encodes_as _ _ v refl (omega (arith, direction_below d)) (omega arith)
  from_tile_encodes true Bits16 v h e = encodes_as _ _ v refl (omega (arith, direction_below d)) (omega arith)
  from_tile_encodes true Bits32 v h e = encodes_as _ _ v refl (omega (arith, direction_below d)) (omega arith)
  from_tile_encodes true Bits64 v h e = encodes_as _ _ v refl (omega (arith, direction_below d)) (omega arith)
  from_tile_encodes true Bits128 v h e = encodes_as _ _ v refl (omega (arith, direction_below d)) (omega arith)
  from_tile_encodes false Bits8 v h e = encodes_as _ _ v refl (omega (arith, direction_below d)) (omega arith)
  from_tile_encodes false Bits16 v h e = encodes_as _ _ v refl (omega (arith, direction_below d)) (omega arith)
  from_tile_encodes false Bits32 v h e = encodes_as _ _ v refl (omega (arith, direction_below d)) (omega arith)
  from_tile_encodes false Bits64 v h e = encodes_as _ _ v refl (omega (arith, direction_below d)) (omega arith)
  from_tile_encodes false Bits128 v h e = encodes_as _ _ v refl (omega (arith, direction_below d)) (omega arith)

  pub from_tile_refuses : (z : Bool) (m : ElementSize) → (z ≡ true → pg ≡ 0) → (FromTileRange m → ⊥) → Encodes (from_tile_move z pg (record { slice = record { size = m; direction = d; index = index; tile = tile; offset = offset }; zd = zd })) (Err no_word)
  unfolding table row_of_numbers
  from_tile_refuses true Bits8 q h = refuses_as _ _ refl (λ k. h (omega (arith, q refl)))
  from_tile_refuses true Bits16 q h = refuses_as _ _ refl (λ k. h (omega (arith, q refl)))
  from_tile_refuses true Bits32 q h = refuses_as _ _ refl (λ k. h (omega (arith, q refl)))
  from_tile_refuses true Bits64 q h = refuses_as _ _ refl (λ k. h (omega (arith, q refl)))
  from_tile_refuses true Bits128 q h = refuses_as _ _ refl (λ k. h (omega (arith, q refl)))
  from_tile_refuses false Bits8 q h = refuses_as _ _ refl (λ k. h (omega arith))
  from_tile_refuses false Bits16 q h = refuses_as _ _ refl (λ k. h (omega arith))
  from_tile_refuses false Bits32 q h = refuses_as _ _ refl (λ k. h (omega arith))
  from_tile_refuses false Bits64 q h = refuses_as _ _ refl (λ k. h (omega arith))
  from_tile_refuses false Bits128 q h = refuses_as _ _ refl (λ k. h (omega arith))

module _ (rv off zd : ℕ) where
  abbrev pub ArrayRange : RegisterCount → Type 0
  ArrayRange n = (8 ≤ rv) × (rv ≤ 11) × (off ≤ 7) × (zd ≤ 31) × (zd % registers_of n ≡ 0)

  abbrev pub array_word : Bool → RegisterCount → ℕ
  array_word z n = 0xC0060000 + (rv - 8) * 8192 + array_bits z n * 256 + off * 32 + zd

  pub array_encodes : (z : Bool) (n : RegisterCount) (v : ℕ) → ArrayRange n → v ≡ array_word z n → Encodes (array_move z (record { registers = n; rv = rv; off = off; zd = zd })) (Ok v)
  unfolding table row_of_numbers
  array_encodes true Two v h e = encodes_as _ _ v refl (omega arith) (omega arith)
  array_encodes true Four v h e = encodes_as _ _ v refl (omega arith) (omega arith)
  array_encodes false Two v h e = encodes_as _ _ v refl (omega arith) (omega arith)
  array_encodes false Four v h e = encodes_as _ _ v refl (omega arith) (omega arith)

  pub array_refuses : (z : Bool) (n : RegisterCount) → (ArrayRange n → ⊥) → Encodes (array_move z (record { registers = n; rv = rv; off = off; zd = zd })) (Err no_word)
  unfolding table row_of_numbers
  array_refuses true Two h = refuses_as _ _ refl (λ k. h (omega arith))
  array_refuses true Four h = refuses_as _ _ refl (λ k. h (omega arith))
  array_refuses false Two h = refuses_as _ _ refl (λ k. h (omega arith))
  array_refuses false Four h = refuses_as _ _ refl (λ k. h (omega arith))

module _ (d : Direction) (index pg rn rm tile offset : ℕ) where
  abbrev pub AccessRange : ElementSize → Type 0
  AccessRange m = (12 ≤ index) × (index ≤ 15) × (pg ≤ 7) × (rn ≤ 31) × (rm ≤ 31) × (tile < bytes_of m) × (offset < offset_count m)

  abbrev pub access_word : Bool → ElementSize → ℕ
  access_word s m = access_bits s m * 2097152 + rm * 65536 + direction_number d * 32768 + (index - 12) * 8192 + pg * 1024 + rn * 32 + (tile * offset_count m + offset)

  pub access_encodes : (s : Bool) (m : ElementSize) (v : ℕ) → AccessRange m → v ≡ access_word s m → Encodes (access_move s (record { slice = record { size = m; direction = d; index = index; tile = tile; offset = offset }; pg = pg; rn = rn; rm = rm })) (Ok v)
  unfolding table row_of_numbers
  access_encodes true Bits8 v h e = encodes_as _ _ v refl (omega (arith, direction_below d)) (omega arith)
  access_encodes true Bits16 v h e = encodes_as _ _ v refl (omega (arith, direction_below d)) (omega arith)
  access_encodes true Bits32 v h e = encodes_as _ _ v refl (omega (arith, direction_below d)) (omega arith)
  access_encodes true Bits64 v h e = encodes_as _ _ v refl (omega (arith, direction_below d)) (omega arith)
  access_encodes true Bits128 v h e = encodes_as _ _ v refl (omega (arith, direction_below d)) (omega arith)
  access_encodes false Bits8 v h e = encodes_as _ _ v refl (omega (arith, direction_below d)) (omega arith)
  access_encodes false Bits16 v h e = encodes_as _ _ v refl (omega (arith, direction_below d)) (omega arith)
  access_encodes false Bits32 v h e = encodes_as _ _ v refl (omega (arith, direction_below d)) (omega arith)
  access_encodes false Bits64 v h e = encodes_as _ _ v refl (omega (arith, direction_below d)) (omega arith)
  access_encodes false Bits128 v h e = encodes_as _ _ v refl (omega (arith, direction_below d)) (omega arith)

  pub access_refuses : (s : Bool) (m : ElementSize) → (AccessRange m → ⊥) → Encodes (access_move s (record { slice = record { size = m; direction = d; index = index; tile = tile; offset = offset }; pg = pg; rn = rn; rm = rm })) (Err no_word)
  unfolding table row_of_numbers
  access_refuses true Bits8 h = refuses_as _ _ refl (λ k. h (omega arith))
  access_refuses true Bits16 h = refuses_as _ _ refl (λ k. h (omega arith))
  access_refuses true Bits32 h = refuses_as _ _ refl (λ k. h (omega arith))
  access_refuses true Bits64 h = refuses_as _ _ refl (λ k. h (omega arith))
  access_refuses true Bits128 h = refuses_as _ _ refl (λ k. h (omega arith))
  access_refuses false Bits8 h = refuses_as _ _ refl (λ k. h (omega arith))
  access_refuses false Bits16 h = refuses_as _ _ refl (λ k. h (omega arith))
  access_refuses false Bits32 h = refuses_as _ _ refl (λ k. h (omega arith))
  access_refuses false Bits64 h = refuses_as _ _ refl (λ k. h (omega arith))
  access_refuses false Bits128 h = refuses_as _ _ refl (λ k. h (omega arith))

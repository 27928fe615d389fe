-- Every place that an operation writes in Z or ZA lies within B, and so does every place of ZA and Z that it reads.
-- Assumes nothing.
use Prim.Native.Nat.{ℕ, ◌+◌, ◌*◌, ◌/◌, ◌%◌, ◌<◌}
use mathlib.Core.Path.{◌≡◌, refl}
use mathlib.Core.Bool.{true}
use mathlib.Core.List.{List}
use native.Mathlib.Nat.{mod-lt, div-lt_iff_lt-mul}
use native.Mathlib.Omega.{arith}
use lib.Arith.{digits_lt}
use lib.ListN.{get_or}
use Rattle.general.specs.Places.{Places}
use Rattle.settings.specs.Settings.{is_vector_length, valid_vectors, stride_of}
use Rattle.settings.specs.declared.Settings.{Settings}
use Rattle.settings.proofs.SettingsLaws.{vector_valid, vector_length_long}
use Rattle.tiles.specs.Element.{bytes_of}
use Rattle.tiles.specs.Slice.{selected, slice_number_of}
use Rattle.tiles.specs.Tile.{byte_of, slice_at}
use Rattle.tiles.specs.Group.{group_at}
use Rattle.tiles.specs.Claims.{GroupDiffers}
use Rattle.tiles.specs.declared.direction.Direction.{Direction}
use Rattle.tiles.specs.declared.direction.Direction.TheVariants.{Horizontal, Vertical}
use Rattle.tiles.specs.declared.slice.TileSlice.{TileSlice}
use Rattle.tiles.proofs.LengthLaws.{WholeElements, whole_elements}
use Rattle.tiles.proofs.Claims.{groups_differ}
use Rattle.encoding.specs.Flat.{registers_of}
use Rattle.encoding.specs.Range.{SliceInRange, ArrayInRange, InRange}
use Rattle.encoding.specs.declared.operation.ArrayToVectors.{ArrayToVectors}
use Rattle.encoding.specs.declared.operation.Operation.{Operation}
use Rattle.encoding.specs.declared.operation.Operation.TheVariants.{MovaToTile, MovazFromTile, MovaFromArray, MovazFromArray, St1, MovaFromTile, Ld1}
use Rattle.semantics.specs.State.{Public}
use Rattle.semantics.specs.Effect.{slice_byte, group_in, group_byte, register_byte, registers_byte, writes_of}
use Rattle.semantics.proofs.OperationLaws.{few_registers, whole_groups}

module _ (s : Settings) (laid : valid_vectors s ≡ true) where
  abbrev B : ℕ
  B = s.vector_bytes

  abbrev S : ℕ
  S = stride_of s

  valid : is_vector_length B ≡ true
  valid = vector_valid s laid

  -- byte `byte`, below B, of one of the first n vectors
  pub record Inside (n i : ℕ) : Type 0 where
    pub vector : ℕ
    pub byte : ℕ
    pub place : i ≡ vector * S + byte
    pub few : vector < n
    pub below : byte < B

  -- ---- slices

  module _ (x : List ℕ) (o : TileSlice) (range : SliceInRange o) where
    abbrev m : ℕ
    m = bytes_of o.size

    whole : WholeElements B m
    whole = whole_elements o.size B valid

    element_below : (k : ℕ) → k < B → k / m < B / m
    element_below k h = (div-lt_iff_lt-mul {k = m} {x = k} {y = B / m} whole.some).1 (rw whole.elements h)

    -- byte i of element e of slice r, of vectors and of slices alike
    byte_below_lem : (e i : ℕ) → e < B / m → i < m → e * m + i < B
    byte_below_lem e i he hi = rw (← whole.elements) (digits_lt he hi)

    number : slice_number_of B x o < B / m
    number = mod-lt _ whole.slices

    pub slice_inside : (k : ℕ) → k < B → Inside B (slice_byte s x o k)
    unfolding slice_at byte_of
    slice_inside k h = go o.direction
      where
        n : ℕ
        n = slice_number_of B x o

        go : (d : Direction) → Inside B (slice_at S m o.tile d n k)
        go Horizontal = record { vector = n * m + o.tile; byte = k / m * m + k % m; place = refl; few = byte_below_lem n o.tile number range.tile; below = byte_below_lem (k / m) (k % m) (element_below k h) (mod-lt k whole.some) }
        go Vertical = record { vector = k / m * m + o.tile; byte = n * m + k % m; place = refl; few = byte_below_lem (k / m) o.tile (element_below k h) range.tile; below = byte_below_lem n (k % m) number (mod-lt k whole.some) }

  -- ---- registers

  pub register_inside : (v k : ℕ) → v < 32 → k < B → Inside 32 (register_byte s v k)
  register_inside v k few h = record { vector = v; byte = k; place = refl; few = few; below = h }

  -- ---- groups

  some : 0 < B
  some = omega (arith, vector_length_long B valid)

  module _ (x : List ℕ) (o : ArrayToVectors) (range : ArrayInRange o) where
    abbrev r : ℕ
    r = registers_of o.registers

    vector_of : (k : ℕ) → k < r * B → k / B < r
    vector_of k h = (div-lt_iff_lt-mul {k = B} {x = k} {y = r} some).1 h

    abbrev first : ℕ
    first = selected x o.rv o.off (B / r)

    differs : GroupDiffers B r first
    differs = let w = whole_groups o.registers B valid in groups_differ B r (B / r) first (few_registers o.registers).0 w.1 w.0 (mod-lt _ w.1)

    pub group_inside : (k : ℕ) → k < r * B → Inside B (group_byte s x o k)
    unfolding group_at
    group_inside k h = record { vector = get_or (group_in s x o) (k / B) 0; byte = k % B; place = refl; few = differs.below (k / B) (vector_of k h); below = mod-lt k some }

    pub registers_inside : (k : ℕ) → k < r * B → Inside 32 (registers_byte s o.zd k)
    registers_inside k h = record { vector = o.zd + k / B; byte = k % B; place = refl; few = omega (arith, vector_of k h, range.vectors); below = mod-lt k some }

  -- ---- what an operation writes

  -- each place is inside
  abbrev pub AllInside : ℕ → Places → Type 0
  AllInside n q = (k : ℕ) → k < q.count → Inside n (q.at k)

  -- there is none
  none_inside : (n : ℕ) (at : ℕ → ℕ) (k : ℕ) → k < 0 → Inside n (at k)
  none_inside n at k h = absurd (omega arith)

  pub z_inside : (u : Public) (o : Operation) → InRange o → AllInside 32 (writes_of s u o).z
  unfolding writes_of
  z_inside u (MovaToTile o) h = none_inside 32 _
  z_inside u (MovazFromTile o) h = λ k. register_inside o.zd k h.vector
  z_inside u (MovaFromArray o) h = registers_inside u.x o h
  z_inside u (MovazFromArray o) h = registers_inside u.x o h
  z_inside u (St1 o) h = none_inside 32 _
  z_inside u (MovaFromTile o) h = λ k. register_inside o.whole.zd k h.whole.vector
  z_inside u (Ld1 o) h = none_inside 32 _

  pub za_inside : (u : Public) (o : Operation) → InRange o → AllInside B (writes_of s u o).za
  unfolding writes_of
  za_inside u (MovaToTile o) h = slice_inside u.x o.slice h.slice
  za_inside u (MovazFromTile o) h = slice_inside u.x o.slice h.slice
  za_inside u (MovaFromArray o) h = none_inside B _
  za_inside u (MovazFromArray o) h = group_inside u.x o h
  za_inside u (St1 o) h = none_inside B _
  za_inside u (MovaFromTile o) h = none_inside B _
  za_inside u (Ld1 o) h = slice_inside u.x o.slice h.slice

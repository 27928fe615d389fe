-- What each operation writes, on buffers of the right lengths. Renders 01 §5 as docs/RULES.md has it.
-- To believe: `writes_of`, which bytes of which buffer, and `values_of`, what they become. The first is not handed the content of Z, ZA or memory.
-- Assumes nothing.
use Rattle.std.specs.Prelude.{ℕ, ◌+◌, ◌*◌, ◌-◌, ◌/◌, ◌%◌, Bool, cond, List, get_or}
use Rattle.general.specs.Scatter.{all, zeros, onwards}
use Rattle.general.specs.Places.{Places, nowhere, written}
use Rattle.settings.specs.Settings.{stride_of}
use Rattle.settings.specs.declared.Settings.{Settings}
use Rattle.tiles.specs.Element.{bytes_of}
use Rattle.tiles.specs.Slice.{selected, slice_number_of}
use Rattle.tiles.specs.Predicate.{active}
use Rattle.tiles.specs.Tile.{slice_at}
use Rattle.tiles.specs.Group.{group_of, group_at}
use Rattle.tiles.specs.declared.slice.TileSlice.{TileSlice}
use Rattle.encoding.specs.Flat.{registers_of}
use Rattle.encoding.specs.declared.operation.ArrayToVectors.{ArrayToVectors}
use Rattle.encoding.specs.declared.operation.SliceAccess.{SliceAccess}
use Rattle.encoding.specs.declared.operation.Operation.{Operation}
use Rattle.encoding.specs.declared.operation.Operation.TheVariants.{MovaToTile, MovazFromTile, MovaFromArray, MovazFromArray, St1, MovaFromTile, Ld1}
use Rattle.semantics.specs.State.{State, Public, public_of}
use Rattle.semantics.specs.Access.{address_of}

-- ---- where bytes lie, of vectors that start stride_of s bytes apart and are «vector_bytes» long

-- byte k of a slice, in ZA
abbrev pub slice_byte : Settings → List ℕ → TileSlice → ℕ → ℕ
slice_byte s x o = slice_at (stride_of s) (bytes_of o.size) o.tile o.direction (slice_number_of s.vector_bytes x o)

-- the vectors that an array move names, the first of them below B / r, and byte k of them in ZA
abbrev pub group_in : Settings → List ℕ → ArrayToVectors → List ℕ
group_in s x o =
    let B = s.vector_bytes in let r = registers_of o.registers in
    group_of B r (selected x o.rv o.off (B / r))

abbrev pub group_byte : Settings → List ℕ → ArrayToVectors → ℕ → ℕ
group_byte s x o = group_at (stride_of s) s.vector_bytes (group_in s x o)

-- byte k of a load or store, in memory
abbrev pub memory_byte : Settings → List ℕ → SliceAccess → ℕ → ℕ
memory_byte s x o k = address_of x o k - s.memory_address

-- byte k of a slice is of an element that predicate register pg makes active
abbrev pub active_under : Settings → List ℕ → ℕ → TileSlice → ℕ → Bool
active_under s p pg o = active p (pg * (stride_of s / 8)) (bytes_of o.size)

-- byte k of vector register v, and of the registers from v on, one after another
abbrev pub register_byte : Settings → ℕ → ℕ → ℕ
register_byte s v = onwards (v * stride_of s)

abbrev pub registers_byte : Settings → ℕ → ℕ → ℕ
registers_byte s v k = (v + k / s.vector_bytes) * stride_of s + k % s.vector_bytes

-- ---- which bytes are written

pub record Writes : Type 0 where
  pub z : Places
  pub za : Places
  pub memory : Places

-- those bytes of a vector that are `on`
abbrev pub vector_places : Settings → (ℕ → ℕ) → (ℕ → Bool) → Places
vector_places s at on = record { at = at; on = on; count = s.vector_bytes }

-- the bytes of the two or four vectors of an array move
abbrev pub group_places : Settings → ArrayToVectors → (ℕ → ℕ) → Places
group_places s o at = record { at = at; on = all; count = registers_of o.registers * s.vector_bytes }

-- a move under a predicate writes the bytes of active elements, a store too, a load its whole slice
unfoldable pub writes_of : Settings → Public → Operation → Writes
writes_of s u (MovaToTile o) =
    record { z = nowhere; za = vector_places s (slice_byte s u.x o.slice) (active_under s u.p o.pg o.slice); memory = nowhere }
writes_of s u (MovazFromTile o) =
    record { z = vector_places s (register_byte s o.zd) all; za = vector_places s (slice_byte s u.x o.slice) all; memory = nowhere }
writes_of s u (MovaFromArray o) = record { z = group_places s o (registers_byte s o.zd); za = nowhere; memory = nowhere }
writes_of s u (MovazFromArray o) =
    record { z = group_places s o (registers_byte s o.zd); za = group_places s o (group_byte s u.x o); memory = nowhere }
writes_of s u (St1 o) =
    record { z = nowhere; za = nowhere; memory = vector_places s (memory_byte s u.x o) (active_under s u.p o.pg o.slice) }
writes_of s u (MovaFromTile o) =
    record { z = vector_places s (register_byte s o.whole.zd) (active_under s u.p o.pg o.whole.slice); za = nowhere; memory = nowhere }
writes_of s u (Ld1 o) = record { z = nowhere; za = vector_places s (slice_byte s u.x o.slice) all; memory = nowhere }

-- ---- what they become

pub record Values : Type 0 where
  pub z : ℕ → ℕ
  pub za : ℕ → ℕ
  pub memory : ℕ → ℕ

-- what byte k of a slice, of an array move's vectors and of a register holds
module _ (s : Settings) (t : State) where
  abbrev pub slice_value : TileSlice → ℕ → ℕ
  slice_value o k = get_or t.za (slice_byte s t.x o k) 0

  abbrev pub group_value : ArrayToVectors → ℕ → ℕ
  group_value o k = get_or t.za (group_byte s t.x o k) 0

  abbrev pub register_value : ℕ → ℕ → ℕ
  register_value v k = get_or t.z (register_byte s v k) 0

  -- of an active element what memory has at its address, of another zero
  abbrev pub loaded_value : SliceAccess → ℕ → ℕ
  loaded_value o k = cond (active_under s t.p o.pg o.slice k) (get_or t.memory (memory_byte s t.x o k) 0) 0

-- where a buffer has no places its values are zeros, and do not matter
unfoldable pub values_of : Settings → Operation → State → Values
values_of s (MovaToTile o) t = record { z = zeros; za = register_value s t o.zn; memory = zeros }
values_of s (MovazFromTile o) t = record { z = slice_value s t o.slice; za = zeros; memory = zeros }
values_of s (MovaFromArray o) t = record { z = group_value s t o; za = zeros; memory = zeros }
values_of s (MovazFromArray o) t = record { z = group_value s t o; za = zeros; memory = zeros }
values_of s (St1 o) t = record { z = zeros; za = zeros; memory = slice_value s t o.slice }
values_of s (MovaFromTile o) t = record { z = slice_value s t o.whole.slice; za = zeros; memory = zeros }
values_of s (Ld1 o) t = record { z = zeros; za = loaded_value s t o; memory = zeros }

-- ---- the state afterwards: X and P stay

unfoldable pub effect_of : Settings → Operation → State → State
effect_of s o t =
    let w = writes_of s (public_of t) o in let v = values_of s o t in
    record { x = t.x; z = written w.z v.z t.z; p = t.p; za = written w.za v.za t.za; memory = written w.memory v.memory t.memory }

-- Calls that may not run between those of a crossing list, written out: array moves and zero, and loads; and what the statements of Between.antt say of
-- the former and of loads under partial predicates.
-- Assumes nothing.
use Rattle.std.specs.Prelude.{ℕ, ◌+◌, ◌^◌, ◌≡◌, true, List, [], ◌∷◌, ◌++◌, map, length, get_or, set, replicate, Ok}
use Rattle.tiles.specs.declared.element.ElementSize.{ElementSize}
use Rattle.tiles.specs.declared.element.ElementSize.TheVariants.{Bits8, Bits16, Bits32}
use Rattle.tiles.specs.declared.direction.Direction.{Direction}
use Rattle.tiles.specs.declared.direction.Direction.TheVariants.{Horizontal}
use Rattle.encoding.specs.declared.operation.SliceAccess.{SliceAccess}
use Rattle.encoding.specs.declared.operation.ArrayToVectors.{ArrayToVectors}
use Rattle.encoding.specs.declared.operation.RegisterCount.TheVariants.{Two, Four}
use Rattle.encoding.specs.declared.operation.Operation.TheVariants.{MovazFromArray, Ld1}
use Rattle.semantics.specs.State.{public_of}
use Rattle.semantics.specs.Effect.{writes_of}
use Rattle.semantics.specs.ExampleBuffers.{settings_at, z_at, za_at, memory_of, x_with}
use Rattle.laws.specs.Calls.{Call, state_with, za_after, numbers_at, decoded_of}
use Rattle.laws.specs.Crossing.{Crosses}
use Rattle.laws.specs.Between.{LeavesZa}
use Rattle.laws.specs.BesideShown.{Each, call_of, upright, inactive_call}

-- two and four of the array with zeroing are done and change ZA's first byte, which was not zero
abbrev pub zeroing_calls : List Call
zeroing_calls = map call_of (0xC0060A00 ∷ 0xC0060E00 ∷ [])

abbrev pub zeroing_moves : List ArrayToVectors
zeroing_moves = record { registers = Two; rv = 8; off = 0; zd = 0 } ∷ record { registers = Four; rv = 8; off = 0; zd = 0 } ∷ []

pub record ZeroingWrites : Type 0 where
  pub done : numbers_at zeroing_calls (za_at 16) ≡ replicate 2 0
  pub decoded : map decoded_of zeroing_calls ≡ map (λ (o : ArrayToVectors). Ok (MovazFromArray o)) zeroing_moves
  pub before : get_or (za_at 16) 0 0 ≡ 178
  pub after : map (λ (c : Call). get_or (za_after c (za_at 16)) 0 0) zeroing_calls ≡ replicate 2 0
  -- so they may not run between, and no crossing list has one
  pub stay : (za : List ℕ) → length za ≡ 256 → Each (λ (c : Call). LeavesZa c za → ⊥) zeroing_calls
  pub out : (S B : ℕ) (size : ElementSize) (d : Direction) (t : ℕ) (before after : List Call) (za : List ℕ) → length za ≡ 256 →
      Each (λ (c : Call). Crosses S B size d t (before ++ c ∷ after) za → ⊥) zeroing_calls

-- a load of each size under a predicate with no active element, whose base is a stack pointer that is no multiple of 16, and one of bytes with
-- all of them active: they are done and change ZA's first byte, to zero and to memory's first
abbrev pub load_calls : List Call
load_calls = call_of 0xE0020020 ∷ map inactive_call (0xE01F03E0 ∷ 0xE05F03E0 ∷ 0xE09F03E0 ∷ 0xE0DF03E0 ∷ 0xE1DF03E0 ∷ [])

pub record LoadsWrite : Type 0 where
  pub done : numbers_at load_calls (za_at 16) ≡ replicate 6 0
  pub before : (get_or (za_at 16) 0 0 ≡ 178) × (get_or (memory_of 16) 0 0 ≡ 146)
  pub after : map (λ (c : Call). get_or (za_after c (za_at 16)) 0 0) load_calls ≡ 146 ∷ replicate 5 0

-- ---- loads under partial predicates

-- predicate register 2 has elements 0, 2, 4, 5, 7, 9, 11 and 13 of one byte active, 3 has 0 and 2 of four, 4 has 0, 2, 4, 5 and 6 of two; other bits of wider
-- elements are 1
abbrev pub partial_p : List ℕ
partial_p = replicate 4 255 ++ (0xB5 ∷ 0x2A ∷ 0xEF ∷ 0xEF ∷ 0xBB ∷ 0xBF ∷ replicate 22 255)

-- W13 is 6, W14 5, W15 3; element e is element e + 2 of the memory, which starts at 1000 hex
abbrev pub partial_call : ℕ → Call
partial_call w =
    record {
      settings = settings_at 16 0x1000;
      word = w;
      x = set (set (set (set (x_with 5 0x1000) 6 2) 13 6) 14 (2 ^ 32 + 5)) 15 3;
      z = z_at 16;
      p = partial_p;
      memory = memory_of 64;
    }

-- column 9 of the tile of bytes, row 2 of tile 2 of four-byte elements, column 2 of tile 1 of two-byte elements
abbrev pub byte_load : Call
byte_load = partial_call 0xE006A8A3

abbrev pub row_load : Call
row_load = partial_call 0xE0864CA9

abbrev pub column_load : Call
column_load = partial_call 0xE046F0AF

abbrev pub partial_loads : List Call
partial_loads = byte_load ∷ row_load ∷ column_load ∷ []

abbrev pub byte_access : SliceAccess
byte_access = record { slice = upright Bits8 13 0 3; pg = 2; rn = 5; rm = 6 }

abbrev pub row_access : SliceAccess
row_access = record { slice = record { size = Bits32; direction = Horizontal; index = 14; tile = 2; offset = 1 }; pg = 3; rn = 5; rm = 6 }

abbrev pub column_access : SliceAccess
column_access = record { slice = upright Bits16 15 1 7; pg = 4; rn = 5; rm = 6 }

abbrev pub partial_accesses : List SliceAccess
partial_accesses = byte_access ∷ row_access ∷ column_access ∷ []

-- the bytes of ZA at some places after a call
abbrev pub bytes_after : Call → List ℕ → List ℕ → List ℕ
bytes_after c za places = map (λ (p : ℕ). get_or (za_after c za) p 0) places

-- such a load has a place in ZA for each of the 16 bytes of its slice; some of them, active or not, are seen to be written
abbrev pub WritesAll : List ℕ → SliceAccess → Type 0
WritesAll za o =
    let q = (writes_of (settings_at 16 0x1000) (public_of (state_with byte_load za)) (Ld1 o)).za in
    (q.count ≡ 16) × (map q.on (0 ∷ 1 ∷ 7 ∷ 15 ∷ []) ≡ replicate 4 true)

-- they are done at any ZA of 256 bytes
pub record PartialLoads : Type 0 where
  pub done : (za : List ℕ) → length za ≡ 256 → numbers_at partial_loads za ≡ replicate 3 0
  pub decoded : map decoded_of partial_loads ≡ map (λ (o : SliceAccess). Ok (Ld1 o)) partial_accesses
  -- elements 1, 3 and the last are zero, whatever they were
  pub zeros : (za : List ℕ) → length za ≡ 256 →
      (bytes_after byte_load za (25 ∷ 57 ∷ 249 ∷ []) ≡ replicate 3 0) ×
      (bytes_after row_load za (164 ∷ 165 ∷ 167 ∷ 172 ∷ 174 ∷ 175 ∷ []) ≡ replicate 6 0) ×
      (bytes_after column_load za (52 ∷ 53 ∷ 116 ∷ 117 ∷ 244 ∷ 245 ∷ []) ≡ replicate 6 0)
  -- elements 0 and 2 are memory's
  pub actives :
      (bytes_after byte_load (za_at 16) (9 ∷ 41 ∷ []) ≡ 160 ∷ 174 ∷ []) ×
      (bytes_after row_load (za_at 16) (160 ∷ 163 ∷ 168 ∷ 171 ∷ []) ≡ 202 ∷ 223 ∷ 7 ∷ 28 ∷ []) ×
      (bytes_after column_load (za_at 16) (20 ∷ 21 ∷ 84 ∷ 85 ∷ []) ≡ 174 ∷ 181 ∷ 202 ∷ 209 ∷ [])
  pub places : (za : List ℕ) → Each (WritesAll za) partial_accesses
  -- so they may not run between, and no crossing list has one
  pub stay : (za : List ℕ) → length za ≡ 256 → Each (λ (c : Call). LeavesZa c za → ⊥) partial_loads
  pub out : (S B : ℕ) (size : ElementSize) (d : Direction) (t : ℕ) (before after : List Call) (za : List ℕ) → length za ≡ 256 →
      Each (λ (c : Call). Crosses S B size d t (before ++ c ∷ after) za → ⊥) partial_loads

-- Calls that may run between those of a crossing list, written out, so that the statements of Between.antt are seen not to be empty; and what these say of
-- them. They are of every element size and both directions, with other numbers than 0 too.
-- Assumes nothing.
use Rattle.std.specs.Prelude.{ℕ, ◌≡◌, List, [], ◌∷◌, ◌++◌, map, length, set, replicate, Ok}
use Rattle.tiles.specs.declared.element.ElementSize.{ElementSize}
use Rattle.tiles.specs.declared.element.ElementSize.TheVariants.{Bits8, Bits16, Bits32, Bits64, Bits128}
use Rattle.tiles.specs.declared.direction.Direction.{Direction}
use Rattle.tiles.specs.declared.direction.Direction.TheVariants.{Horizontal, Vertical}
use Rattle.tiles.specs.declared.slice.TileSlice.{TileSlice}
use Rattle.encoding.specs.declared.operation.RegisterCount.TheVariants.{Two, Four}
use Rattle.encoding.specs.declared.operation.Operation.{Operation}
use Rattle.encoding.specs.declared.operation.Operation.TheVariants.{MovaFromArray, St1, MovaFromTile}
use Rattle.semantics.specs.ExampleBuffers.{settings_at, z_at, za_at, memory_of, ones, predicate0}
use Rattle.laws.specs.Calls.{Call, za_after, run, numbers_at, decoded_of}
use Rattle.laws.specs.Between.{LeavesZa, Beside}
use Rattle.laws.specs.Shown.{refused_calls, shown_in, shown_out, shown_calls}

-- something of each in a list
abbrev pub Each : {A : Type 0} → (A → Type 0) → List A → Type 0
Each P [] = Unit {0}
Each P (x ∷ l) = P x × Each P l

-- a call that may run between, wherever and at any ZA
abbrev pub MayRun : Call → Type 0
MayRun c = (before after : List Call) (za : List ℕ) → run (before ++ c ∷ after) za ≡ run (before ++ after) za

-- ---- calls that may, at vectors of 16 bytes

abbrev pub call_of : ℕ → Call
call_of w = record { settings = settings_at 16 0; word = w; x = replicate 32 0; z = z_at 16; p = ones 16; memory = memory_of 16 }

-- from a tile under a predicate, two and four of the array, a store of each size; the same with other numbers, where there is a direction vertical
abbrev pub beside_calls : List Call
beside_calls =
    map call_of
    (0xC0020000 ∷ 0xC0060800 ∷ 0xC0060C00 ∷ 0xE0220020 ∷ 0xE0620020 ∷ 0xE0A20020 ∷ 0xE0E20020 ∷ 0xE1E20020 ∷
    0xC042ADB3 ∷ 0xC0C2FDBF ∷ 0xC006286A ∷ 0xC0066CFC ∷ 0xE03FA469 ∷ 0xE064C8AE ∷ 0xE0A6ECEB ∷ 0xE0E8912B ∷ 0xE1EABFED ∷ [])

abbrev pub first_slice : ElementSize → TileSlice
first_slice size = record { size = size; direction = Horizontal; index = 12; tile = 0; offset = 0 }

abbrev pub upright : ElementSize → ℕ → ℕ → ℕ → TileSlice
upright size index tile offset = record { size = size; direction = Vertical; index = index; tile = tile; offset = offset }

abbrev pub stores : ElementSize → Operation
stores size = St1 (record { slice = first_slice size; pg = 0; rn = 1; rm = 2 })

abbrev pub beside_operations : List Operation
beside_operations =
    MovaFromTile (record { whole = record { slice = first_slice Bits8; zd = 0 }; pg = 0 }) ∷
    MovaFromArray (record { registers = Two; rv = 8; off = 0; zd = 0 }) ∷
    MovaFromArray (record { registers = Four; rv = 8; off = 0; zd = 0 }) ∷
    stores Bits8 ∷
    stores Bits16 ∷
    stores Bits32 ∷
    stores Bits64 ∷
    stores Bits128 ∷
    MovaFromTile (record { whole = record { slice = upright Bits16 13 1 5; zd = 19 }; pg = 3 }) ∷
    MovaFromTile (record { whole = record { slice = upright Bits64 15 6 1; zd = 31 }; pg = 7 }) ∷
    MovaFromArray (record { registers = Two; rv = 9; off = 3; zd = 10 }) ∷
    MovaFromArray (record { registers = Four; rv = 11; off = 7; zd = 28 }) ∷
    St1 (record { slice = upright Bits8 13 0 9; pg = 1; rn = 3; rm = 31 }) ∷
    St1 (record { slice = upright Bits16 14 1 6; pg = 2; rn = 5; rm = 4 }) ∷
    St1 (record { slice = upright Bits32 15 2 3; pg = 3; rn = 7; rm = 6 }) ∷
    St1 (record { slice = upright Bits64 12 5 1; pg = 4; rn = 9; rm = 8 }) ∷
    St1 (record { slice = upright Bits128 13 13 0; pg = 7; rn = 31; rm = 10 }) ∷
    []

-- they are done, are of the operations listed, each of these is of a kind that has no place in ZA, and so they may run between
pub record BesideShown : Type 0 where
  pub done : (za : List ℕ) → length za ≡ 256 → numbers_at beside_calls za ≡ replicate 17 0
  pub decoded : map decoded_of beside_calls ≡ map Ok beside_operations
  pub may : Each Beside beside_operations
  pub runs : Each MayRun beside_calls

-- a vertical store of tile 1, done at vectors of 32 bytes, between the rows and the columns of the list of Shown.antt: ZA ends as without it
abbrev pub store_between : Call
store_between = record { settings = settings_at 32 0; word = 0xE0A6C8A6; x = replicate 32 0; z = z_at 32; p = ones 32; memory = memory_of 32 }

pub record StoreShown : Type 0 where
  pub done : (za : List ℕ) → length za ≡ 1024 → numbers_at (store_between ∷ []) za ≡ 0 ∷ []
  pub decoded : decoded_of store_between ≡ Ok (St1 (record { slice = upright Bits32 14 1 2; pg = 2; rn = 5; rm = 6 }))
  pub ends : (d : Direction) →
      run (refused_calls ++ (shown_in d ++ (store_between ∷ refused_calls ++ (shown_out d ++ (refused_calls ++ []))))) (za_at 32) ≡ run (shown_calls d) (za_at 32)

-- the refused calls of that list, at any ZA of its length
abbrev pub RefusedShown : Type 0
RefusedShown = (za : List ℕ) → length za ≡ 1024 → Each (λ (c : Call). LeavesZa c za) refused_calls

-- a call under a predicate with no active element; the stack pointer is no multiple of 16
abbrev pub inactive_call : ℕ → Call
inactive_call w = record { settings = settings_at 16 0; word = w; x = set (replicate 32 0) 31 8; z = z_at 16; p = predicate0 16 (0 ∷ 0 ∷ []); memory = memory_of 16 }

-- predicate registers 1 to 5 with no active element of 1, 2, 4, 8 and 16 bytes: the bit of each first byte is 0, other bits of wider elements are 1
abbrev pub first_bits_off : List ℕ
first_bits_off = replicate 2 255 ++ (0 ∷ 0 ∷ 0xAA ∷ 0xAA ∷ 0xEE ∷ 0xEE ∷ 0xFE ∷ 0xFE ∷ 0xFE ∷ 0xFF ∷ replicate 20 255)

abbrev pub barely_inactive : ℕ → Call
barely_inactive w = record { settings = settings_at 16 0; word = w; x = replicate 32 0; z = z_at 16; p = first_bits_off; memory = [] }

-- a move to a tile of each size under a predicate with no active element, and once more in both directions with other numbers: they are done, and ZA is as
-- it was, whatever it was
abbrev pub inactive_calls : List Call
inactive_calls =
    map inactive_call (0xC0000000 ∷ 0xC0400000 ∷ 0xC0800000 ∷ 0xC0C00000 ∷ 0xC0C10000 ∷ []) ++
    map barely_inactive (0xC000A525 ∷ 0xC040C94F ∷ 0xC0806D6E ∷ 0xC0C0918D ∷ 0xC0C135A9 ∷ [])

pub record InactiveShown : Type 0 where
  pub done : (za : List ℕ) → length za ≡ 256 → numbers_at inactive_calls za ≡ replicate 10 0
  pub kept : map (λ (c : Call). za_after c (za_at 16)) inactive_calls ≡ replicate 10 (za_at 16)
  pub leave : (za : List ℕ) → Each (λ (c : Call). LeavesZa c za) inactive_calls

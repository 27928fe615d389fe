-- What each operation does, in the sentences of 01 §5 as docs/RULES.md has them, element by element and byte by byte. specs/Effect.antt says the
-- same by places and values; `OperationsMean` and `OperationsSettle` of specs/Claims.antt say that it is the same, of every execution that is done, so that
-- neither is believed alone.
-- To believe: that these are document 01's sentences. Nothing of specs/Effect.antt, specs/Access.antt or of the places of crates/tiles is used.
-- Assumes nothing.
use Rattle.std.specs.Prelude.{ℕ, ◌+◌, ◌*◌, ◌/◌, ◌%◌, ◌^◌, ◌<◌, ◌≤◌, ◌≡◌, cond, List, eqb, length, get_or}
use Rattle.settings.specs.Settings.{stride_of}
use Rattle.settings.specs.declared.Settings.{Settings}
use Rattle.tiles.specs.Element.{bytes_of}
use Rattle.tiles.specs.declared.direction.Direction.{Direction}
use Rattle.tiles.specs.declared.direction.Direction.TheVariants.{Horizontal, Vertical}
use Rattle.tiles.specs.declared.slice.TileSlice.{TileSlice}
use Rattle.encoding.specs.Flat.{registers_of}
use Rattle.encoding.specs.declared.operation.VectorToTile.{VectorToTile}
use Rattle.encoding.specs.declared.operation.TileToVector.{TileToVector}
use Rattle.encoding.specs.declared.operation.PredicatedTileToVector.{PredicatedTileToVector}
use Rattle.encoding.specs.declared.operation.ArrayToVectors.{ArrayToVectors}
use Rattle.encoding.specs.declared.operation.SliceAccess.{SliceAccess}
use Rattle.encoding.specs.declared.operation.Operation.{Operation}
use Rattle.encoding.specs.declared.operation.Operation.TheVariants.{MovaToTile, MovazFromTile, MovaFromArray, MovazFromArray, St1, MovaFromTile, Ld1}
use Rattle.semantics.specs.State.{State}

-- ---- the words: S is how far apart vectors start, B how long they are, m the bytes of an element, n = B / m the elements of a slice

-- W: the low 32 bits of an X register
abbrev pub low_bits : List ℕ → ℕ → ℕ
low_bits x r = get_or x r 0 % 2 ^ 32

-- byte i of element e of slice j of tile t, in ZA: of vector j * m + t if the slice is horizontal; if it is vertical, element e is the bytes from
-- j * m on of vector e * m + t
abbrev pub tile_byte : ℕ → ℕ → ℕ → Direction → ℕ → ℕ → ℕ → ℕ
tile_byte S m t Horizontal j e i = (j * m + t) * S + (e * m + i)
tile_byte S m t Vertical j e i = (e * m + t) * S + (j * m + i)

module _ (s : Settings) where
  -- n
  abbrev pub elements_in : TileSlice → ℕ
  elements_in o = s.vector_bytes / bytes_of o.size

  -- byte i of element e of vector register v, in Z
  abbrev pub in_register : TileSlice → ℕ → ℕ → ℕ → ℕ
  in_register o v e i = v * stride_of s + (e * bytes_of o.size + i)

  -- so it is for byte i of element e, of each element of a slice
  abbrev pub EachByte : TileSlice → (ℕ → ℕ → Type 0) → Type 0
  EachByte o Q = (e i : ℕ) → e < elements_in o → i < bytes_of o.size → Q e i

  -- byte k of register j of the destinations of an array move, in Z
  abbrev pub in_registers : ArrayToVectors → ℕ → ℕ → ℕ
  in_registers o j k = (o.zd + j) * stride_of s + k

  -- so it is for byte k of vector j, of each vector of a group
  abbrev pub EachVector : ArrayToVectors → (ℕ → ℕ → Type 0) → Type 0
  EachVector o Q = (j k : ℕ) → j < registers_of o.registers → k < s.vector_bytes → Q j k

module _ (s : Settings) (t : State) where
  -- the slice number, (W + offset) mod n
  abbrev pub slice_number_in : TileSlice → ℕ
  slice_number_in o = (low_bits t.x o.index + o.offset) % elements_in s o

  -- byte i of element e of the slice, in ZA
  abbrev pub in_slice : TileSlice → ℕ → ℕ → ℕ
  in_slice o e i = tile_byte (stride_of s) (bytes_of o.size) o.tile o.direction (slice_number_in o) e i

  -- element e is active: bit e * m of predicate register pg is 1, which is bit e * m mod 8 of its byte e * m / 8
  abbrev pub Active : TileSlice → ℕ → ℕ → Type 0
  Active o pg e = get_or t.p (pg * (stride_of s / 8) + e * bytes_of o.size / 8) 0 / 2 ^ (e * bytes_of o.size % 8) % 2 ≡ 1

  -- for the array forms: r registers, the first vector (W + offset) mod (B / r), each other B / r further; byte k of vector j of them, in ZA
  abbrev pub first_vector : ArrayToVectors → ℕ
  first_vector o = (low_bits t.x o.rv + o.off) % (s.vector_bytes / registers_of o.registers)

  abbrev pub in_group : ArrayToVectors → ℕ → ℕ → ℕ
  in_group o j k = (first_vector o + j * (s.vector_bytes / registers_of o.registers)) * stride_of s + k

-- the address of byte i of element e: base + (offset register + e) * m + i, modulo 2^64; number 31 of X is the stack pointer, and as an offset
-- register 31 reads as zero
abbrev pub addend : List ℕ → ℕ → ℕ
addend x rm = cond (eqb rm 31) 0 (get_or x rm 0)

abbrev pub address_in : List ℕ → SliceAccess → ℕ → ℕ → ℕ
address_in x o e i = (get_or x o.rn 0 + (addend x o.rm + e) * bytes_of o.slice.size + i) % 2 ^ 64

-- every byte of an active element of a load or store lies in memory
abbrev pub ActiveInside : Settings → State → SliceAccess → Type 0
ActiveInside s t o = EachByte s o.slice (λ e i. Active s t o.slice o.pg e → (s.memory_address ≤ address_in t.x o e i) × (address_in t.x o e i < s.memory_address + length t.memory))

-- bytes that are none of those named stay
abbrev pub OthersStay : (ℕ → Type 0) → List ℕ → List ℕ → Type 0
OthersStay Other l l' = (q : ℕ) → Other q → get_or l' q 0 ≡ get_or l q 0

-- ---- the operations: t is the state before, t' the state afterwards

module _ (s : Settings) (t t' : State) where
  -- a byte of ZA that is none of a slice's, and a byte of Z that is none of a register's, stay
  abbrev pub SliceAlone : TileSlice → Type 0
  SliceAlone o = OthersStay (λ q. EachByte s o (λ e i. q ≡ in_slice s t o e i → ⊥)) t.za t'.za

  abbrev pub RegisterAlone : TileSlice → ℕ → Type 0
  RegisterAlone o v = OthersStay (λ q. EachByte s o (λ e i. q ≡ in_register s o v e i → ⊥)) t.z t'.z

  -- MOVA to tile: active elements of the slice take the source register's elements; inactive ones keep what they had
  pub record ToTile (o : VectorToTile) : Type 0 where
    pub active : EachByte s o.slice (λ e i. Active s t o.slice o.pg e → get_or t'.za (in_slice s t o.slice e i) 0 ≡ get_or t.z (in_register s o.slice o.zn e i) 0)
    pub inactive : EachByte s o.slice (λ e i. (Active s t o.slice o.pg e → ⊥) → get_or t'.za (in_slice s t o.slice e i) 0 ≡ get_or t.za (in_slice s t o.slice e i) 0)
    pub za : SliceAlone o.slice
    pub z : t'.z ≡ t.z
    pub memory : t'.memory ≡ t.memory

  -- MOVAZ from tile: the register takes the slice, then the slice is zero
  pub record FromTileZeroing (o : TileToVector) : Type 0 where
    pub takes : EachByte s o.slice (λ e i. get_or t'.z (in_register s o.slice o.zd e i) 0 ≡ get_or t.za (in_slice s t o.slice e i) 0)
    pub zero : EachByte s o.slice (λ e i. get_or t'.za (in_slice s t o.slice e i) 0 ≡ 0)
    pub z : RegisterAlone o.slice o.zd
    pub za : SliceAlone o.slice
    pub memory : t'.memory ≡ t.memory

  -- MOVA from tile: active elements of the register take the slice's elements; inactive ones keep what they had; the slice stays
  pub record FromTile (o : PredicatedTileToVector) : Type 0 where
    pub active : EachByte s o.whole.slice (λ e i. Active s t o.whole.slice o.pg e → get_or t'.z (in_register s o.whole.slice o.whole.zd e i) 0 ≡ get_or t.za (in_slice s t o.whole.slice e i) 0)
    pub inactive : EachByte s o.whole.slice (λ e i. (Active s t o.whole.slice o.pg e → ⊥) → get_or t'.z (in_register s o.whole.slice o.whole.zd e i) 0 ≡ get_or t.z (in_register s o.whole.slice o.whole.zd e i) 0)
    pub z : RegisterAlone o.whole.slice o.whole.zd
    pub za : t'.za ≡ t.za
    pub memory : t'.memory ≡ t.memory

  -- the array forms: registers take the vectors in order
  pub record TakesVectors (o : ArrayToVectors) : Type 0 where
    pub takes : EachVector s o (λ j k. get_or t'.z (in_registers s o j k) 0 ≡ get_or t.za (in_group s t o j k) 0)
    pub z : OthersStay (λ q. EachVector s o (λ j k. q ≡ in_registers s o j k → ⊥)) t.z t'.z
    pub memory : t'.memory ≡ t.memory

  -- MOVA array leaves ZA, MOVAZ array makes the vectors zero
  pub record FromArray (o : ArrayToVectors) : Type 0 where
    pub vectors : TakesVectors o
    pub za : t'.za ≡ t.za

  pub record FromArrayZeroing (o : ArrayToVectors) : Type 0 where
    pub vectors : TakesVectors o
    pub zero : EachVector s o (λ j k. get_or t'.za (in_group s t o j k) 0 ≡ 0)
    pub za : OthersStay (λ q. EachVector s o (λ j k. q ≡ in_group s t o j k → ⊥)) t.za t'.za

  -- ST1: element e, if active, goes to its address, the lowest byte first, and all of it lies in memory; byte q of memory has the address of memory + q
  pub record ToMemory (o : SliceAccess) : Type 0 where
    pub inside : ActiveInside s t o
    pub active : EachByte s o.slice (λ e i. (q : ℕ) → Active s t o.slice o.pg e → s.memory_address + q ≡ address_in t.x o e i → get_or t'.memory q 0 ≡ get_or t.za (in_slice s t o.slice e i) 0)
    pub memory : OthersStay (λ q. EachByte s o.slice (λ e i. Active s t o.slice o.pg e → s.memory_address + q ≡ address_in t.x o e i → ⊥)) t.memory t'.memory
    pub z : t'.z ≡ t.z
    pub za : t'.za ≡ t.za

  -- LD1: active elements of the slice take the bytes at their addresses, inactive ones become zero
  pub record FromMemory (o : SliceAccess) : Type 0 where
    pub inside : ActiveInside s t o
    pub active : EachByte s o.slice (λ e i. (q : ℕ) → Active s t o.slice o.pg e → s.memory_address + q ≡ address_in t.x o e i → get_or t'.za (in_slice s t o.slice e i) 0 ≡ get_or t.memory q 0)
    pub inactive : EachByte s o.slice (λ e i. (Active s t o.slice o.pg e → ⊥) → get_or t'.za (in_slice s t o.slice e i) 0 ≡ 0)
    pub za : SliceAlone o.slice
    pub z : t'.z ≡ t.z
    pub memory : t'.memory ≡ t.memory

  abbrev pub Means : Operation → Type 0
  Means (MovaToTile o) = ToTile o
  Means (MovazFromTile o) = FromTileZeroing o
  Means (MovaFromArray o) = FromArray o
  Means (MovazFromArray o) = FromArrayZeroing o
  Means (St1 o) = ToMemory o
  Means (MovaFromTile o) = FromTile o
  Means (Ld1 o) = FromMemory o

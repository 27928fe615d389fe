-- Calls that may run between those of a crossing list: those that are refused or write no place of ZA, so that the calls after them meet the
-- same ZA. Such are a store of any size, a move from a tile under a predicate and an array move without zeroing, whatever their answer, and a
-- move to a tile with no active element. An array move and zero that is done writes ZA and may not run between; nor may a load that is done,
-- which sets the inactive elements of its slice to zero. No crossing list has either among its calls.
-- Assumes nothing.
use Rattle.std.specs.Prelude.{ℕ, ◌*◌, ◌/◌, ◌<◌, ◌≡◌, true, false, List, ◌∷◌, ◌++◌, get_or, Ok, Err}
use Rattle.tiles.specs.Element.{bytes_of}
use Rattle.tiles.specs.declared.element.ElementSize.{ElementSize}
use Rattle.tiles.specs.declared.direction.Direction.{Direction}
use Rattle.encoding.specs.declared.operation.ArrayToVectors.{ArrayToVectors}
use Rattle.encoding.specs.declared.operation.SliceAccess.{SliceAccess}
use Rattle.encoding.specs.declared.operation.Operation.{Operation}
use Rattle.encoding.specs.declared.operation.Operation.TheVariants.{MovaToTile, MovazFromTile, MovaFromArray, MovazFromArray, St1, MovaFromTile, Ld1}
use Rattle.tiles.specs.Predicate.{bit}
use Rattle.tiles.specs.Tile.{byte_of}
use Rattle.semantics.specs.declared.answer.Refusal.{Refusal}
use Rattle.semantics.specs.State.{Public, public_of}
use Rattle.semantics.specs.Effect.{writes_of}
use Rattle.general.specs.Places.{Idle}
use Rattle.tiles.specs.Slice.{slice_number_of}
use Rattle.encoding.specs.declared.operation.VectorToTile.{VectorToTile}
use Rattle.settings.specs.declared.Settings.{Settings}
use Rattle.settings.specs.Settings.{stride_of}
use Rattle.laws.specs.Calls.{Call, state_with, outcome, za_after, run, decoded_of}
use Rattle.laws.specs.Crossing.{Crosses}

-- a call that does not write the ZA that it meets: it is refused, or no place of ZA is written
pub data LeavesZa (c : Call) (za : List ℕ) : Type 0 where
  refused : (r : Refusal) → (outcome c za).answer ≡ Err r → LeavesZa c za
  idle : (o : Operation) → decoded_of c ≡ Ok o → Idle (writes_of c.settings (public_of (state_with c za)) o).za → LeavesZa c za

abbrev pub LeavesIsKept : Type 0
LeavesIsKept = (c : Call) (za : List ℕ) → LeavesZa c za → za_after c za ≡ za

-- with such a call put in anywhere, ZA ends as without it
abbrev pub BesideMayRun : Type 0
BesideMayRun = (before after : List Call) (c : Call) (za : List ℕ) → LeavesZa c (run before za) → run (before ++ c ∷ after) za ≡ run (before ++ after) za

-- every call that is refused is one, whatever the answer
abbrev pub RefusedLeaves : Type 0
RefusedLeaves = (c : Call) (za : List ℕ) → ((outcome c za).answer ≡ Ok tt → ⊥) → LeavesZa c za

-- kinds of operation with no place in ZA leave every ZA
abbrev pub Beside : Operation → Type 0
Beside (MovaToTile o) = ⊥
Beside (MovazFromTile o) = ⊥
Beside (MovaFromArray o) = Unit {0}
Beside (MovazFromArray o) = ⊥
Beside (St1 o) = Unit {0}
Beside (MovaFromTile o) = Unit {0}
Beside (Ld1 o) = ⊥

abbrev pub BesideLeaves : Type 0
BesideLeaves = (c : Call) (za : List ℕ) (o : Operation) → decoded_of c ≡ Ok o → Beside o → LeavesZa c za

-- so does a move to a tile with no active element: an element goes by the bit of its first byte
abbrev pub InactiveLeaves : Type 0
InactiveLeaves =
    (c : Call) (za : List ℕ) (o : VectorToTile) → decoded_of c ≡ Ok (MovaToTile o) →
    let m = bytes_of o.slice.size in
    ((e : ℕ) → e < c.settings.vector_bytes / m → bit c.p (o.pg * (stride_of c.settings / 8)) (e * m) ≡ false) → LeavesZa c za

-- a load has a place for every byte of its slice, active or not, and each is written; so a load that is done is no such call
abbrev pub LoadsHavePlaces : Type 0
LoadsHavePlaces =
    (s : Settings) (u : Public) (o : SliceAccess) →
    ((writes_of s u (Ld1 o)).za.count ≡ s.vector_bytes) × ((k : ℕ) → (writes_of s u (Ld1 o)).za.on k ≡ true)

abbrev pub LoadsDoNotLeave : Type 0
LoadsDoNotLeave = (c : Call) (za : List ℕ) (o : SliceAccess) → decoded_of c ≡ Ok (Ld1 o) → (outcome c za).answer ≡ Ok tt → LeavesZa c za → ⊥

-- a load that is done leaves zero in every byte of an inactive element of its slice: in all of them where none is active
abbrev pub LoadsZero : Type 0
LoadsZero =
    (c : Call) (za : List ℕ) (o : SliceAccess) (e i : ℕ) → decoded_of c ≡ Ok (Ld1 o) → (outcome c za).answer ≡ Ok tt →
    let S = stride_of c.settings in let B = c.settings.vector_bytes in let m = bytes_of o.slice.size in
    e < B / m → i < m → bit c.p (o.pg * (S / 8)) (e * m) ≡ false →
    get_or (za_after c za) (byte_of S m o.slice.tile o.slice.direction (slice_number_of B c.x o.slice) e i) 0 ≡ 0

-- no load that is done is a call of a crossing list
abbrev pub LoadsStayOut : Type 0
LoadsStayOut =
    (S B : ℕ) (size : ElementSize) (d : Direction) (t : ℕ) (before after : List Call) (c : Call) (za : List ℕ) (o : SliceAccess) →
    decoded_of c ≡ Ok (Ld1 o) → (outcome c (run before za)).answer ≡ Ok tt → Crosses S B size d t (before ++ c ∷ after) za → ⊥

-- nor does an array move and zero of two or four that is done leave ZA, and no crossing list has one
abbrev pub ZeroingDoesNotLeave : Type 0
ZeroingDoesNotLeave =
    (c : Call) (za : List ℕ) (o : ArrayToVectors) → decoded_of c ≡ Ok (MovazFromArray o) → (outcome c za).answer ≡ Ok tt → LeavesZa c za → ⊥

abbrev pub ZeroingStaysOut : Type 0
ZeroingStaysOut =
    (S B : ℕ) (size : ElementSize) (d : Direction) (t : ℕ) (before after : List Call) (c : Call) (za : List ℕ) (o : ArrayToVectors) →
    decoded_of c ≡ Ok (MovazFromArray o) → (outcome c (run before za)).answer ≡ Ok tt → Crosses S B size d t (before ++ c ∷ after) za → ⊥

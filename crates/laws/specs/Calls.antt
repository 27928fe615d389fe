-- Lists of executions, one after another on one ZA. Renders 01 §9 (its calls are executions).
-- To believe: what a call is handed, and that whether it is done is execution's own answer at the ZA that it meets.
-- Assumes nothing.
use Rattle.std.specs.Prelude.{ℕ, List, [], ◌∷◌, map, Result, Ok, Err}
use Rattle.std.proofs.Math.Option.{Option, none, some}
use Rattle.settings.specs.declared.Settings.{Settings}
use Rattle.encoding.specs.Codec.{decode_of}
use Rattle.tiles.specs.declared.element.ElementSize.{ElementSize}
use Rattle.tiles.specs.declared.direction.Direction.{Direction}
use Rattle.tiles.specs.Slice.{slice_number_of}
use Rattle.tiles.specs.declared.slice.TileSlice.{TileSlice}
use Rattle.encoding.specs.declared.operation.Operation.{Operation}
use Rattle.encoding.specs.declared.operation.Operation.TheVariants.{MovaToTile, MovazFromTile, MovaFromArray, MovazFromArray, St1, MovaFromTile, Ld1}
use Rattle.semantics.specs.Answer.{executed_number}
use Rattle.semantics.specs.State.{State, state_of}
use Rattle.semantics.specs.Execute.{Outcome, if_done, execute_of}
use Rattle.settings.specs.Settings.{stride_of}
use Rattle.encoding.specs.declared.operation.DecodeRefusal.{DecodeRefusal}

-- what a call has of its own: all but ZA, of any content and length
pub record Call : Type 0 where
  pub settings : Settings
  pub word : ℕ
  pub x : List ℕ
  pub z : List ℕ
  pub p : List ℕ
  pub memory : List ℕ

abbrev pub state_with : Call → List ℕ → State
state_with c za = state_of c.x c.z c.p za c.memory

-- the call's outcome at the ZA that it meets
abbrev pub outcome : Call → List ℕ → Outcome
outcome c za = execute_of c.settings c.word (state_with c za)

abbrev pub za_after : Call → List ℕ → List ℕ
za_after c za = (outcome c za).state.za

-- ZA after the calls, each of which meets it as the one before left it
unfoldable pub run : List Call → List ℕ → List ℕ
run [] za = za
run (c ∷ cs) za = run cs (za_after c za)

-- the numbers of the calls' answers, each at the same ZA
abbrev pub numbers_at : List Call → List ℕ → List ℕ
numbers_at cs za = map (λ (c : Call). executed_number (outcome c za).answer) cs

-- what the call's word means at its own level
abbrev pub decoded_of : Call → Result Operation DecodeRefusal
decoded_of c = decode_of c.word c.settings.level

-- what an operation is to a tile: how far apart vectors start (S) and how long they are (B); size, direction and tile; and the slice
-- that W and the offset give
pub data Move : Type 0 where
  into : (S B : ℕ) (size : ElementSize) (d : Direction) (t slice : ℕ) → Move
  out : (S B : ℕ) (size : ElementSize) (d : Direction) (t slice : ℕ) → Move
  other : Move

-- the move of the slice that a call's word names, with the stride and the vector length of the call's own settings
abbrev pub slice_move : (ℕ → ℕ → ElementSize → Direction → ℕ → ℕ → Move) → Call → TileSlice → Move
slice_move move c o =
    let B = c.settings.vector_bytes in
    move (stride_of c.settings) B o.size o.direction o.tile (slice_number_of B c.x o)

abbrev pub move_of : Call → Operation → Move
move_of c (MovaToTile o) = slice_move into c o.slice
move_of c (MovazFromTile o) = slice_move out c o.slice
move_of c (MovaFromArray o) = other
move_of c (MovazFromArray o) = other
move_of c (St1 o) = other
move_of c (MovaFromTile o) = other
move_of c (Ld1 o) = other

abbrev pub decoded_move : Call → Result Operation DecodeRefusal → Option Move
decoded_move c (Ok o) = some (move_of c o)
decoded_move c (Err e) = none

-- the move of a call that is done, nothing for one that is refused
unfoldable pub moved : Call → List ℕ → Option Move
moved c za = if_done (outcome c za).answer none (decoded_move c (decoded_of c))

abbrev pub with_move : Option Move → List Move → List Move
with_move none l = l
with_move (some m) l = m ∷ l

-- the moves of the done calls, in order
unfoldable pub moves : List Call → List ℕ → List Move
moves [] za = []
moves (c ∷ cs) za = with_move (moved c za) (moves cs (za_after c za))

-- the register numbers of a word that moves into a tile, or out of it with zeroing: Zn or Zd, and Pg; 0 for another
abbrev pub register_in : Result Operation DecodeRefusal → ℕ
register_in (Ok (MovaToTile o)) = o.zn
register_in (Ok (MovazFromTile o)) = o.zd
register_in (Ok (MovaFromArray o)) = 0
register_in (Ok (MovazFromArray o)) = 0
register_in (Ok (St1 o)) = 0
register_in (Ok (MovaFromTile o)) = 0
register_in (Ok (Ld1 o)) = 0
register_in (Err e) = 0

abbrev pub predicate_in : Result Operation DecodeRefusal → ℕ
predicate_in (Ok (MovaToTile o)) = o.pg
predicate_in (Ok (MovazFromTile o)) = 0
predicate_in (Ok (MovaFromArray o)) = 0
predicate_in (Ok (MovazFromArray o)) = 0
predicate_in (Ok (St1 o)) = 0
predicate_in (Ok (MovaFromTile o)) = 0
predicate_in (Ok (Ld1 o)) = 0
predicate_in (Err e) = 0

abbrev pub register_of : Call → ℕ
register_of c = register_in (decoded_of c)

abbrev pub predicate_of : Call → ℕ
predicate_of c = predicate_in (decoded_of c)

-- The theorems of specs/LoadsShown.antt: that the calls are done is computed, what they leave is by the laws.
-- Assumes nothing.
use Rattle.std.specs.Prelude.{Result, ⊤, Ok}
use Prim.Native.Nat.{ℕ, ◌*◌, ◌<◌}
use mathlib.Core.Path.{◌≡◌, refl, ap, ◌∙◌}
use mathlib.Core.Bool.{Bool, true, false}
use mathlib.Core.List.{List, [], ◌∷◌, ◌++◌, map}
use native.Mathlib.Omega.{arith}
use lib.ListN.{length, get_or, replicate}
use Rattle.general.specs.Least.{least}
use Rattle.general.specs.Scatter.{scatter}
use Rattle.general.specs.Places.{Places}
use Rattle.settings.specs.Settings.{is_vector_length}
use Rattle.encoding.specs.Table.{table}
use Rattle.encoding.specs.Codec.{row_of_word, decode_of}
use Rattle.encoding.specs.declared.operation.SliceAccess.{SliceAccess}
use Rattle.encoding.specs.declared.operation.Operation.TheVariants.{Ld1}
use Rattle.tiles.specs.declared.element.ElementSize.{ElementSize}
use Rattle.tiles.specs.declared.direction.Direction.{Direction}
use Rattle.tiles.specs.declared.direction.Direction.TheVariants.{Horizontal, Vertical}
use Rattle.tiles.specs.Predicate.{bit, active}
use Rattle.tiles.specs.Tile.{byte_of, slice_at}
use Rattle.tiles.specs.Group.{group_at}
use Rattle.semantics.specs.declared.answer.Refusal.{Refusal}
use Rattle.semantics.specs.Answer.{executed_number}
use Rattle.semantics.specs.State.{public_of}
use Rattle.semantics.specs.ExampleBuffers.{settings_at}
use Rattle.semantics.specs.Effect.{writes_of, values_of, effect_of}
use Rattle.semantics.specs.Execute.{access_answer, answer_of, execute_of}
use Rattle.laws.specs.Calls.{Call, state_with, outcome, za_after, run, numbers_at}
use Rattle.laws.specs.Crossing.{Crosses}
use Rattle.laws.specs.Between.{LeavesZa}
use Rattle.laws.specs.BesideShown.{Each}
use Rattle.laws.specs.LoadsShown.{zeroing_calls, ZeroingWrites, LoadsWrite, partial_p, byte_load, row_load, column_load, partial_loads, byte_access, row_access, column_access, partial_accesses, bytes_after, WritesAll, PartialLoads}
use Rattle.laws.proofs.CallLaws.{run_long}
use Rattle.laws.proofs.Between.{loads_have_places, loads_do_not_leave, loads_zero, loads_stay_out, zeroing_does_not_leave, zeroing_stays_out}

zeroing_done : (za : List ℕ) → length za ≡ 256 → Each (λ (c : Call). (outcome c za).answer ≡ Ok tt) zeroing_calls
unfolding table row_of_word decode_of is_vector_length answer_of execute_of
zeroing_done za e = (rw e refl, (rw e refl, tt))

zeroing_stay : (za : List ℕ) → length za ≡ 256 → Each (λ (c : Call). LeavesZa c za → ⊥) zeroing_calls
unfolding table row_of_word decode_of
zeroing_stay za e =
    let a = zeroing_done za e in
    (zeroing_does_not_leave _ za _ refl a.0, (zeroing_does_not_leave _ za _ refl a.1.0, tt))

zeroing_out : (S B : ℕ) (size : ElementSize) (d : Direction) (t : ℕ) (before after : List Call) (za : List ℕ) → length za ≡ 256 → Each (λ (c : Call). Crosses S B size d t (before ++ c ∷ after) za → ⊥) zeroing_calls
unfolding table row_of_word decode_of
zeroing_out S B size d t before after za e =
    let a = zeroing_done (run before za) (run_long before za ∙ e) in
    (zeroing_stays_out S B size d t before after _ za _ refl a.0, (zeroing_stays_out S B size d t before after _ za _ refl a.1.0, tt))

pub zeroing_writes : ZeroingWrites
unfolding table row_of_word decode_of is_vector_length scatter active byte_of slice_at group_at least writes_of values_of effect_of access_answer answer_of execute_of
zeroing_writes = record { done = refl; decoded = refl; before = refl; after = refl; stay = zeroing_stay; out = zeroing_out }

pub loads_write : LoadsWrite
unfolding table row_of_word decode_of is_vector_length scatter active byte_of slice_at group_at least writes_of values_of effect_of access_answer answer_of execute_of
loads_write = record { done = refl; before = (refl, refl); after = refl }

-- ---- loads under partial predicates

answers : (za : List ℕ) → length za ≡ 256 → Each (λ (c : Call). (outcome c za).answer ≡ Ok tt) partial_loads
unfolding table row_of_word decode_of is_vector_length active least access_answer answer_of execute_of
answers za e = (rw e refl, (rw e refl, (rw e refl, tt)))

-- calls that are done one by one
numbers_zero : (cs : List Call) (za : List ℕ) → Each (λ (c : Call). (outcome c za).answer ≡ Ok tt) cs → numbers_at cs za ≡ replicate (length cs) 0
numbers_zero [] za h = refl
numbers_zero (c ∷ cs) za h = ap (λ (a : Result ⊤ Refusal). executed_number a ∷ numbers_at cs za) h.0 ∙ ap (λ (r : List ℕ). 0 ∷ r) (numbers_zero cs za h.1)

-- bytes that are zero one by one
bytes_zero : (c : Call) (za l : List ℕ) → Each (λ (p : ℕ). get_or (za_after c za) p 0 ≡ 0) l → bytes_after c za l ≡ replicate (length l) 0
bytes_zero c za [] h = refl
bytes_zero c za (p ∷ l) h = ap (λ (b : ℕ). b ∷ bytes_after c za l) h.0 ∙ ap (λ (r : List ℕ). 0 ∷ r) (bytes_zero c za l h.1)

module _ (za : List ℕ) (long : length za ≡ 256) where
  byte_zero : (e : ℕ) → e < 16 → bit partial_p 4 (e * 1) ≡ false → get_or (za_after byte_load za) (byte_of 16 1 0 Vertical 9 e 0) 0 ≡ 0
  unfolding table row_of_word decode_of
  byte_zero e h off = loads_zero byte_load za byte_access e 0 refl (answers za long).0 h (omega arith) off

  row_zero : (e i : ℕ) → e < 4 → i < 4 → bit partial_p 6 (e * 4) ≡ false → get_or (za_after row_load za) (byte_of 16 4 2 Horizontal 2 e i) 0 ≡ 0
  unfolding table row_of_word decode_of
  row_zero e i h w off = loads_zero row_load za row_access e i refl (answers za long).1.0 h w off

  column_zero : (e i : ℕ) → e < 8 → i < 2 → bit partial_p 8 (e * 2) ≡ false → get_or (za_after column_load za) (byte_of 16 2 1 Vertical 2 e i) 0 ≡ 0
  unfolding table row_of_word decode_of
  column_zero e i h w off = loads_zero column_load za column_access e i refl (answers za long).1.1.0 h w off

zeros_shown : (za : List ℕ) → length za ≡ 256 →
    (bytes_after byte_load za (25 ∷ 57 ∷ 249 ∷ []) ≡ replicate 3 0) ×
    (bytes_after row_load za (164 ∷ 165 ∷ 167 ∷ 172 ∷ 174 ∷ 175 ∷ []) ≡ replicate 6 0) ×
    (bytes_after column_load za (52 ∷ 53 ∷ 116 ∷ 117 ∷ 244 ∷ 245 ∷ []) ≡ replicate 6 0)
unfolding byte_of
zeros_shown za e = (
  bytes_zero byte_load za (25 ∷ 57 ∷ 249 ∷ []) (byte 1 (omega arith) refl, (byte 3 (omega arith) refl, (byte 15 (omega arith) refl, tt))),
  bytes_zero row_load za (164 ∷ 165 ∷ 167 ∷ 172 ∷ 174 ∷ 175 ∷ []) (
    row 1 0 (omega arith) (omega arith) refl,
    (
      row 1 1 (omega arith) (omega arith) refl,
      (
        row 1 3 (omega arith) (omega arith) refl,
        (row 3 0 (omega arith) (omega arith) refl, (row 3 2 (omega arith) (omega arith) refl, (row 3 3 (omega arith) (omega arith) refl, tt))),
      ),
    ),
  ),
  bytes_zero column_load za (52 ∷ 53 ∷ 116 ∷ 117 ∷ 244 ∷ 245 ∷ []) (
    column 1 0 (omega arith) (omega arith) refl,
    (
      column 1 1 (omega arith) (omega arith) refl,
      (
        column 3 0 (omega arith) (omega arith) refl,
        (column 3 1 (omega arith) (omega arith) refl, (column 7 0 (omega arith) (omega arith) refl, (column 7 1 (omega arith) (omega arith) refl, tt))),
      ),
    ),
  ),
)
  where
    byte : (e : ℕ) → e < 16 → bit partial_p 4 (e * 1) ≡ false → get_or (za_after byte_load za) (byte_of 16 1 0 Vertical 9 e 0) 0 ≡ 0
    byte = byte_zero za e

    row : (e i : ℕ) → e < 4 → i < 4 → bit partial_p 6 (e * 4) ≡ false → get_or (za_after row_load za) (byte_of 16 4 2 Horizontal 2 e i) 0 ≡ 0
    row = row_zero za e

    column : (e i : ℕ) → e < 8 → i < 2 → bit partial_p 8 (e * 2) ≡ false → get_or (za_after column_load za) (byte_of 16 2 1 Vertical 2 e i) 0 ≡ 0
    column = column_zero za e

-- places that are written one by one
places_on : (q : Places) (l : List ℕ) → ((k : ℕ) → q.on k ≡ true) → map q.on l ≡ replicate (length l) true
places_on q [] h = refl
places_on q (k ∷ l) h = ap (λ (b : Bool). b ∷ map q.on l) (h k) ∙ ap (λ (r : List Bool). true ∷ r) (places_on q l h)

places_shown : (za : List ℕ) → Each (WritesAll za) partial_accesses
places_shown za = (places byte_access, (places row_access, (places column_access, tt)))
  where
    places : (o : SliceAccess) → WritesAll za o
    places o =
        let u = public_of (state_with byte_load za) in
        let h = loads_have_places (settings_at 16 0x1000) u o in
        (h.0, places_on (writes_of (settings_at 16 0x1000) u (Ld1 o)).za (0 ∷ 1 ∷ 7 ∷ 15 ∷ []) h.1)

stay_shown : (za : List ℕ) → length za ≡ 256 → Each (λ (c : Call). LeavesZa c za → ⊥) partial_loads
unfolding table row_of_word decode_of
stay_shown za e =
    let a = answers za e in
    (loads_do_not_leave byte_load za byte_access refl a.0, (loads_do_not_leave row_load za row_access refl a.1.0, (loads_do_not_leave column_load za column_access refl a.1.1.0, tt)))

out_shown : (S B : ℕ) (size : ElementSize) (d : Direction) (t : ℕ) (before after : List Call) (za : List ℕ) → length za ≡ 256 → Each (λ (c : Call). Crosses S B size d t (before ++ c ∷ after) za → ⊥) partial_loads
unfolding table row_of_word decode_of
out_shown S B size d t before after za e =
    let a = answers (run before za) (run_long before za ∙ e) in (
      loads_stay_out S B size d t before after byte_load za byte_access refl a.0,
      (loads_stay_out S B size d t before after row_load za row_access refl a.1.0, (loads_stay_out S B size d t before after column_load za column_access refl a.1.1.0, tt)),
    )

pub partial_loads_lem : PartialLoads
unfolding table row_of_word decode_of is_vector_length scatter active byte_of slice_at least writes_of values_of effect_of access_answer answer_of execute_of
partial_loads_lem = record { done = λ za e. numbers_zero partial_loads za (answers za e); decoded = refl; zeros = zeros_shown; actives = (refl, refl, refl); places = places_shown; stay = stay_shown; out = out_shown }

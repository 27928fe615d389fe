-- The worked examples, computed.
-- Assumes nothing.
use Rattle.std.specs.Prelude.{Ok}
use Prim.Native.Nat.{ℕ, ◌*◌}
use mathlib.Core.Path.{◌≡◌, refl}
use lib.ListN.{replicate}
use native.Mathlib.Omega.{arith}
use Rattle.general.specs.Least.{least}
use Rattle.general.specs.Scatter.{scatter}
use Rattle.settings.specs.Settings.{is_vector_length}
use Rattle.tiles.specs.Predicate.{active}
use Rattle.tiles.specs.Tile.{byte_of, slice_at}
use Rattle.tiles.specs.Group.{group_at}
use Rattle.encoding.specs.Table.{table}
use Rattle.encoding.specs.Codec.{row_of_word, decode_of}
use Rattle.encoding.specs.declared.operation.RegisterCount.TheVariants.{Four}
use Rattle.encoding.specs.declared.operation.ArrayToVectors.{ArrayToVectors}
use Rattle.encoding.specs.declared.operation.Operation.TheVariants.{MovaFromArray, MovazFromArray}
use Rattle.semantics.specs.State.{State}
use Rattle.semantics.specs.Effect.{writes_of, values_of, effect_of}
use Rattle.semantics.specs.Execute.{access_answer, answer_of, execute_of}
use Rattle.semantics.specs.Operations.{FromArray, FromArrayZeroing}
use Rattle.semantics.specs.ExampleBuffers.{settings_at, state_at, x_with}
use Rattle.semantics.proofs.Claims.{operations_mean}
use Rattle.long_vectors.specs.Examples.{At128, At256, ArraysMove}

pub at_128 : At128
unfolding table row_of_word decode_of is_vector_length scatter active byte_of slice_at group_at least writes_of values_of effect_of access_answer answer_of execute_of
at_128 = record { to_tile = refl; zeroing = refl; from_tile = refl; store = refl; load = refl }

pub at_256 : At256
unfolding table row_of_word decode_of is_vector_length scatter active byte_of slice_at group_at least writes_of values_of effect_of access_answer answer_of execute_of
at_256 = record { to_tile = refl; zeroing = refl; from_tile = refl; store = refl; load = refl }

-- ---- array moves

-- the state that an array move runs on, and its operation
abbrev before : ℕ → ℕ → State
before B x = state_at B 8 (x_with 11 x) (replicate (2 * B) 0)

abbrev four : ArrayToVectors
four = record { registers = Four; rv = 11; off = 6; zd = 12 }

taken : (B x : ℕ) → (execute_of (settings_at B 0) 0xC0066CCC (before B x)).answer ≡ Ok tt → FromArray (settings_at B 0) (before B x) (execute_of (settings_at B 0) 0xC0066CCC (before B x)).state four
unfolding table row_of_word decode_of
taken B x e = operations_mean (settings_at B 0) 0xC0066CCC (before B x) (MovaFromArray four) (refl, e)

zeroed : (B x : ℕ) → (execute_of (settings_at B 0) 0xC0066ECC (before B x)).answer ≡ Ok tt → FromArrayZeroing (settings_at B 0) (before B x) (execute_of (settings_at B 0) 0xC0066ECC (before B x)).state four
unfolding table row_of_word decode_of
zeroed B x e = operations_mean (settings_at B 0) 0xC0066ECC (before B x) (MovazFromArray four) (refl, e)

pub arrays_move : ArraysMove
unfolding table row_of_word decode_of is_vector_length answer_of execute_of
arrays_move =
    let a = taken 128 60 refl in
    let b = zeroed 128 60 refl in
    let c = taken 256 253 refl in
    let d = zeroed 256 253 refl in
    record {
      taken128 = (a.vectors.takes, a.za);
      zeroed128 = (b.vectors.takes, record { inside = b.zero; outside = b.za });
      taken256 = (c.vectors.takes, c.za);
      zeroed256 = (d.vectors.takes, record { inside = d.zero; outside = d.za });
      last256 = d.vectors.takes 3 255 (omega arith) (omega arith);
      first256 = d.zero 2 0 (omega arith) (omega arith);
    }

-- The worked examples, computed.
-- Assumes nothing.
use Prim.Native.Nat.{◌+◌, ◌%◌, ◌^◌}
use mathlib.Core.Path.{refl}
use native.Mathlib.Nat.{mod-one}
use Rattle.general.specs.Least.{least}
use Rattle.general.specs.Scatter.{scatter}
use Rattle.settings.specs.Settings.{is_vector_length}
use Rattle.tiles.specs.Predicate.{active}
use Rattle.tiles.specs.Tile.{byte_of, slice_at}
use Rattle.tiles.specs.Group.{group_at}
use Rattle.encoding.specs.Table.{table}
use Rattle.encoding.specs.Codec.{row_of_word, decode_of}
use Rattle.semantics.specs.Effect.{writes_of, values_of, effect_of}
use Rattle.semantics.specs.Execute.{access_answer, answer_of, execute_of}
use Rattle.semantics.specs.Run.{run_of}
use Rattle.long_buffers.specs.Examples.{LongBuffersHold}

pub long_buffers_hold : LongBuffersHold
unfolding table row_of_word decode_of is_vector_length scatter active byte_of slice_at group_at least writes_of values_of effect_of access_answer answer_of execute_of run_of
long_buffers_hold =
    record {
      moves = record { row = refl; column = refl; single = λ w. rw (mod-one (w % 2 ^ 32 + 0)) refl; taken = refl; row_taken = refl; row_read = refl };
      groups = record { four = refl; two = refl; again = refl; two_read = refl; four_taken = refl };
      accesses = record { active = refl; none = refl; all = refl; some = refl; element = refl; fits = refl; load = refl; wide_store = refl; wide_load = refl };
      answers = record { lengths = refl; largest = refl; below = refl };
      done = refl;
    }

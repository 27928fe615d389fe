-- The worked examples, computed.
-- Assumes nothing.
use Prim.Native.Nat.{◌+◌, ◌%◌, ◌^◌}
use mathlib.Core.Path.{refl}
use native.Mathlib.Nat.{mod-one}
use Rattle.general.specs.Least.{least}
use Rattle.general.specs.Scatter.{scatter}
use Rattle.settings.specs.Settings.{is_vector_length}
use Rattle.tiles.specs.Predicate.{active}
use Rattle.tiles.specs.Tile.{byte_of, slice_at}
use Rattle.tiles.specs.Group.{group_at}
use Rattle.tiles.proofs.Claims.{places_hold}
use Rattle.encoding.specs.Table.{table}
use Rattle.encoding.specs.Codec.{row_of_word, decode_of}
use Rattle.encoding.proofs.Claims.{words_hold}
use Rattle.semantics.specs.Effect.{writes_of, values_of, effect_of}
use Rattle.semantics.specs.Execute.{access_answer, answer_of, execute_of}
use Rattle.semantics.specs.Run.{run_of}
use Rattle.semantics.specs.Examples.{ExamplesHold}

pub examples_hold : ExamplesHold
unfolding table row_of_word decode_of is_vector_length scatter active byte_of slice_at group_at least writes_of values_of effect_of access_answer answer_of execute_of run_of
examples_hold =
    record {
      words = words_hold;
      places = places_hold;
      example1 = record { moves = refl };
      example2 = record { moves = refl; partial = refl };
      example3 = record { first = refl; second = refl };
      example4 = record { moves = λ w. rw (mod-one (w % 2 ^ 32 + 0)) refl };
      example5 = record { low = refl };
      example6 = record { moves = refl; later = refl };
      example7 = record { moves = refl; longer = refl };
      example8 = record { moves = refl; odd = refl; longer = refl };
      example9 = record { active = refl; none = refl; on = refl; off = refl; off_elsewhere = refl; off_none = refl; aligned = refl };
      example10 = record { all = refl; some = refl; later = refl };
      example_store = record { inside = refl; outside = refl };
      example_slices = record { column = refl; taken = refl; row = refl };
      example12 = record { both = refl; za = refl; level = refl; word = refl; order = refl };
      run = record { empty = (refl, refl); both = (refl, refl); stores = refl; address = refl; stops = (refl, refl) };
      written = record { to_tile = refl; from_tile = refl; zeroing = refl; array = refl; array_zeroing = refl; store = refl; load = refl };
      added =
          record {
            from_tile = record { row = refl; none = refl; column = refl; wide = refl; narrow = refl; pairs = refl; eights = refl };
            two = record { moves = refl; longer = refl };
            four = record { moves = refl; longer = refl };
            refused = record { low = refl; streaming = refl; za = refl };
          };
      accesses =
          record {
            end = record { all = refl; later = refl; stores = refl; loads = refl };
            top = record { low = refl; high = refl; stores = refl; loads = refl };
            offset = record { stores = refl; loads = refl; wide = refl; both = refl };
            stack = record { long = refl; offset = refl; sum = refl; high = refl; odd = refl; last = refl; between = refl; zeroes = refl };
            lengths = record { memory = refl; top = refl; shorter = refl; buffers = refl };
            fills = record { stores = refl; loads = refl; past = refl; wraps = refl };
            load = record { column = refl; bytes = refl; pairs = refl; none = refl; aligned = refl };
            stores = record { column = refl; wide = refl };
            refused = record { low = refl; streaming = refl; za = refl; stack = refl; outside = refl };
            unchecked = record { loads = refl; elsewhere = refl; on = refl; none = refl; each = refl };
          };
      elements =
          record {
            not_first_active = refl;
            wide = refl;
            straddling = refl;
            top_below = refl;
            top_above = refl;
            vertical = refl;
            vertical_later = refl;
            loads = refl;
            stores = refl;
          };
    }

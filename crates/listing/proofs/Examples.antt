-- The worked examples, computed.
-- Assumes nothing.
use mathlib.Core.Path.{refl}
use Rattle.general.specs.Least.{least}
use Rattle.general.specs.Number.{number}
use Rattle.general.specs.Scatter.{scatter}
use Rattle.settings.specs.Settings.{is_vector_length}
use Rattle.tiles.specs.Predicate.{active}
use Rattle.tiles.specs.Tile.{byte_of, slice_at}
use Rattle.tiles.specs.Group.{group_at}
use Rattle.encoding.specs.Table.{table}
use Rattle.encoding.specs.Codec.{row_of_word, decode_of}
use Rattle.semantics.specs.Effect.{writes_of, values_of, effect_of}
use Rattle.semantics.specs.Execute.{access_answer, answer_of, execute_of}
use Rattle.semantics.specs.Run.{run_of}
use Rattle.listing.specs.Words.{words_from}
use Rattle.listing.specs.Listing.{listing_of}
use Rattle.listing.specs.Examples.{ListingsHold}

pub listings_hold : ListingsHold
unfolding number table row_of_word decode_of is_vector_length scatter active byte_of slice_at group_at least writes_of values_of effect_of access_answer answer_of execute_of run_of words_from listing_of
listings_hold =
    record {
      words = refl;
      none = refl;
      allowances = refl;
      kept = refl;
      allowed = refl;
      ended = refl;
      outside = refl;
      misaligned = refl;
      odd = refl;
      odd_kept = refl;
      empty = refl;
      empty_bad = refl;
      zero_bad = refl;
      empty_off = refl;
      off = refl;
      odd_bad = refl;
      parts = (refl, refl, refl);
    }

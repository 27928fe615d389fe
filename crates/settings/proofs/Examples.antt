-- The worked examples, computed.
-- Assumes nothing.
use mathlib.Core.Path.{refl}
use mathlib.Core.List.{◌∷◌}
use Rattle.settings.specs.Settings.{is_vector_length}
use Rattle.settings.specs.Examples.{SettingsExamplesHold}

pub settings_examples_hold : SettingsExamplesHold
unfolding is_vector_length
settings_examples_hold = record {
  limits = refl;
  five = refl;
  wide = refl;
  pairs = refl;
  largest = refl;
  levels = refl;
  valid = refl;
  checked = refl;
  checked_numbers = refl;
  lengths_made = refl;
  largest_made = refl;
  levels_made = refl;
  not_lengths = refl;
  not_largest = refl;
  not_levels = refl;
  neither = refl;
  streaming_cleared = refl;
  streaming_set = refl;
  za_cleared = refl;
  za_set = refl;
  address = refl;
  address_back = refl;
  check_cleared = refl;
  check_set = refl;
  given = refl;
  missing = refl;
  not_given = refl;
  measures = refl;
  as_record = refl;
  stride = refl;
  measured = λ r ls' p i. p.number i ∷ p.lengths i;
  unmeasured = λ r ls' p i. p.number i ∷ p.lengths i;
  unlaid = λ r ls' p i. p.number i ∷ p.lengths i;
  answers = refl;
  numbers = refl;
  values = refl;
  none = refl;
  results = refl;
}

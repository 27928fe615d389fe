-- The worked examples, computed.
-- Assumes nothing.
use mathlib.Core.Path.{refl}
use Rattle.general.specs.Least.{least}
use Rattle.planner.specs.Tile.{is_size, shares, is_free, is_valid, is_among, without}
use Rattle.planner.specs.Held.{take_of, give_up_of}
use Rattle.planner.specs.Examples.{TakingExamplesHold}

pub taking_examples_hold : TakingExamplesHold
unfolding least is_size shares is_free is_valid is_among without take_of give_up_of
taking_examples_hold = record {
  nothing = refl;
  first = refl;
  even = refl;
  odd = refl;
  two = refl;
  joins = refl;
  lowest = refl;
  gap = refl;
  last = refl;
  full = refl;
  whole = refl;
  sizes = refl;
  missing = refl;
  overlap = refl;
  counts = refl;
  counts_given = refl;
  counts_size = refl;
  kept_size = refl;
  kept_full = refl;
  kept_bad = refl;
  kept_count = refl;
  kept_given = refl;
  kept_given_count = refl;
  after = refl;
  given = refl;
  order = refl;
  fifteen = refl;
  cleared = refl;
  unheld = refl;
  bad = refl;
  twice = refl;
  bad_too = refl;
}

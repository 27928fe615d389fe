-- Laws of specs/Lent.antt.
-- Assumes nothing.
use Prim.Native.Nat.{ℕ, ◌<◌, ◌≤◌}
use mathlib.Core.Path.{◌≡◌}
use mathlib.Core.List.{List}
use lib.ListN.{length}
use borrow.Author.Tests.{le-leb, lt-leb}
use Rattle.settings.specs.Lent.{fewest, most, no_settings, settings_in}

pub settings_few : (l : List ℕ) → length l < fewest → no_settings ≡ settings_in l
settings_few l h = rw (lt-leb fewest (length l) h)

pub settings_many : (l : List ℕ) → fewest ≤ length l → most < length l → no_settings ≡ settings_in l
settings_many l h g = rw (le-leb fewest (length l) h, lt-leb (length l) most g)

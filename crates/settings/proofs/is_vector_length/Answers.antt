-- `settings::is_vector_length` meets its contract: of the numbers from the shortest length to the longest, the powers of two are the lengths.
-- Assumes nothing.
use mathlib.Core.Path.{sym}
use native.Mathlib.Omega.{arith}
use Rattle.settings.proofs.SettingsLaws.{vector_length_bounds, vector_length_power}
use Rattle.settings.proofs.is_vector_length.Goals as goal

pub returns-then-bytes-lt-MIN_VECTOR_BYTES : goal.returns-then-bytes-lt-MIN_VECTOR_BYTES
returns-then-bytes-lt-MIN_VECTOR_BYTES c = let short = c.if-bytes-lt-MIN_VECTOR_BYTES.true in sym (vector_length_bounds _ (λ h. omega (arith, short, h)))

pub returns-then-bytes-gt-MAX_VECTOR_BYTES : goal.returns-then-bytes-gt-MAX_VECTOR_BYTES
returns-then-bytes-gt-MAX_VECTOR_BYTES c = let long = c.if-bytes-gt-MAX_VECTOR_BYTES.true in sym (vector_length_bounds _ (λ h. omega (arith, long, h)))

pub returns : goal.returns
returns c = vector_length_power _ c.if-bytes-lt-MIN_VECTOR_BYTES.false c.if-bytes-gt-MAX_VECTOR_BYTES.false

-- `flat::encode_flat` meets its contract, by what the numbers name; that numbers which a row can write name an operation is a law.
-- Assumes nothing.
use mathlib.Core.Path.{◌≡◌, refl}
use Rattle.std.specs.Prelude.{ℕ, Result, Ok, Err, IsErr}
use Rattle.encoding.specs.Flat.{no_word}
use Rattle.encoding.specs.Codec.{encode_flat_of}
use Rattle.encoding.proofs.CodecLaws.{encodes_flat_lem}
use Rattle.encoding.specs.declared.operation.OutOfRange.{OutOfRange}
use Rattle.flat.proofs.encode_flat.Goals as goal

-- there is one refusal
refused : (r : Result ℕ OutOfRange) → IsErr r → r ≡ Err no_word
refused (Ok w) h = cc
refused (Err e) h = refl

pub returns-in_err-unflatten : goal.returns-in_err-unflatten
unfolding encode_flat_of
returns-in_err-unflatten c = let u = c.unflatten.ensures in encodes_flat_lem _ _ u.eleven (rw (← u.equal, c.in_err-unflatten.was) (refused _ c.from_residual.ensures.0))

pub returns : goal.returns
unfolding encode_flat_of
returns c = let u = c.unflatten.ensures in encodes_flat_lem _ _ u.eleven (rw (← u.equal, c.in_ok-unflatten.was) c.encode.ensures.equal)

-- `text::hex_number` meets its contract. The loop's invariant: the digits behind go on from the number of those before, of which there are no more than
-- eight.
-- Assumes nothing.
use Rattle.std.proofs.Common.{◌≡◌, ◌<◌, ◌^◌, drop}
use Rattle.text.specs.Digits.{number_on}
use Rattle.text.proofs.digits.hex_number.Given as goal

abbrev pub invariant-loop-digit : goal.invariant-loop-digit
invariant-loop-digit l = (number_on l.number (drop l.digit-index l.digits) ≡ number_on 0 l.digits) × (l.number < 16 ^ l.digit-index)

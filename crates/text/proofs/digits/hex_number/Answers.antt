-- `text::hex_number` meets its contract.
-- Assumes nothing.
use Rattle.std.proofs.Common.{◌≡◌, ◌<◌, ◌^◌, length, sym, ◌∙◌, arith}
use Rattle.text.proofs.DigitLaws.{fits_more, below_more, parse_long, parse_bad, parse_more, parse_all}
use Rattle.text.proofs.digits.hex_number.Goals.{In-loop-digit}
use Rattle.text.proofs.digits.hex_number.Goals as goal

pub returns-then-digits-gt8-clause-value : goal.returns-then-digits-gt8-clause-value
returns-then-digits-gt8-clause-value c = parse_long _ c.if-digits-gt8.true

-- before a digit more, four bits are free
fits : (c : In-loop-digit) → c.loop-digit.number < 16 ^ 7
fits c = fits_more c.loop-digit.number c.loop-digit.digit-index c.loop-digit.invariant.1 (omega arith)

pub overflow_mul-number : goal.overflow_mul-number
overflow_mul-number c = omega (arith, fits (goal.at.overflow_mul-number c).In-loop-digit)

pub returns-in_err-value-clause-value : goal.returns-in_err-value-clause-value
returns-in_err-value-clause-value c =
    c.from_residual.ensures ∙ parse_bad _ c.if-digits-gt8.false _ _ c.loop-digit-test.true (sym c.in_err-value.was ∙ c.digit_value.ensures.value) c.loop-digit.invariant.0

pub overflow_add-number : goal.overflow_add-number
overflow_add-number c = omega (arith, fits (goal.at.overflow_add-number c).In-loop-digit, c.in_ok-value.ensures.small)

pub loop-digit-preserved : goal.loop-digit-preserved
loop-digit-preserved c =
    let l = c.loop-digit in (
      parse_more _ c.if-digits-gt8.false _ _ _ c.loop-digit-test.true (sym c.in_ok-value.was ∙ c.digit_value.ensures.value) l.invariant.0,
      below_more l.number l.digit-index c.in_ok-value.value l.invariant.1 c.in_ok-value.ensures.small,
    )

pub returns-clause-value : goal.returns-clause-value
returns-clause-value c = parse_all _ c.if-digits-gt8.false _ _ c.loop-digit-test.false c.loop-digit.invariant.0

pub returns-clause-below : goal.returns-clause-below
returns-clause-below c = let all : c.loop-digit.digit-index ≡ length c.args.digits.now = omega arith in rw all at c.loop-digit.invariant.1

-- `encode_fields::question_in` meets its contract, test by test.
-- Assumes nothing.
use Rattle.std.proofs.Common.{refl, sym, ◌∙◌}
use Rattle.encode_fields.proofs.LineLaws.{question_length, question_newline, question_asked}
use Rattle.encode_fields.proofs.question_in.Goals.{then-line-ne-LENGTH-via-then-line-ne-LENGTH, then-line-ne-LENGTH-via-else-line-ne-LENGTH+then-line-ne10}
use Rattle.encode_fields.proofs.question_in.Goals as goal

pub returns-then-line-ne-LENGTH : goal.returns-then-line-ne-LENGTH
returns-then-line-ne-LENGTH c =
    elim c.then-line-ne-LENGTH.branch [
      | then-line-ne-LENGTH-via-then-line-ne-LENGTH w ↦ question_length _ w.if-line-ne-LENGTH.true
      | then-line-ne-LENGTH-via-else-line-ne-LENGTH+then-line-ne10 w ↦ question_newline _ w.if-line-ne10.true
    ]

-- past the tests, the digits decide
pub returns-in_err-first : goal.returns-in_err-first
returns-in_err-first c =
    c.from_residual.ensures
    ∙ question_asked c.args.line.now _ _ _ c.if-line-ne-LENGTH.false c.if-line-ne10.false (sym c.in_err-first.was ∙ c.hex_number.ensures.value) refl refl

pub returns-in_err-second : goal.returns-in_err-second
returns-in_err-second c =
    c.from_residual-in_err-second.ensures
    ∙ question_asked c.args.line.now _ _ _ c.if-line-ne-LENGTH.false c.if-line-ne10.false (sym c.in_ok-first.was ∙ c.hex_number.ensures.value) (sym c.in_err-second.was ∙ c.hex_number-2.ensures.value) refl

pub returns-in_err-third : goal.returns-in_err-third
returns-in_err-third c =
    c.from_residual-in_err-third.ensures
    ∙ question_asked c.args.line.now _ _ _ c.if-line-ne-LENGTH.false c.if-line-ne10.false (sym c.in_ok-first.was ∙ c.hex_number.ensures.value) (sym c.in_ok-second.was ∙ c.hex_number-2.ensures.value) (sym c.in_err-third.was ∙ c.hex_number-3.ensures.value)

pub returns : goal.returns
returns c =
    question_asked c.args.line.now _ _ _ c.if-line-ne-LENGTH.false c.if-line-ne10.false (sym c.in_ok-first.was ∙ c.hex_number.ensures.value) (sym c.in_ok-second.was ∙ c.hex_number-2.ensures.value) (sym c.in_ok-third.was ∙ c.hex_number-3.ensures.value)

-- `decode_words::question_in` meets its contract, test by test.
-- Assumes nothing.
use Rattle.std.proofs.Common.{refl, sym, ◌∙◌}
use Rattle.decode_words.proofs.LineLaws.{question_length, question_space, question_newline, question_asked}
use Rattle.decode_words.proofs.question_in.Goals.{then-line-ne-LENGTH-via-then-line-ne-LENGTH, then-line-ne-LENGTH-via-else-line-ne-LENGTH+then-line-ne32, then-line-ne-LENGTH-via-else-line-ne-LENGTH+else-line-ne32+then-line-ne10}
use Rattle.decode_words.proofs.question_in.Goals as goal

pub returns-then-line-ne-LENGTH : goal.returns-then-line-ne-LENGTH
returns-then-line-ne-LENGTH c =
    elim c.then-line-ne-LENGTH.branch [
      | then-line-ne-LENGTH-via-then-line-ne-LENGTH w ↦ question_length _ w.if-line-ne-LENGTH.true
      | then-line-ne-LENGTH-via-else-line-ne-LENGTH+then-line-ne32 w ↦ question_space _ w.if-line-ne32.true
      | then-line-ne-LENGTH-via-else-line-ne-LENGTH+else-line-ne32+then-line-ne10 w ↦ question_newline _ w.if-line-ne10.true
    ]

-- past the tests, the digits decide
pub returns-in_err-word : goal.returns-in_err-word
returns-in_err-word c =
    c.from_residual.ensures
    ∙ question_asked c.args.line.now _ _ c.if-line-ne-LENGTH.false c.if-line-ne32.false c.if-line-ne10.false (sym c.in_err-word.was ∙ c.hex_number.ensures.value) refl

pub returns-in_err-level : goal.returns-in_err-level
returns-in_err-level c =
    c.from_residual-in_err-level.ensures
    ∙ question_asked c.args.line.now _ _ c.if-line-ne-LENGTH.false c.if-line-ne32.false c.if-line-ne10.false (sym c.in_ok-word.was ∙ c.hex_number.ensures.value) (sym c.in_err-level.was ∙ c.hex_number-2.ensures.value)

pub returns : goal.returns
returns c =
    question_asked c.args.line.now _ _ c.if-line-ne-LENGTH.false c.if-line-ne32.false c.if-line-ne10.false (sym c.in_ok-word.was ∙ c.hex_number.ensures.value) (sym c.in_ok-level.was ∙ c.hex_number-2.ensures.value)

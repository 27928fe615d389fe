-- `text::answer_lines`: each turn before took a line that has an answer.
use Rattle.text.specs.Answers.{TakesMany}
use Rattle.text.proofs.answers.answer_lines.Given as goal

abbrev pub invariant-loop : goal.invariant-loop
invariant-loop g l = TakesMany (goal.F-post g l.put_answer) g.row.LENGTH l.counter (g.R.Read.remaining l.initial.input) (g.R.Read.remaining l.input)

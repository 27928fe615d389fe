-- What executing promises. Renders 01 §9. To believe: that answer and state are those of the definition, and the answer also those of the table.
-- Assumes nothing.
use Rattle.std.specs.Prelude.{ℕ, ◌≡◌, Result, ⊤}
use Rattle.settings.specs.declared.Settings.{Settings}
use Rattle.semantics.specs.declared.answer.Refusal.{Refusal}
use Rattle.semantics.specs.Answer.{executed_answer}
use Rattle.semantics.specs.State.{State, public_of}
use Rattle.semantics.specs.Execute.{execute_of}
use Rattle.semantics.specs.Lines.{answer_in_numbers}

-- the answer, the same in numbers, and the state, whichever answer
pub record Executes (s : Settings) (w : ℕ) (t : State) (r : Result ⊤ Refusal) (t' : State) : Type 0 where
  pub answer : r ≡ (execute_of s w t).answer
  pub numbers : executed_answer r ≡ answer_in_numbers s w (public_of t)
  pub state : t' ≡ (execute_of s w t).state

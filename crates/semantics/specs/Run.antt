-- Several words, one after another on one state, up to the first that is not done.
-- To believe: `run_of`.
-- Assumes nothing.
use Rattle.std.specs.Prelude.{ℕ, suc, List, [], ◌∷◌, Ok}
use Rattle.settings.specs.declared.Settings.{Settings}
use Rattle.semantics.specs.State.{State}
use Rattle.semantics.specs.Execute.{Outcome, if_done, execute_of}

-- how many words were done, the answer of the last that was executed, done where none was, and the state that it left
pub record Ran : Type 0 where
  pub words : ℕ
  pub ending : Outcome

-- a done word before the others
abbrev pub one_more : Ran → Ran
one_more r = record { words = suc r.words; ending = r.ending }

unfoldable pub run_of : Settings → List ℕ → State → Ran
run_of s [] t = record { words = 0; ending = record { answer = Ok tt; state = t } }
run_of s (w ∷ ws) t =
    let o = execute_of s w t in
    if_done o.answer (record { words = 0; ending = o }) (one_more (run_of s ws o.state))

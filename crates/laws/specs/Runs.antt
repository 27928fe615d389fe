-- A run of words and the list of calls that it makes. The calls of a list let the host change everything but ZA between them; a run is the list
-- in which it changes nothing.
-- To believe: `calls_of`.
-- Assumes nothing.
use Rattle.std.specs.Prelude.{ℕ, ◌≡◌, List, [], ◌∷◌, ◌++◌, Ok, Err}
use Rattle.settings.specs.declared.Settings.{Settings}
use Rattle.semantics.specs.declared.answer.Refusal.{Refusal}
use Rattle.semantics.specs.State.{State}
use Rattle.semantics.specs.Execute.{if_done, execute_of}
use Rattle.semantics.specs.Run.{run_of}
use Rattle.laws.specs.Calls.{Call, run}

abbrev pub call_at : Settings → ℕ → State → Call
call_at s w t = record { settings = s; word = w; x = t.x; z = t.z; p = t.p; memory = t.memory }

-- the words that a run executes, up to and including the first that is not done, each on the state as the one before left it
unfoldable pub calls_of : Settings → List ℕ → State → List Call
calls_of s [] t = []
calls_of s (w ∷ ws) t = let o = execute_of s w t in call_at s w t ∷ if_done o.answer [] (calls_of s ws o.state)

-- what a run does to ZA is what its calls do to it
abbrev pub RunIsCalls : Type 0
RunIsCalls = (s : Settings) (ws : List ℕ) (t : State) → run (calls_of s ws t) t.za ≡ (run_of s ws t).ending.state.za

-- and its calls are those of its words: one word is one call; where some words are all done, the calls of more words follow, on the state that they left; where they
-- are not, there are no more
pub record CallsGoOn (s : Settings) (t : State) : Type 0 where
  pub one : (w : ℕ) → calls_of s (w ∷ []) t ≡ call_at s w t ∷ []
  pub more : (ws vs : List ℕ) → (run_of s ws t).ending.answer ≡ Ok tt → calls_of s (ws ++ vs) t ≡ calls_of s ws t ++ calls_of s vs (run_of s ws t).ending.state
  pub stops : (ws vs : List ℕ) (r : Refusal) → (run_of s ws t).ending.answer ≡ Err r → calls_of s (ws ++ vs) t ≡ calls_of s ws t

abbrev pub CallsAreOfWords : Type 0
CallsAreOfWords = (s : Settings) (t : State) → CallsGoOn s t

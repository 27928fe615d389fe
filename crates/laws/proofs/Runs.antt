-- The theorems of specs/Runs.antt, word by word: a done word goes on with the state that it left, a refused one is the last.
-- Assumes nothing.
use Rattle.std.specs.Prelude.{Result, ⊤, Ok, Err}
use Prim.Native.Nat.{ℕ}
use Rattle.settings.specs.declared.Settings.{Settings}
use Rattle.semantics.specs.State.{State}
use mathlib.Core.Path.{◌≡◌, refl, sym, ap, ◌∙◌}
use mathlib.Core.List.{List, [], ◌∷◌, ◌++◌}
use Rattle.semantics.specs.declared.answer.Refusal.{Refusal}
use Rattle.semantics.specs.Execute.{if_done, execute_of}
use Rattle.semantics.specs.Run.{one_more, run_of}
use Rattle.semantics.proofs.ExecuteLaws.{refused_not_done}
use Rattle.laws.specs.Calls.{Call, run}
use Rattle.laws.specs.Runs.{call_at, calls_of, RunIsCalls, CallsAreOfWords}

pub run_is_calls : RunIsCalls
unfolding run run_of calls_of
run_is_calls s [] t = refl
run_is_calls s (w ∷ ws) t = go (execute_of s w t).answer (run_is_calls s ws (execute_of s w t).state)
  where
    go : (a : Result ⊤ Refusal) → run (calls_of s ws (execute_of s w t).state) (execute_of s w t).state.za ≡ (run_of s ws (execute_of s w t).state).ending.state.za →
        run (if_done a [] (calls_of s ws (execute_of s w t).state)) (execute_of s w t).state.za ≡
        (if_done a (record { words = 0; ending = execute_of s w t }) (one_more (run_of s ws (execute_of s w t).state))).ending.state.za
    go (Ok _) e = e
    go (Err r) e = refl

module _ (s : Settings) where
  calls_one : (t : State) (w : ℕ) → calls_of s (w ∷ []) t ≡ call_at s w t ∷ []
  unfolding calls_of
  calls_one t w = go (execute_of s w t).answer
    where
      go : (a : Result ⊤ Refusal) → call_at s w t ∷ if_done a [] [] ≡ call_at s w t ∷ []
      go (Ok _) = refl
      go (Err r) = refl

  calls_more : (ws vs : List ℕ) (t : State) → (run_of s ws t).ending.answer ≡ Ok tt → calls_of s (ws ++ vs) t ≡ calls_of s ws t ++ calls_of s vs (run_of s ws t).ending.state
  unfolding calls_of run_of
  calls_more [] vs t e = refl
  calls_more (w ∷ ws) vs t e = go (execute_of s w t).answer refl e (calls_more ws vs (execute_of s w t).state)
    where
      go : (a : Result ⊤ Refusal) → a ≡ (execute_of s w t).answer → (if_done a (record { words = 0; ending = execute_of s w t }) (one_more (run_of s ws (execute_of s w t).state))).ending.answer ≡ Ok tt →
          ((run_of s ws (execute_of s w t).state).ending.answer ≡ Ok tt → calls_of s (ws ++ vs) (execute_of s w t).state ≡ calls_of s ws (execute_of s w t).state ++ calls_of s vs (run_of s ws (execute_of s w t).state).ending.state) →
          call_at s w t ∷ if_done a [] (calls_of s (ws ++ vs) (execute_of s w t).state) ≡
          (call_at s w t ∷ if_done a [] (calls_of s ws (execute_of s w t).state)) ++ calls_of s vs (if_done a (record { words = 0; ending = execute_of s w t }) (one_more (run_of s ws (execute_of s w t).state))).ending.state
      go (Ok _) q e ih = ap (λ (cs : List Call). call_at s w t ∷ cs) (ih e)
      go (Err r) q e ih = absurd (refused_not_done r (q ∙ e))

  calls_stop : (ws vs : List ℕ) (t : State) (r : Refusal) → (run_of s ws t).ending.answer ≡ Err r → calls_of s (ws ++ vs) t ≡ calls_of s ws t
  unfolding calls_of run_of
  calls_stop [] vs t r e = absurd (refused_not_done r (sym e))
  calls_stop (w ∷ ws) vs t r e = go (execute_of s w t).answer e (calls_stop ws vs (execute_of s w t).state r)
    where
      go : (a : Result ⊤ Refusal) → (if_done a (record { words = 0; ending = execute_of s w t }) (one_more (run_of s ws (execute_of s w t).state))).ending.answer ≡ Err r →
          ((run_of s ws (execute_of s w t).state).ending.answer ≡ Err r → calls_of s (ws ++ vs) (execute_of s w t).state ≡ calls_of s ws (execute_of s w t).state) →
          call_at s w t ∷ if_done a [] (calls_of s (ws ++ vs) (execute_of s w t).state) ≡ call_at s w t ∷ if_done a [] (calls_of s ws (execute_of s w t).state)
      go (Ok _) e ih = ap (λ (cs : List Call). call_at s w t ∷ cs) (ih e)
      go (Err r') e ih = refl

pub calls_are_of_words : CallsAreOfWords
calls_are_of_words s t = record { one = calls_one s t; more = λ ws vs. calls_more s ws vs t; stops = λ ws vs. calls_stop s ws vs t }

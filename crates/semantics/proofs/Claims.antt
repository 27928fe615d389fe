-- Each theorem of specs/Claims.antt.
-- Assumes nothing.
use Rattle.std.specs.Prelude.{Result, ⊤, Ok, Err}
use Prim.Native.Nat.{ℕ, ◌+◌}
use mathlib.Core.Path.{◌≡◌, refl, sym, ap, ◌∙◌, subst}
use mathlib.Core.Bool.{Bool, true, false, true≢false}
use mathlib.Core.List.{List, [], ◌∷◌, ◌++◌}
use native.Mathlib.Omega.{arith}
use Rattle.general.specs.Determined.{IsOneOf}
use Rattle.settings.specs.Settings.{with_stack_check}
use Rattle.settings.specs.declared.Settings.{Settings}
use Rattle.semantics.specs.declared.answer.Refusal.{Refusal}
use Rattle.semantics.specs.State.{State, public_of}
use Rattle.semantics.specs.Execute.{Outcome, if_done, execute_of}
use Rattle.semantics.specs.Run.{Ran, one_more, run_of}
use Rattle.semantics.specs.Claims.{AnswersAgree, ExecutingDetermines, Keeps, ExecutionKeeps, OperationsMean, OperationsSettle, StackCheckSwitched, RunGoesOn}
use Rattle.semantics.specs.Promise.{Executes}
use Rattle.semantics.specs.Answer.{executed_number}
use Rattle.general.proofs.DeterminedLaws.{equal_determines}
use Rattle.semantics.specs.Operations.{Means}
use Rattle.semantics.specs.Reasons.{AnswersExactly}
use Rattle.semantics.proofs.OperationLaws.{effect_means}
use Rattle.semantics.proofs.SettleLaws.{means_settle}
use Rattle.semantics.proofs.ReasonLaws.{given_exactly, fault_told, refusal_keeps}
use Rattle.encoding.proofs.RangeLaws.{decoded_in_range}
use Rattle.semantics.proofs.ExecuteLaws.{refused_not_done, Ends, does, stays, ends, does_operation, does_answer}
use Rattle.semantics.proofs.ExecuteLaws as laws
use Rattle.semantics.proofs.EffectLaws.{effect_keeps}
use Rattle.semantics.proofs.StackLaws.{Switched, alike, apart, answer_switched, outcome_same}

pub answers_agree : AnswersAgree
answers_agree s w u = laws.answers_agree s u w

pub execution_keeps : ExecutionKeeps
execution_keeps s w t = go (ends s w t)
  where
    go : Ends s w t → Keeps t (execute_of s w t).state
    go (does o d) = subst (Keeps t) (sym d.state) (effect_keeps s o t)
    go (stays r n e) = subst (Keeps t) (sym e) (record { x = refl; p = refl; z = refl; za = refl; memory = refl })

-- ---- what executing promises

-- what the definition gives meets the promise
pub definition_executes : (s : Settings) (w : ℕ) (t : State) → Executes s w t (execute_of s w t).answer (execute_of s w t).state
unfolding execute_of
definition_executes s w t = record { answer = refl; numbers = answers_agree s w (public_of t); state = refl }

pub executing_determines : ExecutingDetermines
executing_determines s w t = record {
  met = (((execute_of s w t).answer, (execute_of s w t).state), definition_executes s w t);
  determined = equal_determines (λ (o : Result ⊤ Refusal × State). Executes s w t o.0 o.1) ((execute_of s w t).answer, (execute_of s w t).state) (λ o p i. (p.answer i, p.state i));
  refused = λ r t' p n. p.state ∙ refusal_keeps s w t (λ e. n (ap executed_number p.answer ∙ e));
}

-- ---- 01's own words

pub operations_mean : OperationsMean
operations_mean s w t o d =
    let h = does_operation s w t o d.0 d.1 in
    subst (λ (t' : State). Means s t t' o) (sym h.state) (effect_means s t h.sized o (decoded_in_range w s.level o d.0) (does_answer s w t o h))

pub operations_settle : OperationsSettle
operations_settle s w t t' o d k m = means_settle s t t' (execute_of s w t).state k (execution_keeps s w t) o m (operations_mean s w t o d)

pub answers_exactly : AnswersExactly
answers_exactly s w t = (given_exactly s w t, fault_told s w t, refusal_keeps s w t)

-- ---- the switch of the stack check

-- with the check off no call gets 6
unchecked : (s : Settings) (w : ℕ) (t : State) → s.stack_check ≡ false → executed_number (execute_of s w t).answer ≡ 6 → ⊥
unchecked s w t e n = true≢false (sym ((given_exactly s w t).reason 5 (omega arith) n).0.checked ∙ e)

pub stack_check_switched : StackCheckSwitched
stack_check_switched s w t = record { off = unchecked s w t; same = same (answer_switched s w t); ordinary = ordinary (answer_switched s w t) }
  where
    a : Bool → Result ⊤ Refusal
    a b = (execute_of (with_stack_check s b) w t).answer

    same : Switched (a false) (a true) → (executed_number (a true) ≡ 6 → ⊥) → execute_of (with_stack_check s false) w t ≡ execute_of (with_stack_check s true) w t
    same (alike e) h = outcome_same s w t e
    same (apart e o) h = absurd (h (ap executed_number e))

    ordinary : Switched (a false) (a true) → executed_number (a true) ≡ 6 → IsOneOf (0 ∷ 7 ∷ []) (executed_number (a false))
    ordinary (alike e) h = absurd (unchecked (with_stack_check s false) w t refl (ap executed_number e ∙ h))
    ordinary (apart e o) h = o

-- ---- runs, word by word

-- what a word makes of a run of the words after it
abbrev step : Result ⊤ Refusal → Outcome → Ran → Ran
step a o r = if_done a (record { words = 0; ending = o }) (one_more r)

module _ (s : Settings) where
  run_one : (t : State) (w : ℕ) → (run_of s (w ∷ []) t).ending ≡ execute_of s w t
  unfolding run_of
  run_one t w = go (execute_of s w t).answer (execute_of s w t).state
    where
      go : (a : Result ⊤ Refusal) (t' : State) → (step a (record { answer = a; state = t' }) (record { words = 0; ending = record { answer = Ok tt; state = t' } })).ending ≡ record { answer = a; state = t' }
      go (Ok _) t' = refl
      go (Err r) t' = refl

  run_counted : (t : State) (w : ℕ) → (run_of s (w ∷ []) t).words ≡ if_done (execute_of s w t).answer 0 1
  unfolding run_of
  run_counted t w = go (execute_of s w t).answer (execute_of s w t)
    where
      go : (a : Result ⊤ Refusal) (o : Outcome) → (step a o (record { words = 0; ending = record { answer = Ok tt; state = o.state } })).words ≡ if_done a 0 1
      go (Ok _) o = refl
      go (Err r) o = refl

  -- what is claimed where words go on
  abbrev GoesOn : List ℕ → List ℕ → State → Type 0
  GoesOn ws vs t =
      (run_of s ws t).ending.answer ≡ Ok tt →
      ((run_of s (ws ++ vs) t).ending ≡ (run_of s vs (run_of s ws t).ending.state).ending) ×
      ((run_of s (ws ++ vs) t).words ≡ (run_of s ws t).words + (run_of s vs (run_of s ws t).ending.state).words)

  run_more : (ws vs : List ℕ) (t : State) → GoesOn ws vs t
  unfolding run_of
  run_more [] vs t e = (refl, omega arith)
  run_more (w ∷ ws) vs t e = go (execute_of s w t).answer refl e (run_more ws vs (execute_of s w t).state)
    where
      go : (a : Result ⊤ Refusal) → a ≡ (execute_of s w t).answer → (step a (execute_of s w t) (run_of s ws (execute_of s w t).state)).ending.answer ≡ Ok tt → GoesOn ws vs (execute_of s w t).state →
          ((step a (execute_of s w t) (run_of s (ws ++ vs) (execute_of s w t).state)).ending ≡ (run_of s vs (step a (execute_of s w t) (run_of s ws (execute_of s w t).state)).ending.state).ending) ×
          ((step a (execute_of s w t) (run_of s (ws ++ vs) (execute_of s w t).state)).words ≡ (step a (execute_of s w t) (run_of s ws (execute_of s w t).state)).words + (run_of s vs (step a (execute_of s w t) (run_of s ws (execute_of s w t).state)).ending.state).words)
      go (Ok _) q e ih = let h = ih e in (h.0, omega (arith, h.1))
      go (Err r) q e ih = absurd (refused_not_done r (q ∙ e))

  run_stops : (ws vs : List ℕ) (t : State) (r : Refusal) → (run_of s ws t).ending.answer ≡ Err r → run_of s (ws ++ vs) t ≡ run_of s ws t
  unfolding run_of
  run_stops [] vs t r e = absurd (refused_not_done r (sym e))
  run_stops (w ∷ ws) vs t r e = go (execute_of s w t).answer e (run_stops ws vs (execute_of s w t).state r)
    where
      go : (a : Result ⊤ Refusal) → (step a (execute_of s w t) (run_of s ws (execute_of s w t).state)).ending.answer ≡ Err r → ((run_of s ws (execute_of s w t).state).ending.answer ≡ Err r → run_of s (ws ++ vs) (execute_of s w t).state ≡ run_of s ws (execute_of s w t).state) →
          step a (execute_of s w t) (run_of s (ws ++ vs) (execute_of s w t).state) ≡ step a (execute_of s w t) (run_of s ws (execute_of s w t).state)
      go (Ok _) e ih = ap one_more (ih e)
      go (Err r') e ih = refl

pub run_goes_on : RunGoesOn
run_goes_on s t = record { one = run_one s t; counted = run_counted s t; more = λ ws vs. run_more s ws vs t; stops = λ ws vs. run_stops s ws vs t }

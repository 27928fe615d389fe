-- The theorems about execution and runs, as statements; proofs/Claims.antt proves each.
-- Assumes nothing.
use Rattle.std.specs.Prelude.{ℕ, ◌+◌, ◌<◌, ◌≡◌, true, false, List, [], ◌∷◌, ◌++◌, length, get_or, Result, ⊤, Ok, Err}
use Rattle.general.specs.Places.{Places}
use Rattle.general.specs.Determined.{Determined, Met, IsOneOf}
use Rattle.settings.specs.Settings.{with_stack_check}
use Rattle.settings.specs.declared.Settings.{Settings}
use Rattle.encoding.specs.Codec.{decode_of}
use Rattle.encoding.specs.declared.operation.Operation.{Operation}
use Rattle.semantics.specs.declared.answer.Refusal.{Refusal}
use Rattle.semantics.specs.Answer.{executed_answer, executed_number}
use Rattle.semantics.specs.State.{State, Public, public_of}
use Rattle.semantics.specs.Effect.{writes_of, effect_of}
use Rattle.semantics.specs.Execute.{answer_of, if_done, execute_of}
use Rattle.semantics.specs.Operations.{Means}
use Rattle.semantics.specs.Lines.{answer_in_numbers}
use Rattle.semantics.specs.Promise.{Executes}
use Rattle.semantics.specs.Run.{run_of}

-- both definitions of the answer are the same
abbrev pub AnswersAgree : Type 0
AnswersAgree = (s : Settings) (w : ℕ) (u : Public) → executed_answer (answer_of s w u) ≡ answer_in_numbers s w u

-- What executing promises leaves nothing open, from the promise alone, whichever function meets it: one answer and one state, which with another
-- number than 0 is that of the start.
pub record ExecutesDetermine (s : Settings) (w : ℕ) (t : State) : Type 0 where
  pub met : Met (λ (o : Result ⊤ Refusal × State). Executes s w t o.0 o.1)
  pub determined : Determined (λ (o : Result ⊤ Refusal × State). Executes s w t o.0 o.1)
  pub refused : (r : Result ⊤ Refusal) (t' : State) → Executes s w t r t' → (executed_number r ≡ 0 → ⊥) → t' ≡ t

abbrev pub ExecutingDetermines : Type 0
ExecutingDetermines = (s : Settings) (w : ℕ) (t : State) → ExecutesDetermine s w t

-- whatever the answer, an execution leaves X and P as they were, and every buffer as long as it was
pub record Keeps (t t' : State) : Type 0 where
  pub x : t'.x ≡ t.x
  pub p : t'.p ≡ t.p
  pub z : length t'.z ≡ length t.z
  pub za : length t'.za ≡ length t.za
  pub memory : length t'.memory ≡ length t.memory

abbrev pub ExecutionKeeps : Type 0
ExecutionKeeps = (s : Settings) (w : ℕ) (t : State) → Keeps t (execute_of s w t).state

-- a word that is done does what its operation means, in the sentences of document 01; and these leave nothing open: no other state meets them, where X, P and
-- the lengths stay
abbrev pub IsDone : Settings → ℕ → State → Operation → Type 0
IsDone s w t o = (decode_of w s.level ≡ Ok o) × ((execute_of s w t).answer ≡ Ok tt)

abbrev pub OperationsMean : Type 0
OperationsMean = (s : Settings) (w : ℕ) (t : State) (o : Operation) → IsDone s w t o → Means s t (execute_of s w t).state o

abbrev pub OperationsSettle : Type 0
OperationsSettle =
    (s : Settings) (w : ℕ) (t t' : State) (o : Operation) → IsDone s w t o → Keeps t t' → Means s t t' o → t' ≡ (execute_of s w t).state

-- The switch of the stack check (request 4). With it off no call gets 6. Settings that differ in it alone give the same answer and the same buffers, unless
-- the one with it on gives 6; there the other is done, or gets 7.
pub record StackCheckSwitches (s : Settings) (w : ℕ) (t : State) : Type 0 where
  pub off : s.stack_check ≡ false → executed_number (execute_of s w t).answer ≡ 6 → ⊥
  pub same : (executed_number (execute_of (with_stack_check s true) w t).answer ≡ 6 → ⊥) → execute_of (with_stack_check s false) w t ≡ execute_of (with_stack_check s true) w t
  pub ordinary : executed_number (execute_of (with_stack_check s true) w t).answer ≡ 6 → IsOneOf (0 ∷ 7 ∷ []) (executed_number (execute_of (with_stack_check s false) w t).answer)

abbrev pub StackCheckSwitched : Type 0
StackCheckSwitched = (s : Settings) (w : ℕ) (t : State) → StackCheckSwitches s w t

-- i is none of the places that are written
abbrev pub Untouched : Places → ℕ → Type 0
Untouched q i = (k : ℕ) → k < q.count → q.on k ≡ true → i ≡ q.at k → ⊥

-- an operation leaves every byte of Z, ZA and memory that is none of its places
pub record LeavesOthers (s : Settings) (o : Operation) (t : State) : Type 0 where
  pub z : (i : ℕ) → Untouched (writes_of s (public_of t) o).z i → get_or (effect_of s o t).z i 0 ≡ get_or t.z i 0
  pub za : (i : ℕ) → Untouched (writes_of s (public_of t) o).za i → get_or (effect_of s o t).za i 0 ≡ get_or t.za i 0
  pub memory : (i : ℕ) → Untouched (writes_of s (public_of t) o).memory i → get_or (effect_of s o t).memory i 0 ≡ get_or t.memory i 0

abbrev pub EffectLeavesOthers : Type 0
EffectLeavesOthers = (s : Settings) (o : Operation) (t : State) → LeavesOthers s o t

-- a run of one word is its execution, and counts it if it is done; where some words are all done, more words go on from the state that they left; where they are not,
-- more words change nothing
pub record RunsGoOn (s : Settings) (t : State) : Type 0 where
  pub one : (w : ℕ) → (run_of s (w ∷ []) t).ending ≡ execute_of s w t
  pub counted : (w : ℕ) → (run_of s (w ∷ []) t).words ≡ if_done (execute_of s w t).answer 0 1
  pub more : (ws vs : List ℕ) → (run_of s ws t).ending.answer ≡ Ok tt →
      ((run_of s (ws ++ vs) t).ending ≡ (run_of s vs (run_of s ws t).ending.state).ending) ×
      ((run_of s (ws ++ vs) t).words ≡ (run_of s ws t).words + (run_of s vs (run_of s ws t).ending.state).words)
  pub stops : (ws vs : List ℕ) (r : Refusal) → (run_of s ws t).ending.answer ≡ Err r → run_of s (ws ++ vs) t ≡ run_of s ws t

abbrev pub RunGoesOn : Type 0
RunGoesOn = (s : Settings) (t : State) → RunsGoOn s t

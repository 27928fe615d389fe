-- What single steps of executing rely on and promise. Only contracts of inner functions cite these: nothing here has to be believed.
-- Assumes nothing.
use Rattle.std.specs.Prelude.{ℕ, ◌+◌, ◌≤◌, ◌^◌, ◌≡◌, true, List, length, Result, ⊤}
use Rattle.settings.specs.Settings.{valid_vectors, max_level, lengths_of}
use Rattle.settings.specs.declared.Settings.{Settings}
use Rattle.encoding.specs.declared.operation.Operation.{Operation}
use Rattle.semantics.specs.declared.answer.Refusal.{Refusal}
use Rattle.semantics.specs.State.{State, state_of}
use Rattle.semantics.specs.Effect.{effect_of}
use Rattle.semantics.specs.Execute.{operation_answer, if_done}

-- what a check of settings and lengths that finds nothing says; a function that is not lent a buffer takes it as of the right length
pub record Sized (s : Settings) (lx lz lp lza lm : ℕ) : Type 0 where
  pub vectors : valid_vectors s ≡ true
  pub level : s.level ≤ max_level
  pub x : lx ≡ (lengths_of s).x
  pub z : lz ≡ (lengths_of s).z
  pub p : lp ≡ (lengths_of s).p
  pub za : lza ≡ (lengths_of s).za
  pub memory : s.memory_address + lm ≤ 2 ^ 64

-- performing a decoded operation: the answer, and the state, whichever answer
pub record Performs (s : Settings) (o : Operation) (t : State) (r : Result ⊤ Refusal) (t' : State) : Type 0 where
  pub answer : r ≡ operation_answer s t.x t.p (length t.memory) o
  pub state : t' ≡ if_done r t (effect_of s o t)

-- an operation that cannot be refused and leaves memory alone, whatever memory holds
abbrev pub Moves : Settings → Operation → List ℕ → List ℕ → List ℕ → List ℕ → List ℕ → List ℕ → Type 0
Moves s o x z p za z' za' = (memory : List ℕ) → state_of x z' p za' memory ≡ effect_of s o (state_of x z p za memory)

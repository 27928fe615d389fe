-- What the functions of this crate promise.
-- Assumes nothing.
use Rattle.std.specs.Prelude.{◌≡◌, ℕ, ◌+◌, ◌*◌, ◌<◌, ◌≤◌, Bool, true, false, List, length, Option, Some, None, Result, ⊤, Ok, Err}
use Rattle.settings.specs.declared.Settings.{Settings}
use Rattle.tiles.specs.Element.{bytes_of}
use Rattle.tiles.specs.Predicate.{active}
use Rattle.encoding.specs.declared.operation.SliceAccess.{SliceAccess}
use Rattle.encoding.specs.Steps.{access_move}
use Rattle.semantics.specs.declared.answer.Refusal.{Refusal}
use Rattle.semantics.specs.State.{state_of}
use Rattle.semantics.specs.Steps.{Performs}
use Rattle.semantics.specs.Effect.{memory_byte, active_under}
use Rattle.semantics.specs.Execute.{access_active, access_answer}
use Rattle.access.specs.Window.{covered, Fits, Placed}
use Rattle.access.specs.declared.reach.Reach.{Reach}
use Rattle.access.specs.declared.reach.Reach.TheVariants.{Whole, Parts}
use Rattle.access.specs.declared.window.Window.{Window}

-- no number from `from` on, and below n, is `on`
abbrev pub NoneOn : (ℕ → Bool) → ℕ → ℕ → Type 0
NoneOn on from n = (k : ℕ) → from ≤ k → k < n → on k ≡ false

-- r is the first that is
pub record FirstAt (on : ℕ → Bool) (from n r : ℕ) : Type 0 where
  pub start : from ≤ r
  pub below : r < n
  pub holds : on r ≡ true
  pub passed : NoneOn on from r

-- the first number that is, if there is one
abbrev pub First : (ℕ → Bool) → ℕ → ℕ → Option ℕ → Type 0
First on from n (Some r) = FirstAt on from n r
First on from n None = NoneOn on from n

-- predicate bytes that are a load or store's of P: a bit for each byte of its vector
pub record Governs (s : Settings) (p : List ℕ) (o : SliceAccess) (governing : List ℕ) : Type 0 where
  pub bits : s.vector_bytes ≡ 8 * length governing
  pub active : (k : ℕ) → k < s.vector_bytes → active governing 0 (bytes_of o.slice.size) k ≡ active_under s p o.pg o.slice k

-- a window has every active byte of a load or store, each at its index of memory
pub record Covers (s : Settings) (x p : List ℕ) (lm : ℕ) (o : SliceAccess) (w : Window) : Type 0 where
  pub fits : Fits w s.vector_bytes lm
  pub placed : Placed w (memory_byte s x o)
  pub covers : (k : ℕ) → k < s.vector_bytes → access_active s x p lm o k ≡ true → covered w k ≡ true

-- where a load or store goes, or why it is refused
abbrev pub Reaches : Settings → List ℕ → List ℕ → ℕ → SliceAccess → Result Reach Refusal → Type 0
Reaches s x p lm o (Ok (Whole at)) =
    (access_answer s x p lm o ≡ Ok tt) × (at + s.vector_bytes ≤ lm) × ((k : ℕ) → k < s.vector_bytes → memory_byte s x o k ≡ at + k)
Reaches s x p lm o (Ok (Parts w)) = (access_answer s x p lm o ≡ Ok tt) × Covers s x p lm o w
Reaches s x p lm o (Err r) = Err r ≡ access_answer s x p lm o

-- a load or store, which leaves Z alone, whatever it holds: the answer, and the state, whichever answer
abbrev pub Accesses : Settings → Bool → SliceAccess → List ℕ → List ℕ → List ℕ → List ℕ → Result ⊤ Refusal → List ℕ → List ℕ → Type 0
Accesses s stores o x p za memory r za' memory' = (z : List ℕ) → Performs s (access_move stores o) (state_of x z p za memory) r (state_of x z p za' memory')

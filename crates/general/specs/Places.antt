-- Writes to a buffer as data: which places, apart from what they become. To believe: of the first `count` places those that are `on` are written,
-- one after another from place 0 on.
-- Assumes nothing.
use Rattle.std.specs.Prelude.{ℕ, ◌<◌, ◌≡◌, Bool, false, List}
use Rattle.general.specs.Scatter.{scatter, all}

-- place k is index `at k` of the buffer, and is written if `on k`
pub record Places : Type 0 where
  pub at : ℕ → ℕ
  pub on : ℕ → Bool
  pub count : ℕ

-- no place
abbrev pub nowhere : Places
nowhere = record { at = λ k. k; on = all; count = 0 }

-- a buffer with the places written: place k with `val k`
abbrev pub written : Places → (ℕ → ℕ) → List ℕ → List ℕ
written q val l = scatter q.at q.on val q.count l

-- none of the places is written
abbrev pub Idle : Places → Type 0
Idle q = (k : ℕ) → k < q.count → q.on k ≡ false

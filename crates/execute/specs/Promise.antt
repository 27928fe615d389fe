-- What the check of settings and lengths promises, and the steps of an array move.
-- Assumes nothing.
use Rattle.std.specs.Prelude.{ℕ, ◌+◌, ◌*◌, ◌/◌, ◌<◌, ◌≡◌, Bool, cond, List, [], get_or, Result, ⊤, Ok}
use Rattle.general.specs.Scatter.{scatter, all, zeros, onwards}
use Rattle.settings.specs.Answer.{answer_with, done, bad_settings, bad_lengths}
use Rattle.settings.specs.Settings.{valid_settings, stride_of}
use Rattle.settings.specs.declared.Settings.{Settings}
use Rattle.tiles.specs.Group.{group_of, group_at}
use Rattle.semantics.specs.declared.answer.Refusal.{Refusal}
use Rattle.semantics.specs.Answer.{executed_answer}
use Rattle.semantics.specs.Effect.{registers_byte}
use Rattle.semantics.specs.Execute.{valid_lengths, buffers_answer}

pub record ChecksBuffers (s : Settings) (lx lz lp lza lm : ℕ) (r : Result ⊤ Refusal) : Type 0 where
  pub equal : r ≡ buffers_answer s lx lz lp lza lm (Ok tt)
  pub numbers : executed_answer r ≡ cond (valid_settings s) (cond (valid_lengths s lx lz lp lza lm) (answer_with done []) (answer_with bad_lengths [])) (answer_with bad_settings [])

-- ---- an array move: of vectors that start stride_of s apart in both buffers

-- one vector is copied to a register, and zeroed if that is asked for
pub record TakesVector (s : Settings) (zeroes : Bool) (register vector : ℕ) (z za z' za' : List ℕ) : Type 0 where
  pub copied : z' ≡ scatter (onwards (register * stride_of s)) all (λ (k : ℕ). get_or za (vector * stride_of s + k) 0) s.vector_bytes z
  pub zeroed : za' ≡ cond zeroes (scatter (onwards (vector * stride_of s)) all zeros s.vector_bytes za) za

-- the vectors of a group of r
abbrev pub InGroup : ℕ → ℕ → List ℕ → Type 0
InGroup B r g = (v : ℕ) × (v < B / r) × (g ≡ group_of B r v)

-- the first n vectors of a group are copied to the registers from zd on, and zeroed if that is asked for
pub record GroupTaken (s : Settings) (zeroes : Bool) (zd : ℕ) (g : List ℕ) (z za : List ℕ) (n : ℕ) (z' za' : List ℕ) : Type 0 where
  pub copied : z' ≡ scatter (registers_byte s zd) all (λ (k : ℕ). get_or za (group_at (stride_of s) s.vector_bytes g k) 0) (n * s.vector_bytes) z
  pub zeroed : za' ≡ cond zeroes (scatter (group_at (stride_of s) s.vector_bytes g) all zeros (n * s.vector_bytes) za) za

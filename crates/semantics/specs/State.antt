-- The state that words run on, and the part of it that an answer may depend on. Renders 01 §2.
-- To believe: `Public` has no content of Z, ZA or memory.
-- Assumes nothing.
use Rattle.std.specs.Prelude.{ℕ, List, length}

-- five buffers: X in numbers, the others in bytes
pub record State : Type 0 where
  pub x : List ℕ
  pub z : List ℕ
  pub p : List ℕ
  pub za : List ℕ
  pub memory : List ℕ

abbrev pub state_of : List ℕ → List ℕ → List ℕ → List ℕ → List ℕ → State
state_of x z p za memory = record { x = x; z = z; p = p; za = za; memory = memory }

-- all that answers, and the places that a word writes, may depend on: X and P whole, of the others the length
pub record Public : Type 0 where
  pub x : List ℕ
  pub p : List ℕ
  pub z_length : ℕ
  pub za_length : ℕ
  pub memory_length : ℕ

abbrev pub public_of : State → Public
public_of t = record { x = t.x; p = t.p; z_length = length t.z; za_length = length t.za; memory_length = length t.memory }

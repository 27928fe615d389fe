-- A line that is put together in a buffer. To believe: bytes are put one after the other, and none past the buffer's end;
-- which bytes are a space and a newline.
-- Assumes nothing.
use Rattle.std.specs.Prelude.{ℕ, ◌+◌, min, ◌≡◌, List, [], ◌∷◌, length}
use Rattle.std.proofs.lemmas.List.Edits.{sets}
use Rattle.io.specs.Counts.{IsPrefixLen}

-- the bytes between and after texts
abbrev pub space : List ℕ
space = 32 ∷ []

abbrev pub newline : List ℕ
newline = 10 ∷ []

-- what putting bytes at a position promises: the buffer after it, and the position after the bytes
pub record Puts (before : List ℕ) (at : ℕ) (bytes after : List ℕ) (next : ℕ) : Type 0 where
  pub line : after ≡ sets before at bytes
  pub position : next ≡ min (at + length bytes) (length before)
  pub within : IsPrefixLen next after

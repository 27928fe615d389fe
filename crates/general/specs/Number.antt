-- Bytes as one number, the lowest first.
-- Assumes nothing.
use Rattle.std.specs.Prelude.{ℕ, zero, suc, ◌+◌, ◌*◌}

-- n bytes as one number, of which byte 0 is the lowest
unfoldable pub number : (ℕ → ℕ) → ℕ → ℕ
number b zero = 0
number b (suc n) = number (λ (i : ℕ). b (suc i)) n * 256 + b 0

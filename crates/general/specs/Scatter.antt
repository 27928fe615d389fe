-- Bytes of a buffer written at chosen places: every move, store and clear is an instance.
-- To believe: for each k below n that is `on`, the byte at place `at k` becomes `val k`, one after another from k = 0 on.
-- Assumes nothing.
use Rattle.std.specs.Prelude.{ℕ, zero, suc, ◌+◌, Bool, true, false, List, set}

-- l with v at index i where the test holds, else l
abbrev pub set_if : Bool → List ℕ → ℕ → ℕ → List ℕ
set_if true l i v = set l i v
set_if false l i v = l

unfoldable pub scatter : (ℕ → ℕ) → (ℕ → Bool) → (ℕ → ℕ) → ℕ → List ℕ → List ℕ
scatter at on val zero l = l
scatter at on val (suc k) l = set_if (on k) (scatter at on val k l) (at k) (val k)

-- every byte, zero, the bytes from a place on
abbrev pub all : ℕ → Bool
all k = true

abbrev pub zeros : ℕ → ℕ
zeros k = 0

abbrev pub onwards : ℕ → ℕ → ℕ
onwards base k = base + k

-- The first number that passes a test: the lowest faulting byte of a load or store, the lowest free tile. For any test.
-- Assumes nothing.
use Rattle.std.specs.Prelude.{ℕ, zero, suc, Bool, true, false, cond}
use Rattle.std.proofs.Math.Option.{Option, none, some}

abbrev pub or_else : Option ℕ → Option ℕ → Option ℕ
or_else (some k) o = some k
or_else none o = o

-- the least k below n that passes a test
unfoldable pub least : (ℕ → Bool) → ℕ → Option ℕ
least p zero = none
least p (suc n) = or_else (least p n) (cond (p n) (some n) none)

abbrev pub is_some : Option ℕ → Bool
is_some (some k) = true
is_some none = false

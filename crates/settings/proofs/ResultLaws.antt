-- Laws of specs/Results.antt: results that are put one after another fill a host's array.
-- Assumes nothing.
use Prim.Native.Nat.{ℕ, zero, suc, ◌<◌, ◌≤◌}
use mathlib.Core.Path.{◌≡◌, refl, ap, ◌∙◌}
use mathlib.Core.List.{List, [], ◌∷◌, ◌++◌}
use native.Mathlib.Nat.{not-suc-le-zero, le_of_suc-le-suc}
use lib.ListN.{length, get_or, set}
use Rattle.settings.specs.Results.{filled}
use Rattle.settings.specs.Claims.{ResultsFill}

-- one number more, put behind those that were
pub filled_more : (ns old : List ℕ) (n : ℕ) → set (filled ns old) (length ns) n ≡ filled (ns ++ n ∷ []) old
filled_more [] [] n = refl
filled_more [] (o ∷ old) n = refl
filled_more (m ∷ ns) [] n = refl
filled_more (m ∷ ns) (o ∷ old) n = ap (λ (l : List ℕ). m ∷ l) (filled_more ns old n)

-- the same of an array that is known to be filled so far
pub puts_more : (ns old : List ℕ) (n : ℕ) {once twice : List ℕ} → once ≡ filled ns old → twice ≡ set once (length ns) n → twice ≡ filled (ns ++ n ∷ []) old
puts_more ns old n e q = q ∙ ap (λ (l : List ℕ). set l (length ns) n) e ∙ filled_more ns old n

filled_long : (ns old : List ℕ) → length (filled ns old) ≡ length old
filled_long [] old = refl
filled_long (n ∷ ns) [] = refl
filled_long (n ∷ ns) (o ∷ old) = ap suc (filled_long ns old)

filled_written : (ns old : List ℕ) (i : ℕ) → i < length ns → i < length old → get_or (filled ns old) i 0 ≡ get_or ns i 0
filled_written [] old i h g = absurd (not-suc-le-zero h)
filled_written (n ∷ ns) [] i h g = absurd (not-suc-le-zero g)
filled_written (n ∷ ns) (o ∷ old) zero h g = refl
filled_written (n ∷ ns) (o ∷ old) (suc i) h g = filled_written ns old i (le_of_suc-le-suc h) (le_of_suc-le-suc g)

filled_behind : (ns old : List ℕ) (i : ℕ) → length ns ≤ i → get_or (filled ns old) i 0 ≡ get_or old i 0
filled_behind [] old i h = refl
filled_behind (n ∷ ns) [] i h = refl
filled_behind (n ∷ ns) (o ∷ old) zero h = absurd (not-suc-le-zero h)
filled_behind (n ∷ ns) (o ∷ old) (suc i) h = filled_behind ns old i (le_of_suc-le-suc h)

pub results_fill : ResultsFill
results_fill ns old = record { long = filled_long ns old; written = filled_written ns old; behind = filled_behind ns old }

-- Results as hosts get them: numbers in an array that the host lends, with as many places as it likes (docs/DECISIONS.md, 'sme_move').
-- To believe: each result stands in its place, and what has no place is not written.
-- Assumes nothing.
use Rattle.std.specs.Prelude.{ℕ, List, [], ◌∷◌}

-- numbers at the beginning of a host's array, as far as it has places for them; what is behind them stays
abbrev pub filled : List ℕ → List ℕ → List ℕ
filled [] old = old
filled (n ∷ ns) [] = []
filled (n ∷ ns) (o ∷ old) = n ∷ filled ns old

-- Laws of specs/Places.antt, for any places and values: what every effect has because it is data.
-- Assumes nothing.
use Prim.Native.Nat.{ℕ, zero, suc, ◌<◌}
use mathlib.Core.Path.{◌≡◌, refl}
use mathlib.Core.Bool.{true, false}
use mathlib.Core.List.{List}
use native.Mathlib.Omega.{arith}
use lib.ListN.{length, get_or}
use Rattle.general.specs.Scatter.{scatter}
use Rattle.general.specs.Places.{Places, written, Idle}
use Rattle.general.proofs.ScatterLaws.{length-scatter, get_or-scatter_other}

-- a buffer keeps its length
pub written_length : (q : Places) (val : ℕ → ℕ) (l : List ℕ) → length (written q val l) ≡ length l
written_length q val l = length-scatter q.at q.on val q.count l

-- where no place is written, nothing changes
pub written_idle : (q : Places) (val : ℕ → ℕ) (l : List ℕ) → Idle q → written q val l ≡ l
unfolding scatter
written_idle q val l h = go q.count h
  where
    go : (n : ℕ) → ((k : ℕ) → k < n → q.on k ≡ false) → scatter q.at q.on val n l ≡ l
    go zero h = refl
    go (suc n) h = rw (h n (omega arith)) (go n (λ k w. h k (omega arith)))

-- a byte that is none of the places that are written stays
pub written_other : (q : Places) (val : ℕ → ℕ) (l : List ℕ) (i : ℕ) → ((k : ℕ) → k < q.count → q.on k ≡ true → i ≡ q.at k → ⊥) → get_or (written q val l) i 0 ≡ get_or l i 0
written_other q val l i h = get_or-scatter_other q.at q.on val q.count l i h

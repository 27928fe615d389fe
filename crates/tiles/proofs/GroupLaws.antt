-- Bytes of several vectors, one after another: where those of specs/Group.antt lie, and what a write to r vectors that differ leaves at each byte.
-- Assumes nothing.
use mathlib.Core.Path.{◌≡◌, refl, sym, ap}
use mathlib.Core.List.{List}
use Prim.Native.Nat.{ℕ, zero, suc, ◌+◌, ◌*◌, ◌/◌, ◌%◌, ◌<◌, ◌≤◌}
use native.Mathlib.Nat.{mod-lt, div-lt_iff_lt-mul, div-add-mod'}
use native.Mathlib.Omega.{arith}
use lib.Arith.{digits_lt, digits_div, digits_mod}
use lib.ListN.{length, get_or}
use Rattle.general.specs.Scatter.{scatter, all}
use Rattle.general.proofs.ScatterLaws.{get_or-scatter, get_or-scatter_other}
use Rattle.tiles.specs.Group.{group_of, group_at}
use Rattle.tiles.proofs.TileLaws.{digits_same}

-- byte i of vector j of a group
pub group_at-vector : (S B : ℕ) (g : List ℕ) (j i : ℕ) → i < B → group_at S B g (j * B + i) ≡ get_or g j 0 * S + i
unfolding group_at
group_at-vector S B g j i h = rw (digits_div j h, digits_mod j h)

-- vector j of a group
pub group_at_lem : (B r v j : ℕ) → j < 4 → get_or (group_of B r v) j 0 ≡ v + j * (B / r)
group_at_lem B r v zero h = omega arith
group_at_lem B r v (suc zero) h = omega arith
group_at_lem B r v (suc (suc zero)) h = refl
group_at_lem B r v (suc (suc (suc zero))) h = refl
group_at_lem B r v (suc (suc (suc (suc j)))) h = absurd (omega arith)

-- r vectors that start S apart, of which f gives the numbers: byte k is byte k % B of vector k / B
module _ (S B r : ℕ) (some : 0 < B) (fit : B ≤ S) (f : ℕ → ℕ) (differ : (i j : ℕ) → i < r → j < r → f i ≡ f j → i ≡ j) (val : ℕ → ℕ) (l : List ℕ) where
  abbrev place : ℕ → ℕ
  place k = f (k / B) * S + k % B

  vector_below : (k : ℕ) → k < r * B → k / B < r
  vector_below k h = (div-lt_iff_lt-mul {k = B} {x = k} {y = r} some).1 h

  place_same : (i j : ℕ) → i < r * B → j < r * B → place i ≡ place j → i ≡ j
  place_same i j hi hj e =
      let a = mod-lt i some in
      let b = mod-lt j some in
      let d = digits_same S (f (i / B)) (i % B) (f (j / B)) (j % B) (omega arith) (omega arith) e in
      let v = differ (i / B) (j / B) (vector_below i hi) (vector_below j hj) d.0 in
      let q : i / B * B ≡ j / B * B = ap (λ (x : ℕ). x * B) v in
      omega (arith, div-add-mod' i B, div-add-mod' j B, d.1)

  -- a byte of one of the vectors
  pub vectors_at : (j k : ℕ) → j < r → k < B → f j * S + k < length l → get_or (scatter place all val (r * B) l) (f j * S + k) 0 ≡ val (j * B + k)
  vectors_at j k hj hk h =
      let w : j * B + k < r * B = digits_lt hj hk in
      let e : place (j * B + k) ≡ f j * S + k = rw (digits_div j hk, digits_mod j hk) in
      rw (← e) (get_or-scatter place all val (r * B) l (j * B + k) w (rw e h) (λ i v y ne q. ne (sym (place_same (j * B + k) i w v q))))

  -- any other byte
  pub vectors_other : (q : ℕ) → ((j k : ℕ) → j < r → k < B → q ≡ f j * S + k → ⊥) → get_or (scatter place all val (r * B) l) q 0 ≡ get_or l q 0
  vectors_other q h = get_or-scatter_other place all val (r * B) l q (λ k w y e. h (k / B) (k % B) (vector_below k w) (mod-lt k some) e)

-- No more than sixteen tiles share no byte: each has a part of its own, and there are sixteen.
-- Assumes nothing.
use Prim.Native.Nat.{ℕ, zero, suc, ◌+◌, ◌<◌, ◌≤◌}
use mathlib.Core.Path.{◌≡◌, refl}
use mathlib.Core.Bool.{Bool, true, false, cond, not, ◌||◌}
use mathlib.Core.List.{List, [], ◌∷◌}
use native.Mathlib.Decide.{ℕ_discrete}
use native.Mathlib.Omega.{arith}
use lib.ListN.{length}
use lib.Seq.{length-take-le}
use borrow.Author.Tests.{eqb-true, eq-eqb, not-true}
use Rattle.general.proofs.BoolLaws.{and_parts, refute, clash}
use Rattle.planner.specs.Tile.{is_tile, covers, shares, is_free, is_valid}
use Rattle.planner.specs.Held.{held_tiles, valid_held}
use Rattle.planner.specs.declared.tile.Tile.{Tile}
use Rattle.planner.specs.declared.held.Held.{Held}
use Rattle.planner.proofs.SizeLaws.{size_range}
use Rattle.planner.proofs.TileLaws.{Exists, tile_exists, covers_own, shares_disjoint}
use Rattle.planner.proofs.HeldLaws.{valid_head, valid_cons, valid_held_lem}

-- ---- counting

-- how many k below n pass a test
unfoldable count_below : ℕ → (ℕ → Bool) → ℕ
count_below zero f = 0
count_below (suc n) f = cond (f n) 1 0 + count_below n f

count_within : (n : ℕ) (f : ℕ → Bool) → count_below n f ≤ n
unfolding count_below
count_within zero f = omega arith
count_within (suc n) f = go (f n) (count_within n f)
  where
    go : (b : Bool) → count_below n f ≤ n → cond b 1 0 + count_below n f ≤ suc n
    go true h = omega arith
    go false h = omega arith

-- tests that never pass together
count_or : (n : ℕ) (f g : ℕ → Bool) → ((k : ℕ) → f k ≡ true → g k ≡ false) → count_below n (λ k. f k || g k) ≡ count_below n f + count_below n g
unfolding count_below
count_or zero f g h = refl
count_or (suc n) f g h = go (f n) (g n) (h n) (count_or n f g h)
  where
    go : (a b : Bool) → (a ≡ true → b ≡ false) → count_below n (λ k. f k || g k) ≡ count_below n f + count_below n g →
        cond (a || b) 1 0 + count_below n (λ k. f k || g k) ≡ (cond a 1 0 + count_below n f) + (cond b 1 0 + count_below n g)
    go true true d e = absurd (clash true refl (d refl))
    go true false d e = omega arith
    go false true d e = omega arith
    go false false d e = omega arith

-- a number that passes counts
count_some : (n : ℕ) (f : ℕ → Bool) (k : ℕ) → k < n → f k ≡ true → 0 < count_below n f
unfolding count_below
count_some zero f k w e = absurd (omega arith)
count_some (suc n) f k w e = go (ℕ_discrete k n) (λ v. count_some n f k v e)
  where
    go : Dec (k ≡ n) → (k < n → 0 < count_below n f) → 0 < cond (f n) 1 0 + count_below n f
    go (yes q) ih = rw (← q, e) (omega arith)
    go (no q) ih = omega (arith, ih (omega arith))

-- ---- parts of held tiles

-- part r is a held tile's
unfoldable is_covered : List Tile → ℕ → Bool
is_covered [] r = false
is_covered (x ∷ xs) r = covers x r || is_covered xs r

-- no part of a free tile is a held one's
free_uncovered : (xs : List Tile) (x : Tile) → Exists x → is_valid xs ≡ true → is_free xs x ≡ true → (r : ℕ) → covers x r ≡ true → is_covered xs r ≡ false
unfolding is_free is_covered
free_uncovered [] x px v e r c = refl
free_uncovered (y ∷ ys) x px v e r c =
    let w = valid_head y ys v in
    let p = and_parts (not (shares x y)) (is_free ys x) e in
    rw (refute (covers y r) (λ d. shares_disjoint x y px (tile_exists y w.0) (not-true _ p.0) r (eqb-true _ _ c) (eqb-true _ _ d)))
    (free_uncovered ys x px w.2 p.1 r c)

each_has_part : (l : List Tile) → is_valid l ≡ true → length l ≤ count_below 16 (is_covered l)
unfolding is_covered
each_has_part [] v = omega arith
each_has_part (x ∷ xs) v =
    let w = valid_head x xs v in
    let px = tile_exists x w.0 in
    omega (
      arith,
      count_or 16 (covers x) (is_covered xs) (free_uncovered xs x px w.2 w.1),
      count_some 16 (covers x) x.number (omega (arith, px.below, (size_range x.bytes px.size).1)) (eq-eqb _ _ (covers_own x px)),
      each_has_part xs w.2,
    )

-- where a tile is free, fewer than sixteen are held
pub room_left : (l : List Tile) (x : Tile) → is_valid l ≡ true → is_tile x ≡ true → is_free l x ≡ true → length l < 16
room_left l x v t f = omega (arith, each_has_part (x ∷ l) (valid_cons x l t f v), count_within 16 (is_covered (x ∷ l)))

pub room_for : (h : Held) (x : Tile) → length h.tiles ≡ 16 → valid_held h ≡ true → is_tile x ≡ true → is_free (held_tiles h) x ≡ true → h.count < 16
room_for h x e v t f =
    let p = valid_held_lem h v in
    omega (arith, room_left (held_tiles h) x p.list t f, length-take-le h.count h.tiles (omega (arith, p.few)))

-- Laws of lists of tiles by place, with a tile more and with one less.
-- Assumes nothing.
use Prim.Native.Nat.{ℕ, zero, suc, ◌<◌}
use mathlib.Core.Path.{◌≡◌, refl, sym, ap, subst, ◌∙◌}
use mathlib.Core.Bool.{Bool, true, false, cond, not, ◌||◌}
use mathlib.Core.List.{List, [], ◌∷◌, ◌++◌}
use mathlib.Core.Logic.{◌⊎◌, inl, inr}
use native.Mathlib.Omega.{arith}
use lib.ListN.{length}
use borrow.Author.Tests.{not-true}
use Rattle.general.proofs.BoolLaws.{and_parts, by_test, refute, clash, or_right}
use Rattle.planner.specs.Tile.{is_tile, shares, is_free, is_valid, is_same, is_among, without}
use Rattle.planner.specs.Bytes.{tile_at}
use Rattle.planner.specs.declared.tile.Tile.{Tile}
use Rattle.planner.proofs.TileLaws.{Exists, tile_exists, shares_sym, shares_own, same_is, same_own}
use Rattle.planner.proofs.HeldLaws.{valid_head, valid_cons}
use Rattle.planner.proofs.RoomLaws.{unheld_same}

-- ---- free tiles

free_head : (y : Tile) (ys : List Tile) (x : Tile) → is_free (y ∷ ys) x ≡ true → (shares x y ≡ false) × (is_free ys x ≡ true)
unfolding is_free
free_head y ys x e = let p = and_parts (not (shares x y)) (is_free ys x) e in (not-true _ p.0, p.1)

free_cons : (y : Tile) (ys : List Tile) (x : Tile) → shares x y ≡ false → is_free ys x ≡ true → is_free (y ∷ ys) x ≡ true
unfolding is_free
free_cons y ys x p q = rw (p, q)

-- a free tile shares no part with the tile at any place
pub free_at : (l : List Tile) (x : Tile) → is_free l x ≡ true → (k : ℕ) → k < length l → shares x (tile_at l k) ≡ false
free_at [] x e k w = absurd (omega arith)
free_at (y ∷ ys) x e zero w = (free_head y ys x e).0
free_at (y ∷ ys) x e (suc k) w = free_at ys x (free_head y ys x e).1 k (omega arith)

pub free_all : (l : List Tile) (x : Tile) → ((k : ℕ) → k < length l → shares x (tile_at l k) ≡ false) → is_free l x ≡ true
unfolding is_free
free_all [] x h = refl
free_all (y ∷ ys) x h = rw (h 0 (omega arith)) (free_all ys x (λ k w. h (suc k) (omega arith)))

-- a tile that is not free shares a part with the tile at some place
pub record Met (l : List Tile) (x : Tile) : Type 0 where
  pub place : ℕ
  pub within : place < length l
  pub meets : shares x (tile_at l place) ≡ true

pub free_not : (l : List Tile) (x : Tile) → is_free l x ≡ false → Met l x
unfolding is_free
free_not [] x e = absurd (clash true refl e)
free_not (y ∷ ys) x e = go (by_test (shares x y)) (λ h. free_not ys x h)
  where
    go : (shares x y ≡ true) ⊎ (shares x y ≡ false) → (is_free ys x ≡ false → Met ys x) → Met (y ∷ ys) x
    go (inl p) ih = record { place = 0; within = omega arith; meets = p }
    go (inr p) ih = let m = ih (rw p at e) in record { place = suc m.place; within = omega (arith, m.within); meets = m.meets }

-- ---- valid lists

pub valid_exist : (l : List Tile) → is_valid l ≡ true → (k : ℕ) → k < length l → is_tile (tile_at l k) ≡ true
valid_exist [] v k w = absurd (omega arith)
valid_exist (x ∷ xs) v zero w = (valid_head x xs v).0
valid_exist (x ∷ xs) v (suc k) w = valid_exist xs (valid_head x xs v).2 k (omega arith)

pub valid_differ : (l : List Tile) → is_valid l ≡ true → (j k : ℕ) → j < k → k < length l → shares (tile_at l j) (tile_at l k) ≡ false
valid_differ [] v j k u w = absurd (omega arith)
valid_differ (x ∷ xs) v j zero u w = absurd (omega arith)
valid_differ (x ∷ xs) v zero (suc k) u w = free_at xs x (valid_head x xs v).1 k (omega arith)
valid_differ (x ∷ xs) v (suc j) (suc k) u w = valid_differ xs (valid_head x xs v).2 j k (omega arith) (omega arith)

pub valid_all : (l : List Tile) → ((k : ℕ) → k < length l → is_tile (tile_at l k) ≡ true) → ((j k : ℕ) → j < k → k < length l → shares (tile_at l j) (tile_at l k) ≡ false) → is_valid l ≡ true
unfolding is_valid
valid_all [] e d = refl
valid_all (x ∷ xs) e d =
    valid_cons x xs (e 0 (omega arith)) (free_all xs x (λ k w. d 0 (suc k) (omega arith) (omega arith)))
    (valid_all xs (λ k w. e (suc k) (omega arith)) (λ j k u w. d (suc j) (suc k) (omega arith) (omega arith)))

-- ---- one tile more

free_last : (l : List Tile) (x y : Tile) → is_free l y ≡ true → shares y x ≡ false → is_free (l ++ (x ∷ [])) y ≡ true
unfolding is_free
free_last [] x y e s = rw s
free_last (z ∷ zs) x y e s = let p = free_head z zs y e in free_cons z (zs ++ (x ∷ [])) y p.0 (free_last zs x y p.1 s)

pub valid_last : (l : List Tile) (x : Tile) → is_valid l ≡ true → is_tile x ≡ true → is_free l x ≡ true → is_valid (l ++ (x ∷ [])) ≡ true
unfolding is_free is_valid
valid_last [] x v t f = valid_cons x [] t refl refl
valid_last (y ∷ ys) x v t f =
    let w = valid_head y ys v in
    let p = free_head y ys x f in
    valid_cons y (ys ++ (x ∷ [])) w.0
    (free_last ys x y w.1 (sym (shares_sym x y (tile_exists x t) (tile_exists y w.0)) ∙ p.0))
    (valid_last ys x w.2 t p.1)

-- ---- the tile itself

pub among_last : (l : List Tile) (x : Tile) → is_among (l ++ (x ∷ [])) x ≡ true
unfolding is_among
among_last [] x = rw (same_own x)
among_last (y ∷ ys) x = or_right (is_same y x) _ (among_last ys x)

pub among_at : (l : List Tile) (k : ℕ) → k < length l → is_among l (tile_at l k) ≡ true
unfolding is_among
among_at [] k w = absurd (omega arith)
among_at (y ∷ ys) zero w = rw (same_own y)
among_at (y ∷ ys) (suc k) w = or_right (is_same y (tile_at ys k)) _ (among_at ys k (omega arith))

-- a tile among others is one of them, so it is not free beside them
among_exists : (l : List Tile) (x : Tile) → is_valid l ≡ true → is_among l x ≡ true → is_tile x ≡ true
unfolding is_among
among_exists [] x v e = absurd (clash false e refl)
among_exists (y ∷ ys) x v e = go (by_test (is_same y x)) (λ h. among_exists ys x (valid_head y ys v).2 h)
  where
    go : (is_same y x ≡ true) ⊎ (is_same y x ≡ false) → (is_among ys x ≡ true → is_tile x ≡ true) → is_tile x ≡ true
    go (inl p) ih = subst (λ (z : Tile). is_tile z ≡ true) (same_is y x p) (valid_head y ys v).0
    go (inr p) ih = ih (rw p at e)

pub among_tile : (l : List Tile) (x : Tile) → is_valid l ≡ true → is_among l x ≡ true → Exists x
among_tile l x v e = tile_exists x (among_exists l x v e)

-- what shares no part with those of a list shares none with one among them
free_among : (l : List Tile) (y x : Tile) → is_free l y ≡ true → is_among l x ≡ true → shares y x ≡ false
unfolding is_among
free_among [] y x f e = absurd (clash false e refl)
free_among (z ∷ zs) y x f e = go (by_test (is_same z x)) (λ h. free_among zs y x (free_head z zs y f).1 h)
  where
    go : (is_same z x ≡ true) ⊎ (is_same z x ≡ false) → (is_among zs x ≡ true → shares y x ≡ false) → shares y x ≡ false
    go (inl p) ih = subst (λ (w : Tile). shares y w ≡ false) (same_is z x p) (free_head z zs y f).0
    go (inr p) ih = ih (rw p at e)

pub free_unheld : (l : List Tile) (x : Tile) → Exists x → is_free l x ≡ true → is_among l x ≡ false
free_unheld l x p f = refute (is_among l x) (λ e. clash (shares x x) (shares_own x p) (free_among l x x f e))

-- ---- one tile less

-- a list parted at a tile
pub record Parted (l : List Tile) (x : Tile) : Type 0 where
  pub before : List Tile
  pub after : List Tile
  pub was : l ≡ before ++ (x ∷ after)
  pub is : without l x ≡ before ++ after

pub without_parts : (l : List Tile) (x : Tile) → is_valid l ≡ true → is_among l x ≡ true → Parted l x
unfolding is_among without
without_parts [] x v e = absurd (clash false e refl)
without_parts (y ∷ ys) x v e = go (is_same y x) refl e (λ h. without_parts ys x (valid_head y ys v).2 h)
  where
    -- the tiles after it are others
    others : x ≡ y → without ys x ≡ ys
    others q =
        let w = valid_head y ys v in
        ap (without ys) q ∙ unheld_same ys y (free_unheld ys y (tile_exists y w.0) w.1)

    go : (b : Bool) → is_same y x ≡ b → b || is_among ys x ≡ true → (is_among ys x ≡ true → Parted ys x) → Parted (y ∷ ys) x
    go true q e ih =
        let z = same_is y x q in
        record { before = []; after = ys; was = ap (λ k. k ∷ ys) z; is = rw q (others (sym z)) }
    go false q e ih =
        let p = ih e in
        record { before = y ∷ p.before; after = p.after; was = ap (λ k. y ∷ k) p.was; is = rw q (ap (λ k. y ∷ k) p.is) }

free_without : (l : List Tile) (x y : Tile) → is_free l y ≡ true → is_free (without l x) y ≡ true
unfolding without
free_without [] x y f = f
free_without (z ∷ zs) x y f = go (is_same z x) (free_without zs x y (free_head z zs y f).1)
  where
    go : (b : Bool) → is_free (without zs x) y ≡ true → is_free (cond b (without zs x) (z ∷ without zs x)) y ≡ true
    go true h = h
    go false h = free_cons z (without zs x) y (free_head z zs y f).0 h

pub valid_without : (l : List Tile) (x : Tile) → is_valid l ≡ true → is_valid (without l x) ≡ true
unfolding without
valid_without [] x v = v
valid_without (y ∷ ys) x v = go (is_same y x) (valid_head y ys v) (valid_without ys x (valid_head y ys v).2)
  where
    go : (b : Bool) → (is_tile y ≡ true) × (is_free ys y ≡ true) × (is_valid ys ≡ true) → is_valid (without ys x) ≡ true → is_valid (cond b (without ys x) (y ∷ without ys x)) ≡ true
    go true w h = h
    go false w h = valid_cons y (without ys x) w.0 (free_without ys x y w.1) h

-- the tile that is gone is free
pub free_again : (l : List Tile) (x : Tile) → is_valid l ≡ true → is_among l x ≡ true → is_free (without l x) x ≡ true
unfolding is_among without
free_again [] x v e = absurd (clash false e refl)
free_again (y ∷ ys) x v e = go (is_same y x) refl e (λ h. free_again ys x w.2 h)
  where
    w : (is_tile y ≡ true) × (is_free ys y ≡ true) × (is_valid ys ≡ true)
    w = valid_head y ys v

    go : (b : Bool) → is_same y x ≡ b → b || is_among ys x ≡ true → (is_among ys x ≡ true → is_free (without ys x) x ≡ true) →
        is_free (cond b (without ys x) (y ∷ without ys x)) x ≡ true
    go true q e ih = free_without ys x x (subst (λ (z : Tile). is_free ys z ≡ true) (same_is y x q) w.1)
    go false q e ih =
        free_cons y (without ys x) x
        (shares_sym x y (among_tile ys x w.2 e) (tile_exists y w.0) ∙ free_among ys y x w.1 e)
        (ih e)

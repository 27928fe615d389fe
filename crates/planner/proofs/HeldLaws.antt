-- Laws of lists of held tiles: free tiles, valid lists, and the list that a record holds.
-- Assumes nothing.
use Prim.Native.Nat.{ℕ, zero, suc, ◌+◌, ◌-◌, ◌<◌, ◌≤◌}
use mathlib.Core.Path.{◌≡◌, refl, sym, ap, ◌∙◌}
use mathlib.Core.Bool.{Bool, true, false, not, ◌&&◌, ◌||◌}
use mathlib.Core.List.{List, [], ◌∷◌}
use native.Mathlib.Omega.{arith}
use native.Mathlib.Numerals.{add-one}
use lib.Dec.{leb}
use lib.Seq.{take_all}
use Rattle.std.proofs.Common.{All}
use Rattle.std.specs.List.{list_any}
use lib.ListN.{length, get_or, take, drop, length-drop}
use lib.Seq.{drop-cons, drop-drop, drop-length, get_or-take, length-take-le}
use borrow.Author.Tests.{leb-true}
use Rattle.general.proofs.BoolLaws.{and_parts, refute, clash}
use Rattle.planner.specs.Tile.{no_tile, is_tile, shares, is_free, is_valid}
use Rattle.planner.specs.Held.{held_tiles, valid_held}
use Rattle.planner.specs.declared.tile.Tile.{Tile}
use Rattle.planner.specs.declared.held.Held.{Held}

-- ---- free tiles

-- a tile is free where no test of the others shows a byte that both have
pub free_any : (l : List Tile) (x : Tile) → not (list_any (shares x) l) ≡ is_free l x
unfolding is_free
free_any [] x = refl
free_any (y ∷ ys) x = go (shares x y) (free_any ys x)
  where
    go : (b : Bool) → not (list_any (shares x) ys) ≡ is_free ys x → not (b || list_any (shares x) ys) ≡ not b && is_free ys x
    go true e = refl
    go false e = e

-- ---- valid lists

pub valid_head : (x : Tile) (xs : List Tile) → is_valid (x ∷ xs) ≡ true → (is_tile x ≡ true) × (is_free xs x ≡ true) × (is_valid xs ≡ true)
unfolding is_valid
valid_head x xs e =
    let p = and_parts (is_tile x && is_free xs x) (is_valid xs) e in
    let q = and_parts (is_tile x) (is_free xs x) p.0 in
    (q.0, q.1, p.1)

pub valid_cons : (x : Tile) (xs : List Tile) → is_tile x ≡ true → is_free xs x ≡ true → is_valid xs ≡ true → is_valid (x ∷ xs) ≡ true
unfolding is_valid
valid_cons x xs p q r = rw (p, q, r)

valid_drop : (i : ℕ) (l : List Tile) → is_valid l ≡ true → is_valid (drop i l) ≡ true
valid_drop zero l e = e
valid_drop (suc i) [] e = e
valid_drop (suc i) (x ∷ xs) e = valid_drop i xs (valid_head x xs e).2

-- every tile of a valid list exists
pub valid_exists : (l : List Tile) → is_valid l ≡ true → All (λ y. is_tile y ≡ true) l
valid_exists [] e k d w = absurd (omega arith)
valid_exists (x ∷ xs) e zero d w = (valid_head x xs e).0
valid_exists (x ∷ xs) e (suc k) d w = valid_exists xs (valid_head x xs e).2 k d (omega arith)

-- after the last tile there is none
pub nothing_valid : (ts : List Tile) → is_valid (drop (length ts) ts) ≡ true
unfolding is_valid
nothing_valid ts = rw (drop-length ts)

-- ---- at place i, with j the place after it

module _ (ts : List Tile) (i j : ℕ) (s : i + 1 ≡ j) (w : i < length ts) where
  -- the tile there, then those after it
  held_step : drop i ts ≡ get_or ts i no_tile ∷ drop j ts
  held_step = drop-cons ts i no_tile w ∙ rw (← s, add-one i)

  -- those after it, as code lends them
  abbrev pub others : List Tile
  others = take (length ts - (i + 1)) (drop (i + 1) ts)

  pub others_lem : others ≡ drop j ts
  others_lem = take_all (length ts - (i + 1)) (drop (i + 1) ts) (omega (arith, length-drop (i + 1) ts)) ∙ ap (λ (k : ℕ). drop k ts) s

  pub valid_back : is_tile (get_or ts i no_tile) ≡ true → is_free others (get_or ts i no_tile) ≡ true → is_valid (drop j ts) ≡ true → is_valid (drop i ts) ≡ true
  valid_back p q r = rw held_step (valid_cons _ _ p (rw others_lem at q) r)

  valid_at : is_valid (drop i ts) ≡ true → (is_tile (get_or ts i no_tile) ≡ true) × (is_free (drop j ts) (get_or ts i no_tile) ≡ true)
  valid_at e = let p = valid_head _ _ (rw held_step at e) in (p.0, p.1)

  pub invalid_tile : is_tile (get_or ts i no_tile) ≡ false → is_valid ts ≡ false
  invalid_tile e = refute _ (λ v. clash _ (valid_at (valid_drop i ts v)).0 e)

  pub invalid_shared : is_free others (get_or ts i no_tile) ≡ false → is_valid ts ≡ false
  invalid_shared e = refute _ (λ v. clash _ (valid_at (valid_drop i ts v)).1 (rw others_lem at e))

-- every tile of a valid list exists
pub valid_tiles : (ts : List Tile) (n i j : ℕ) → is_valid (drop i (take n ts)) ≡ true → i ≤ j → j < n → n ≤ length ts → is_tile (get_or ts j no_tile) ≡ true
valid_tiles ts n i j e ij jn h =
    let s : i + (j - i) ≡ j = omega arith in
    let d : drop (j - i) (drop i (take n ts)) ≡ drop j (take n ts) = drop-drop (j - i) i (take n ts) ∙ ap (λ (k : ℕ). drop k (take n ts)) s in
    ap is_tile (sym (get_or-take n ts j no_tile jn))
    ∙ (valid_at (take n ts) j (j + 1) refl (rw (length-take-le n ts h) jn) (rw d at (valid_drop (j - i) (drop i (take n ts)) e))).0

-- ---- records

pub record Valid (h : Held) : Type 0 where
  pub few : h.count ≤ 16
  pub list : is_valid (held_tiles h) ≡ true

pub valid_held_lem : (h : Held) → valid_held h ≡ true → Valid h
valid_held_lem h v = let p = and_parts (leb h.count 16) (is_valid (held_tiles h)) v in record { few = leb-true _ _ p.0; list = p.1 }

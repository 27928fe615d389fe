-- Laws of taking a tile and of giving one up (specs/Held.antt).
-- Assumes nothing.
use Prim.Native.Nat.{ℕ, suc, ◌+◌, ◌-◌, ◌<◌, ◌≤◌}
use mathlib.Core.Path.{◌≡◌, refl, sym, ap, ◌∙◌}
use mathlib.Core.Bool.{Bool, true, false, cond, not, ◌&&◌, ◌||◌}
use mathlib.Core.List.{List, [], ◌∷◌, ◌++◌, append_assoc}
use mathlib.Core.Option.{Option, some, none}
use mathlib.Core.Logic.{◌⊎◌, inl, inr}
use native.Mathlib.Omega.{arith}
use native.Mathlib.Numerals.{add-one}
use lib.ListN.{length, length-append, get_or, take, set, replicate}
use lib.Seq.{take_all, take-suc, length-take-le, set-append_seam}
use Rattle.std.proofs.Common.{Result, Ok, Err}
use Rattle.general.specs.Least.{is_some}
use Rattle.settings.specs.Answer.{done, out_of_range, no_free_tile, bad_held}
use Rattle.general.proofs.BoolLaws.{refute, clash, by_test}
use Rattle.planner.specs.Tile.{no_tile, is_size, is_same, is_among, without, lowest_free}
use Rattle.planner.specs.Held.{answer_number, held_tiles, valid_held, joined, taken, take_of, TakesOne, held_from, give_up_of, GivesUpOne}
use Rattle.planner.specs.declared.tile.Tile.{Tile}
use Rattle.planner.specs.declared.held.Held.{Held}
use Rattle.planner.specs.declared.answer.Taken.{Taken}
use Rattle.planner.specs.declared.answer.TileRefusal.{TileRefusal}
use Rattle.planner.specs.declared.answer.TileRefusal.TheVariants.{BadSize, BadHeld, NoFreeTile}

-- ---- taking

module _ (h : Held) (m : ℕ) where
  pub take_size : is_size m ≡ false → take_of h m ≡ Err BadSize
  unfolding take_of
  take_size e = ap (λ b. cond b (cond (valid_held h) (taken h m (lowest_free (held_tiles h) m)) (Err BadHeld)) (Err BadSize)) e

  -- by whether the held tiles are valid
  by_held : is_size m ≡ true → take_of h m ≡ cond (valid_held h) (taken h m (lowest_free (held_tiles h) m)) (Err BadHeld)
  unfolding take_of
  by_held e = ap (λ b. cond b (cond (valid_held h) (taken h m (lowest_free (held_tiles h) m)) (Err BadHeld)) (Err BadSize)) e

  pub take_held : is_size m ≡ true → valid_held h ≡ false → take_of h m ≡ Err BadHeld
  take_held e v = by_held e ∙ ap (λ b. cond b (taken h m (lowest_free (held_tiles h) m)) (Err BadHeld)) v

  by_search : is_size m ≡ true → valid_held h ≡ true → take_of h m ≡ taken h m (lowest_free (held_tiles h) m)
  by_search e v = by_held e ∙ ap (λ b. cond b (taken h m (lowest_free (held_tiles h) m)) (Err BadHeld)) v

  pub take_none : is_size m ≡ true → valid_held h ≡ true → lowest_free (held_tiles h) m ≡ none → take_of h m ≡ Err NoFreeTile
  take_none e v n = by_search e v ∙ ap (taken h m) n

  pub take_some : (t : ℕ) → is_size m ≡ true → valid_held h ≡ true → lowest_free (held_tiles h) m ≡ some t → take_of h m ≡ taken h m (some t)
  take_some t e v n = by_search e v ∙ ap (taken h m) n

  -- what taking gives has the number of its order
  pub takes_one : (r : Result Taken TileRefusal) → r ≡ take_of h m → TakesOne h m r
  unfolding take_of
  takes_one r e = record { equal = e; number = ap (λ (r : Result Taken TileRefusal). answer_number r) e ∙ go (is_size m) (valid_held h) (lowest_free (held_tiles h) m) }
    where
      go : (a b : Bool) (o : Option ℕ) → answer_number (cond a (cond b (taken h m o) (Err BadHeld)) (Err BadSize)) ≡ cond (not a) out_of_range (cond (not b) bad_held (cond (is_some o) done no_free_tile))
      go true true (some t) = refl
      go true true none = refl
      go true false o = refl
      go false b o = refl

-- the same for giving up
pub gives_up_one : (h : Held) (x : Tile) (r : Result Held TileRefusal) → r ≡ give_up_of h x → GivesUpOne h x r
unfolding give_up_of
gives_up_one h x r e = record { equal = e; number = ap (λ (r : Result Held TileRefusal). answer_number r) e ∙ go (valid_held h && is_among (held_tiles h) x) }
  where
    go : (b : Bool) → answer_number (cond b (Ok (held_from (without (held_tiles h) x))) (Err BadHeld)) ≡ cond b done bad_held
    go true = refl
    go false = refl

-- ---- lists without a tile

pub without_last : (l : List Tile) (y x : Tile) → without (l ++ (y ∷ [])) x ≡ cond (is_same y x) (without l x) (without l x ++ (y ∷ []))
unfolding without
without_last [] y x = refl
without_last (z ∷ zs) y x = go (is_same z x) (is_same y x) (without_last zs y x)
  where
    go : (a b : Bool) → without (zs ++ (y ∷ [])) x ≡ cond b (without zs x) (without zs x ++ (y ∷ [])) →
        cond a (without (zs ++ (y ∷ [])) x) (z ∷ without (zs ++ (y ∷ [])) x) ≡
        cond b (cond a (without zs x) (z ∷ without zs x)) (cond a (without zs x) (z ∷ without zs x) ++ (y ∷ []))
    go true true e = e
    go true false e = e
    go false true e = ap (λ k. z ∷ k) e
    go false false e = ap (λ k. z ∷ k) e

pub without_length : (l : List Tile) (x : Tile) → length (without l x) ≤ length l
unfolding without
without_length [] x = omega arith
without_length (y ∷ ys) x = go (is_same y x) (without_length ys x)
  where
    go : (b : Bool) → length (without ys x) ≤ length ys → length (cond b (without ys x) (y ∷ without ys x)) ≤ suc (length ys)
    go true e = omega arith
    go false e = omega arith

-- a tile that is among them goes
among_shorter : (l : List Tile) (x : Tile) → is_among l x ≡ true → length (without l x) < length l
unfolding is_among without
among_shorter [] x e = absurd (clash false e refl)
among_shorter (y ∷ ys) x e = go (is_same y x) e (λ h. among_shorter ys x h)
  where
    go : (b : Bool) → b || is_among ys x ≡ true → (is_among ys x ≡ true → length (without ys x) < length ys) →
        length (cond b (without ys x) (y ∷ without ys x)) < suc (length ys)
    go true e ih = omega (arith, without_length ys x)
    go false e ih = omega (arith, ih e)

-- where it is not, all stay
pub unheld_same : (l : List Tile) (x : Tile) → is_among l x ≡ false → without l x ≡ l
unfolding is_among without
unheld_same [] x e = refl
unheld_same (y ∷ ys) x e = go (is_same y x) e (λ h. unheld_same ys x h)
  where
    go : (b : Bool) → b || is_among ys x ≡ false → (is_among ys x ≡ false → without ys x ≡ ys) → cond b (without ys x) (y ∷ without ys x) ≡ y ∷ ys
    go true e ih = absurd (clash true refl e)
    go false e ih = ap (λ k. y ∷ k) (ih e)

-- ---- the loop of giving up

-- one tile more in a record
pub joined_from : (l : List Tile) (y : Tile) → length l < 16 → joined (held_from l) y ≡ held_from (l ++ (y ∷ []))
joined_from l y w = λ i. record { tiles = tiles_eq i; count = count_eq i }
  where
    place : (k : ℕ) → k < 16 → replicate (16 - k) no_tile ≡ no_tile ∷ replicate (16 - (k + 1)) no_tile
    place k h = let e : 16 - k ≡ suc (16 - (k + 1)) = omega arith in rw e

    count_eq : length l + 1 ≡ length (l ++ (y ∷ []))
    count_eq = sym (length-append l (y ∷ []))

    tiles_eq : set (l ++ replicate (16 - length l) no_tile) (length l) y ≡ (l ++ (y ∷ [])) ++ replicate (16 - length (l ++ (y ∷ []))) no_tile
    tiles_eq = rw (place (length l) w, set-append_seam l no_tile (replicate (16 - (length l + 1)) no_tile) y, ← count_eq) (sym (append_assoc l (y ∷ []) _))

-- one tile of a list more, unless it is the one to give up
module _ (l : List Tile) (i : ℕ) (x : Tile) (w : i < length l) where
  abbrev y : Tile
  y = get_or l i no_tile

  more : without (take (i + 1) l) x ≡ cond (is_same y x) (without (take i l) x) (without (take i l) x ++ (y ∷ []))
  more = ap (λ k. without k x) (rw (add-one i) (take-suc l i no_tile w)) ∙ without_last (take i l) y x

  pub keep_same : not (is_same y x) ≡ false → held_from (without (take i l) x) ≡ held_from (without (take (i + 1) l) x)
  keep_same e = ap held_from (sym (more ∙ go (is_same y x) e))
    where
      go : (b : Bool) → not b ≡ false → cond b (without (take i l) x) (without (take i l) x ++ (y ∷ [])) ≡ without (take i l) x
      go true q = refl
      go false q = absurd (clash true refl q)

  pub keep_other : not (is_same y x) ≡ true → i < 16 → joined (held_from (without (take i l) x)) y ≡ held_from (without (take (i + 1) l) x)
  keep_other e v = joined_from (without (take i l) x) y short ∙ ap held_from (sym (more ∙ go (is_same y x) e))
    where
      short : length (without (take i l) x) < 16
      short = omega (arith, without_length (take i l) x, length-take-le i l (omega arith))

      go : (b : Bool) → not b ≡ true → cond b (without (take i l) x) (without (take i l) x ++ (y ∷ [])) ≡ without (take i l) x ++ (y ∷ [])
      go true q = absurd (clash false q refl)
      go false q = refl

-- all of them
pub kept_all : (l : List Tile) (i : ℕ) (x : Tile) (k : Held) → k ≡ held_from (without (take i l) x) → length l ≤ i → k ≡ held_from (without l x)
kept_all l i x k e w = e ∙ ap (λ l. held_from (without l x)) (take_all i l w)

-- ---- giving up

module _ (h : Held) (x : Tile) where
  pub give_up_done : valid_held h ≡ true → is_among (held_tiles h) x ≡ true → give_up_of h x ≡ Ok (held_from (without (held_tiles h) x))
  unfolding give_up_of
  give_up_done v e = rw (v, e)

  pub give_up_invalid : valid_held h ≡ false → give_up_of h x ≡ Err BadHeld
  unfolding give_up_of
  give_up_invalid e = rw e

  pub give_up_unheld : is_among (held_tiles h) x ≡ false → give_up_of h x ≡ Err BadHeld
  unfolding give_up_of
  give_up_unheld e = go (valid_held h)
    where
      go : (b : Bool) → cond (b && is_among (held_tiles h) x) (Ok (held_from (without (held_tiles h) x))) (Err BadHeld) ≡ Err BadHeld
      go true = rw e
      go false = refl

  -- whether a tile is among the held ones shows in their number
  pub length-unheld : length (held_tiles h) ≡ length (without (held_tiles h) x) → is_among (held_tiles h) x ≡ false
  length-unheld e = refute _ (λ p. absurd (omega (arith, among_shorter (held_tiles h) x p)))

  pub length-among : (length (held_tiles h) ≡ length (without (held_tiles h) x) → ⊥) → is_among (held_tiles h) x ≡ true
  length-among ne = go (by_test (is_among (held_tiles h) x))
    where
      go : (is_among (held_tiles h) x ≡ true) ⊎ (is_among (held_tiles h) x ≡ false) → is_among (held_tiles h) x ≡ true
      go (inl p) = p
      go (inr p) = absurd (ne (ap length (sym (unheld_same (held_tiles h) x p))))

-- What an answer says of the held tiles, and what it leaves them.
-- Assumes nothing.
use Prim.Native.Nat.{ℕ, ◌+◌, ◌-◌, ◌≤◌}
use mathlib.Core.Path.{◌≡◌, refl, ap, ◌∙◌}
use mathlib.Core.Bool.{true, false}
use mathlib.Core.List.{List, [], ◌∷◌, ◌++◌}
use mathlib.Core.Logic.{◌⊎◌, inl, inr}
use mathlib.Core.Option.{Option, none, some}
use native.Mathlib.Omega.{arith}
use native.Mathlib.Numerals.{add-one}
use lib.ListN.{length, length-append, length-set, length-replicate, replicate}
use lib.Seq.{take-append_seam, take-suc-set}
use borrow.Author.Tests.{le-leb}
use Rattle.std.proofs.Common.{Ok, Err}
use Rattle.general.proofs.BoolLaws.{and_both, by_test}
use Rattle.planner.specs.Tile.{tile_of, no_tile, is_size, is_tile, is_free, is_valid, lowest_free, is_among, without}
use Rattle.planner.specs.Held.{held_tiles, valid_held, joined, take_of, held_from, give_up_of}
use Rattle.planner.specs.Claims.{Sixteen}
use Rattle.planner.specs.declared.tile.Tile.{Tile}
use Rattle.planner.specs.declared.held.Held.{Held}
use Rattle.planner.specs.declared.answer.TileRefusal.TheVariants.{NoFreeTile}
use Rattle.planner.specs.declared.answer.Taken.{Taken}
use Rattle.planner.proofs.HeldLaws.{valid_held_lem}
use Rattle.planner.proofs.PartLaws.{room_for}
use Rattle.planner.proofs.ListLaws.{valid_last}
use Rattle.planner.proofs.RoomLaws.{take_size, take_held, take_none, take_some, give_up_done, give_up_invalid, give_up_unheld}

-- ---- taking

-- a size and held tiles that are good, and what the search gives
pub record Searched (h : Held) (m : ℕ) (o : Option ℕ) : Type 0 where
  pub size : is_size m ≡ true
  pub valid : valid_held h ≡ true
  pub search : lowest_free (held_tiles h) m ≡ o

pub data TakeView (h : Held) (m : ℕ) : Type 0 where
  size_bad : is_size m ≡ false → TakeView h m
  held_bad : is_size m ≡ true → valid_held h ≡ false → TakeView h m
  none_free : Searched h m none → TakeView h m
  one_free : (t : ℕ) → Searched h m (some t) → TakeView h m

pub take_view : (h : Held) (m : ℕ) → TakeView h m
take_view h m = go (by_test (is_size m)) (by_test (valid_held h)) (lowest_free (held_tiles h) m) refl
  where
    go : (is_size m ≡ true) ⊎ (is_size m ≡ false) → (valid_held h ≡ true) ⊎ (valid_held h ≡ false) → (o : Option ℕ) → lowest_free (held_tiles h) m ≡ o → TakeView h m
    go (inr e) v o q = size_bad e
    go (inl e) (inr v) o q = held_bad e v
    go (inl e) (inl v) none q = none_free (record { size = e; valid = v; search = q })
    go (inl e) (inl v) (some t) q = one_free t (record { size = e; valid = v; search = q })

-- where one was taken it was found
pub record Found (h : Held) (m : ℕ) (r : Taken) : Type 0 where
  pub number : ℕ
  pub searched : Searched h m (some number)
  pub is : r ≡ record { number = number; held = joined h (tile_of m number) }

pub take_found : (h : Held) (m : ℕ) (r : Taken) → take_of h m ≡ Ok r → Found h m r
take_found h m r e = go (take_view h m)
  where
    go : TakeView h m → Found h m r
    go (size_bad b) = let q = take_size h m b in absurd (cc)
    go (held_bad b v) = let q = take_held h m b v in absurd (cc)
    go (none_free s) = let q = take_none h m s.size s.valid s.search in absurd (cc)
    go (one_free t s) = let q = take_some h m t s.size s.valid s.search in record { number = t; searched = s; is = cc }

-- with answer 13 none was
pub take_full : (h : Held) (m : ℕ) → take_of h m ≡ Err NoFreeTile → Searched h m none
take_full h m e = go (take_view h m)
  where
    go : TakeView h m → Searched h m none
    go (size_bad b) = let q = take_size h m b in absurd (cc)
    go (held_bad b v) = let q = take_held h m b v in absurd (cc)
    go (none_free s) = s
    go (one_free t s) = let q = take_some h m t s.size s.valid s.search in absurd (cc)

-- a tile that is free joins the held ones
pub record Joins (h : Held) (x : Tile) : Type 0 where
  pub list : held_tiles (joined h x) ≡ held_tiles h ++ (x ∷ [])
  pub sixteen : Sixteen (joined h x)
  pub valid : valid_held (joined h x) ≡ true

pub joins : (h : Held) (x : Tile) → Sixteen h → valid_held h ≡ true → is_tile x ≡ true → is_free (held_tiles h) x ≡ true → Joins h x
joins h x s v t f =
    let w = room_for h x s v t f in
    let list : held_tiles (joined h x) ≡ held_tiles h ++ (x ∷ []) = rw (add-one h.count) (take-suc-set h.tiles h.count x (omega (arith, s))) in
    record {
      list = list;
      sixteen = length-set h.tiles h.count x ∙ s;
      valid = and_both _ _ (le-leb (h.count + 1) 16 (omega arith)) (ap is_valid list ∙ valid_last (held_tiles h) x (valid_held_lem h v).list t f);
    }

-- ---- giving up

pub record Among (h : Held) (x : Tile) (h' : Held) : Type 0 where
  pub valid : valid_held h ≡ true
  pub among : is_among (held_tiles h) x ≡ true
  pub is : h' ≡ held_from (without (held_tiles h) x)

-- a tile that was given up was held
pub give_up_among : (h : Held) (x : Tile) (h' : Held) → give_up_of h x ≡ Ok h' → Among h x h'
give_up_among h x h' e = go (by_test (valid_held h)) (by_test (is_among (held_tiles h) x))
  where
    go : (valid_held h ≡ true) ⊎ (valid_held h ≡ false) → (is_among (held_tiles h) x ≡ true) ⊎ (is_among (held_tiles h) x ≡ false) → Among h x h'
    go (inr v) a = let q = give_up_invalid h x v in absurd (cc)
    go (inl v) (inr a) = let q = give_up_unheld h x a in absurd (cc)
    go (inl v) (inl a) = let q = give_up_done h x v a in record { valid = v; among = a; is = cc }

-- a record made of a list
pub record HeldAgain (l : List Tile) : Type 0 where
  pub list : held_tiles (held_from l) ≡ l
  pub sixteen : Sixteen (held_from l)

pub held_again : (l : List Tile) → length l ≤ 16 → HeldAgain l
held_again l w = record {
  list = take-append_seam l (replicate (16 - length l) no_tile);
  sixteen = length-append l (replicate (16 - length l) no_tile) ∙ rw (length-replicate (16 - length l) no_tile) (omega arith);
}

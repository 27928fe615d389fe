-- Laws of specs/Lent.antt: held tiles read from an array and written to it.
-- Assumes nothing.
use Prim.Native.Nat.{ℕ, zero, suc, ◌+◌, ◌*◌, ◌/◌, ◌%◌, ◌<◌, ◌≤◌}
use mathlib.Core.Path.{◌≡◌, refl, sym, ap, subst, ◌∙◌}
use mathlib.Core.Bool.{Bool, true, false, cond}
use mathlib.Core.List.{List, [], ◌∷◌, ◌++◌}
use mathlib.Core.Logic.{◌⊎◌, inl, inr}
use Rattle.std.proofs.Common.{Result, Ok, Err}
use Rattle.std.proofs.lemmas.List.{ext_get_or}
use Rattle.std.specs.Array.{IsFromFnResultFrom, IsFromFnResult}
use denote.Param.Members.{Mut, Called}
use Rattle.std.specs.Result.{result_map_both}
use native.Mathlib.Decide.{ℕ_discrete}
use native.Mathlib.Omega.{arith}
use lib.Dec.{ltb}
use lib.ListN.{length, length-append, get_or, set, get_or-append}
use lib.Seq.{get_or-append_seam, length-take-le}
use borrow.Author.Tests.{leb-true, ltb-true, lt-leb, le-leb}
use Rattle.general.proofs.BoolLaws.{by_test, clash}
use Rattle.settings.specs.Settings.{is_vector_length}
use Rattle.general.specs.Scatter.{scatter, all}
use Rattle.general.proofs.ScatterLaws.{scatter_more}
use Rattle.planner.specs.Tile.{no_tile, is_size, is_tile}
use Rattle.planner.specs.Held.{held_tiles, valid_held, take_of}
use Rattle.planner.specs.Bytes.{Vectors}
use Rattle.planner.specs.Claims.{Sixteen}
use Rattle.planner.specs.declared.tile.Tile.{Tile}
use Rattle.planner.specs.declared.held.Held.{Held}
use Rattle.planner.specs.declared.answer.TileRefusal.{TileRefusal}
use Rattle.planner.specs.declared.answer.TileRefusal.TheVariants.{BadHeld}
use Rattle.planner.specs.declared.answer.Taken.{Taken}
use Rattle.planner.proofs.HeldLaws.{valid_held_lem, valid_tiles}
use Rattle.planner.proofs.RoomLaws.{without_length}
use Rattle.planner.proofs.AnswerLaws.{give_up_among}
use Rattle.planner.proofs.Claims.{taking_takes}
use Rattle.lent_tiles.specs.Lent.{tile_at_place, tiles_in, held_in, has_places, if_placed, take_in, give_up_in, number_in, held_out, array_after, count_after, GivesUpLent}

-- ---- reading

pub tiles_in-length : (ns : List ℕ) (n : ℕ) → length (tiles_in ns n) ≡ n
unfolding tiles_in
tiles_in-length ns zero = refl
tiles_in-length ns (suc n) = length-append (tiles_in ns n) (tile_at_place ns n ∷ []) ∙ omega (arith, tiles_in-length ns n)

tiles_in-at : (ns : List ℕ) (n k : ℕ) → k < n → get_or (tiles_in ns n) k no_tile ≡ tile_at_place ns k
unfolding tiles_in
tiles_in-at ns zero k w = absurd (omega arith)
tiles_in-at ns (suc n) k w = go (ℕ_discrete k n) (λ v. tiles_in-at ns n k v)
  where
    go : Dec (k ≡ n) → (k < n → get_or (tiles_in ns n) k no_tile ≡ tile_at_place ns k) → get_or (tiles_in ns n ++ (tile_at_place ns n ∷ [])) k no_tile ≡ tile_at_place ns k
    go (yes q) ih =
        ap (λ (j : ℕ). get_or (tiles_in ns n ++ (tile_at_place ns n ∷ [])) j no_tile) (q ∙ sym (tiles_in-length ns n))
        ∙ get_or-append_seam (tiles_in ns n) (tile_at_place ns n) [] no_tile ∙ ap (tile_at_place ns) (sym q)
    go (no q) ih = get_or-append (tiles_in ns n) (tile_at_place ns n ∷ []) no_tile k (rw (tiles_in-length ns n) (omega arith)) ∙ ih (omega arith)

-- an array that `from_fn` made of calls that all give `v` of the index
module _ {F B : Type 0} (g : Mut F (ℕ × Unit {0}) B) (v : ℕ → B) (f : F) (gives : (i : ℕ) (y : B) (q : F) → Called g f (i, tt) y q → (q ≡ f) × (y ≡ v i)) where
  made_from : (ys : List B) (n i : ℕ) (p : F) → p ≡ f → IsFromFnResultFrom g p ys i n → (k : ℕ) (d : B) → i ≤ k → k < i + n → get_or ys k d ≡ v k
  made_from ys zero i p e r k d a b = absurd (omega arith)
  made_from ys (suc n) i p e r k d a b = go (ℕ_discrete k i) (λ v. made_from ys n (i + 1) r.0 call.0 r.4 k d v (omega arith))
    where
      call : (r.0 ≡ f) × (r.1 ≡ v i)
      call = gives i r.1 r.0 (subst (λ (p : F). Called g p (i, tt) r.1 r.0) e r.3)

      go : Dec (k ≡ i) → (i + 1 ≤ k → get_or ys k d ≡ v k) → get_or ys k d ≡ v k
      go (yes q) later = ap (λ (j : ℕ). get_or ys j d) q ∙ r.2.1 d ∙ call.1 ∙ ap v (sym q)
      go (no q) later = later (omega arith)

  pub made_at : (ys : List B) (n k : ℕ) (d : B) → IsFromFnResult g f ys n → k < n → get_or ys k d ≡ v k
  made_at ys n k d r w = made_from ys n 0 f refl r.each k d (omega arith) (omega arith)

-- sixteen tiles, each the one at its place
pub sixteen_in : (ns : List ℕ) (ys : List Tile) → length ys ≡ 16 → ((k : ℕ) → k < 16 → get_or ys k no_tile ≡ tile_at_place ns k) → ys ≡ tiles_in ns 16
sixteen_in ns ys long at =
    ext_get_or no_tile ys (tiles_in ns 16) (long ∙ sym (tiles_in-length ns 16))
    (λ i w. at i (omega (arith, long)) ∙ sym (tiles_in-at ns 16 i (omega (arith, long))))

-- ---- writing

module _ (h : Held) (i : ℕ) where
  number_even : number_in h (2 * i) ≡ (get_or h.tiles i no_tile).bytes
  number_even = let e : 2 * i % 2 ≡ 0 = omega arith in let q : 2 * i / 2 ≡ i = omega arith in rw (e, q)

  number_odd : number_in h (2 * i + 1) ≡ (get_or h.tiles i no_tile).number
  number_odd = let e : (2 * i + 1) % 2 ≡ 1 = omega arith in let q : (2 * i + 1) / 2 ≡ i = omega arith in rw (e, q)

  -- one tile more
  pub written_more : (ns ms : List ℕ) → ms ≡ scatter (λ k. k) all (number_in h) (2 * i) ns →
      set (set ms (2 * i) (get_or h.tiles i no_tile).bytes) (2 * i + 1) (get_or h.tiles i no_tile).number ≡ scatter (λ k. k) all (number_in h) (2 * (i + 1)) ns
  written_more ns ms e =
      ap (λ (b : ℕ). set (set ms (2 * i) b) (2 * i + 1) (get_or h.tiles i no_tile).number) (sym number_even)
      ∙ ap (λ (b : ℕ). set (set ms (2 * i) (number_in h (2 * i))) (2 * i + 1) b) (sym number_odd)
      ∙ scatter_more (λ k. k) all (number_in h) (2 * i + 1) ns (scatter_more (λ k. k) all (number_in h) (2 * i) ns e refl) refl
      ∙ ap (λ (k : ℕ). scatter (λ k. k) all (number_in h) k ns) (omega arith)

-- ---- answering

-- what taking from the held tiles of an array gave
module _ (ns : List ℕ) (n m : ℕ) where
  pub take_refused : (e : TileRefusal) → take_of (held_in ns n) m ≡ Err e → Err e ≡ take_in ns n m
  unfolding take_in
  take_refused e took = rw took

  pub take_unplaced : (r : Taken) → take_of (held_in ns n) m ≡ Ok r → length ns / 2 < r.held.count → Err BadHeld ≡ take_in ns n m
  unfolding take_in
  take_unplaced r took w = rw (took, lt-leb (2 * r.held.count) (length ns) (omega arith))

  pub take_placed : (r : Taken) → take_of (held_in ns n) m ≡ Ok r → r.held.count ≤ length ns / 2 → Ok r ≡ take_in ns n m
  unfolding take_in
  take_placed r took w = rw (took, le-leb (2 * r.held.count) (length ns) (omega arith))

-- ---- places

-- the held tiles of an array that are valid have places in it: outside it no tile exists
pub places_read : (ns : List ℕ) (n : ℕ) → valid_held (held_in ns n) ≡ true → 2 * n ≤ length ns
unfolding is_size
places_read ns zero v = omega arith
places_read ns (suc k) v = go (by_test (ltb (2 * k + 1) (length ns)))
  where
    exists : is_tile (tile_at_place ns k) ≡ true
    exists =
        let p = valid_held_lem (held_in ns (suc k)) v in
        ap is_tile (sym (tiles_in-at ns 16 k (omega (arith, p.few)))) ∙ valid_tiles (tiles_in ns 16) (suc k) 0 k p.list (omega arith) (omega arith) (omega (arith, p.few, tiles_in-length ns 16))

    go : (ltb (2 * k + 1) (length ns) ≡ true) ⊎ (ltb (2 * k + 1) (length ns) ≡ false) → 2 * suc k ≤ length ns
    go (inl e) = omega (arith, ltb-true (2 * k + 1) (length ns) e)
    go (inr e) = absurd (clash false (rw e at exists) refl)

-- sixteen tiles are read, and some vectors there are
sixteen_read : (ns : List ℕ) (n : ℕ) → Sixteen (held_in ns n)
sixteen_read ns n = tiles_in-length ns 16

shortest : Vectors 16 16
unfolding is_vector_length
shortest = record { valid = refl; fit = omega arith }

-- held tiles that are to be written have places
abbrev pub Fits : List ℕ → Held → Type 0
Fits ns h = (h.count ≤ 16) × (2 * h.count ≤ length ns)

pub take_places : (ns : List ℕ) (n m : ℕ) (r : Taken) → take_in ns n m ≡ Ok r → Fits ns r.held
unfolding take_in
take_places ns n m r e = go (take_of (held_in ns n) m) refl e
  where
    placed : (k : Taken) (b : Bool) → has_places ns k.held.count ≡ b → cond b (Ok k) (Err BadHeld) ≡ Ok r → (k ≡ r) × (has_places ns k.held.count ≡ true)
    placed k true p e = (cc, p)
    placed k false p e = absurd (cc)

    go : (a : Result Taken TileRefusal) → take_of (held_in ns n) m ≡ a → if_placed ns a ≡ Ok r → Fits ns r.held
    go (Err f) q e = absurd (cc)
    go (Ok k) q e =
        let p = placed k (has_places ns k.held.count) refl e in
        let t = taking_takes 16 16 (held_in ns n) m k shortest (sixteen_read ns n) q in
        subst (λ (k : Taken). Fits ns k.held) p.0 ((valid_held_lem k.held t.valid).few, leb-true (2 * k.held.count) (length ns) p.1)

pub give_up_places : (ns : List ℕ) (n : ℕ) (x : Tile) (h : Held) → give_up_in ns n x ≡ Ok h → Fits ns h
unfolding give_up_in
give_up_places ns n x h e =
    let k = held_in ns n in
    let a = give_up_among k x h e in
    let w = (valid_held_lem k a.valid).few in
    let fewer = without_length (held_tiles k) x in
    let some = length-take-le n (tiles_in ns 16) (omega (arith, tiles_in-length ns 16)) in
    rw a.is (omega (arith, fewer, some), omega (arith, fewer, some, places_read ns n a.valid))

-- ---- what giving up leaves

module _ (ns : List ℕ) (n : ℕ) (x : Tile) where
  pub gives_up_refused : (r : Result (Unit {0}) TileRefusal) (e : TileRefusal) → r ≡ Err e → give_up_in ns n x ≡ Err e → GivesUpLent ns n x r ns n
  gives_up_refused r e q gave = record {
    answer = q ∙ sym (ap (result_map_both (λ _. tt {0}) (λ e. e)) gave);
    leaves = record { tiles = ap (array_after ns) (sym gave); count = ap (count_after n) (sym gave) };
  }

  pub gives_up_left : (h : Held) (ns' : List ℕ) (n' : ℕ) → give_up_in ns n x ≡ Ok h → ns' ≡ held_out ns h → n' ≡ h.count → GivesUpLent ns n x (Ok tt) ns' n'
  gives_up_left h ns' n' gave tiles count = record {
    answer = sym (ap (result_map_both (λ _. tt {0}) (λ e. e)) gave);
    leaves = record { tiles = tiles ∙ ap (array_after ns) (sym gave); count = count ∙ ap (count_after n) (sym gave) };
  }

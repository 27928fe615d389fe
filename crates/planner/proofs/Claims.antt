-- Each theorem of specs/Bytes.antt and Claims.antt, and the worked examples first: a definition that they refuse is refused by them.
-- Assumes nothing.
use Prim.Native.Nat.{ℕ, ◌<◌, ◌≤◌}
use mathlib.Core.Path.{◌≡◌, refl, sym, ap, ◌∙◌, subst}
use mathlib.Core.Bool.{Bool, true, false, cond, not, ◌&&◌}
use mathlib.Core.List.{List, [], ◌∷◌}
use mathlib.Core.Logic.{◌⊎◌, inl, inr}
use mathlib.Core.Option.{Option, none, some}
use native.Mathlib.Omega.{arith}
use lib.ListN.{length}
use lib.Seq.{length-take-le}
use borrow.Author.Tests.{le-leb}
use Rattle.std.proofs.Common.{Result, Ok, Err, is_ok, IsOk}
use Rattle.settings.specs.Answer.{done, out_of_range, no_free_tile, bad_held}
use Rattle.settings.specs.Settings.{is_vector_length}
use Rattle.general.proofs.BoolLaws.{and_both, by_test, refute, clash}
use Rattle.general.specs.Determined.{IsOneOf}
use Rattle.general.proofs.DeterminedLaws.{equal_determines, one_of_test}
use Rattle.general.specs.Least.{least, is_some}
use Rattle.general.proofs.LeastLaws.{least_some, least_none, least_never}
use Rattle.planner.specs.Tile.{tile_of, is_size, shares, is_free, is_valid, lowest_free, is_among, without}
use Rattle.planner.specs.Held.{answer_number, held_tiles, held_from, valid_held, joined, take_of, number_of, held_after, TakesOne, give_up_of, held_left, GivesUpOne}
use Rattle.planner.specs.Bytes.{Vectors, TilesHalve, SharesBytes, tile_at, Apart, ValidIsApart, SharedBy}
use Rattle.planner.specs.Claims.{Sixteen, ValidHeldIsApart, TakingAnswers, Takes, TakingTakes, Full, NoFreeIsFull, GivingUpAnswers, GivingUpGives, Undone, TakingUndone, GivenUpRetaken, HeldDetermines, shown_held, Shown}
use Rattle.planner.specs.Examples.{TakingExamplesHold}
use Rattle.planner.specs.declared.tile.Tile.{Tile}
use Rattle.planner.specs.declared.held.Held.{Held}
use Rattle.planner.specs.declared.answer.TileRefusal.{TileRefusal}
use Rattle.planner.specs.declared.answer.TileRefusal.TheVariants.{BadHeld, NoFreeTile}
use Rattle.planner.specs.declared.answer.Taken.{Taken}
use Rattle.planner.proofs.Examples as examples
use Rattle.planner.proofs.ByteLaws as bytes
use Rattle.planner.proofs.ByteLaws.{shared_byte, byte_shared}
use Rattle.planner.proofs.TileLaws.{Exists, tile_exists, exists_tile, shares_sym, same_own}
use Rattle.planner.proofs.HeldLaws.{valid_held_lem}
use Rattle.planner.proofs.ListLaws.{free_at, free_not, valid_exist, valid_differ, valid_all, among_last, among_at, among_tile, free_unheld, without_parts, valid_without, free_again}
use Rattle.planner.proofs.RoomLaws.{takes_one, gives_up_one, without_length, without_last, unheld_same, take_size, take_held, take_none, take_some, give_up_done, give_up_invalid, give_up_unheld}
use Rattle.planner.proofs.AnswerLaws.{Searched, take_found, take_full, Joins, joins, Among, give_up_among, held_again}

pub taking_examples_hold : TakingExamplesHold
taking_examples_hold = examples.taking_examples_hold

pub tiles_halve : TilesHalve
tiles_halve = bytes.tiles_halve

pub shares_bytes : SharesBytes
shares_bytes = bytes.shares_bytes

-- ---- lists of tiles

pub valid_is_apart : ValidIsApart
valid_is_apart S B l v = (forth, back)
  where
    forth : is_valid l ≡ true → Apart S B l
    forth e = record {
      exist = valid_exist l e;
      differ = λ j k u w b.
          let px = tile_exists _ (valid_exist l e j (omega arith)) in
          let py = tile_exists _ (valid_exist l e k w) in
          clash (shares (tile_at l j) (tile_at l k)) (byte_shared S B _ _ v px py b) (valid_differ l e j k u w);
    }

    back : Apart S B l → is_valid l ≡ true
    back a = valid_all l a.exist (λ j k u w. refute (shares (tile_at l j) (tile_at l k)) (λ e.
        a.differ j k u w (shared_byte S B _ _ v (tile_exists _ (a.exist j (omega arith))) (tile_exists _ (a.exist k w)) e)))

pub valid_held_is_apart : ValidHeldIsApart
valid_held_is_apart S B h v = (
  λ e. let p = valid_held_lem h e in (p.few, (valid_is_apart S B (held_tiles h) v).0 p.list),
  λ w a. and_both _ _ (le-leb h.count 16 w) ((valid_is_apart S B (held_tiles h) v).1 a),
)

-- a tile that is not free shares a byte with one of a valid list, and a free one does not
module _ (S B : ℕ) (v : Vectors S B) (l : List Tile) (valid : is_valid l ≡ true) (x : Tile) (p : Exists x) where
  taken_shared : is_free l x ≡ false → SharedBy S B l x
  taken_shared e =
      let m = free_not l x e in
      let py = tile_exists _ (valid_exist l valid m.place m.within) in
      record { place = m.place; within = m.within; shared = shared_byte S B (tile_at l m.place) x v py p (sym (shares_sym x (tile_at l m.place) p py) ∙ m.meets) }

  shared_taken : SharedBy S B l x → is_free l x ≡ false
  shared_taken s = refute (is_free l x) (λ f.
      let py = tile_exists _ (valid_exist l valid s.place s.within) in
      clash (shares x (tile_at l s.place)) (shares_sym x (tile_at l s.place) p py ∙ byte_shared S B (tile_at l s.place) x v py p s.shared) (free_at l x f s.place s.within))

-- ---- taking

pub taking_answers : TakingAnswers
taking_answers h m = record {
  size = take_size h m;
  bad = take_held h m;
  good = λ e v. good (lowest_free (held_tiles h) m) refl e v;
  refused = kept (take_of h m);
}
  where
    good : (o : Option ℕ) → lowest_free (held_tiles h) m ≡ o → is_size m ≡ true → valid_held h ≡ true → IsOk (take_of h m) ⊎ (take_of h m ≡ Err NoFreeTile)
    good none q e v = inr (take_none h m e v q)
    good (some t) q e v = inl (ap is_ok (take_some h m t e v q))

    kept : (r : Result Taken TileRefusal) → (IsOk r → ⊥) → (number_of r ≡ 0) × (held_after h r ≡ h)
    kept (Ok x) n = absurd (n refl)
    kept (Err e) n = (refl, refl)

-- the tile that was found exists and is free, and no lower one is
module _ (h : Held) (m t : ℕ) (s : Searched h m (some t)) where
  below : t < m
  below = (least_some (λ u. is_free (held_tiles h) (tile_of m u)) m t s.search).0

  exists : Exists (tile_of m t)
  exists = record { size = s.size; below = below }

  free : is_free (held_tiles h) (tile_of m t) ≡ true
  free = (least_some (λ u. is_free (held_tiles h) (tile_of m u)) m t s.search).1

  none_lower : (u : ℕ) → u < t → is_free (held_tiles h) (tile_of m u) ≡ false
  none_lower = (least_some (λ u. is_free (held_tiles h) (tile_of m u)) m t s.search).2

  found_joins : Sixteen h → Joins h (tile_of m t)
  found_joins sixteen = joins h (tile_of m t) sixteen s.valid (exists_tile _ exists) free

takes : (S B : ℕ) (h : Held) (m t : ℕ) → Vectors S B → Sixteen h → Searched h m (some t) → Takes S B h m t (joined h (tile_of m t))
takes S B h m t v sixteen s =
    let j = found_joins h m t s sixteen in
    let valid = (valid_held_lem h s.valid).list in
    record {
      exists = exists_tile _ (exists h m t s);
      joins = j.list;
      sixteen = j.sixteen;
      valid = j.valid;
      free = λ b. clash (is_free (held_tiles h) (tile_of m t)) (free h m t s) (shared_taken S B v (held_tiles h) valid (tile_of m t) (exists h m t s) b);
      lowest = λ u w. taken_shared S B v (held_tiles h) valid (tile_of m u) (record { size = s.size; below = omega (arith, below h m t s) }) (none_lower h m t s u w);
    }

pub taking_takes : TakingTakes
taking_takes S B h m r v sixteen e =
    let f = take_found h m r e in
    rw f.is (takes S B h m f.number v sixteen f.searched)

pub no_free_is_full : NoFreeIsFull
no_free_is_full S B h m v sixteen = (forth, back)
  where
    forth : take_of h m ≡ Err NoFreeTile → Full S B h m
    forth e = let s = take_full h m e in record {
      size = s.size;
      valid = s.valid;
      none = λ t w. taken_shared S B v (held_tiles h) (valid_held_lem h s.valid).list (tile_of m t) (record { size = s.size; below = w })
          (least_none (λ u. is_free (held_tiles h) (tile_of m u)) m s.search t w);
    }

    back : Full S B h m → take_of h m ≡ Err NoFreeTile
    back f = take_none h m f.size f.valid (least_never (λ u. is_free (held_tiles h) (tile_of m u)) m (λ t w.
        shared_taken S B v (held_tiles h) (valid_held_lem h f.valid).list (tile_of m t) (record { size = f.size; below = w }) (f.none t w)))

-- ---- giving up

pub giving_up_answers : GivingUpAnswers
giving_up_answers h = record {
  held = λ v k w. ap is_ok (give_up_done h (tile_at (held_tiles h) k) v (among_at (held_tiles h) k w));
  refused = λ x n. let e = go x n (by_test (valid_held h)) (by_test (is_among (held_tiles h) x)) in (e, ap (held_left h) e);
}
  where
    go : (x : Tile) → (IsOk (give_up_of h x) → ⊥) → (valid_held h ≡ true) ⊎ (valid_held h ≡ false) → (is_among (held_tiles h) x ≡ true) ⊎ (is_among (held_tiles h) x ≡ false) →
        give_up_of h x ≡ Err BadHeld
    go x n (inr v) a = give_up_invalid h x v
    go x n (inl v) (inr a) = give_up_unheld h x a
    go x n (inl v) (inl a) = absurd (n (ap is_ok (give_up_done h x v a)))

-- the held tiles without one
module _ (h : Held) (x : Tile) (h' : Held) (sixteen : Sixteen h) (a : Among h x h') where
  abbrev rest : List Tile
  rest = without (held_tiles h) x

  rest_few : length rest ≤ 16
  rest_few =
      let few = (valid_held_lem h a.valid).few in
      omega (arith, without_length (held_tiles h) x, length-take-le h.count h.tiles (omega (arith, sixteen)))

  rest_valid : valid_held (held_from rest) ≡ true
  rest_valid = and_both _ _ (le-leb (length rest) 16 rest_few) (ap is_valid (held_again rest rest_few).list ∙ valid_without (held_tiles h) x (valid_held_lem h a.valid).list)

pub giving_up_gives : GivingUpGives
giving_up_gives h x h' sixteen e =
    let a = give_up_among h x h' e in
    let p = without_parts (held_tiles h) x (valid_held_lem h a.valid).list a.among in
    let k = held_again (rest h x h' sixteen a) (rest_few h x h' sixteen a) in
    rw a.is (record {
      before = p.before;
      after = p.after;
      was = p.was;
      is = k.list ∙ p.is;
      was_valid = a.valid;
      sixteen = k.sixteen;
      valid = rest_valid h x h' sixteen a;
    })

-- ---- one after the other

undone : (h : Held) (m t : ℕ) → Sixteen h → Searched h m (some t) → Undone h (tile_of m t) (joined h (tile_of m t))
undone h m t sixteen s =
    let x = tile_of m t in
    let j = found_joins h m t s sixteen in
    let among : is_among (held_tiles (joined h x)) x ≡ true = ap (λ l. is_among l x) j.list ∙ among_last (held_tiles h) x in
    let a = give_up_done (joined h x) x j.valid among in
    let gone : without (held_tiles (joined h x)) x ≡ held_tiles h =
    ap (λ l. without l x) j.list ∙ without_last (held_tiles h) x x ∙ rw (same_own x) (unheld_same (held_tiles h) x (free_unheld (held_tiles h) x (exists h m t s) (free h m t s))) in
    let k = held_again (held_tiles h) (omega (arith, (valid_held_lem h s.valid).few, length-take-le h.count h.tiles (omega (arith, (valid_held_lem h s.valid).few)))) in
    record { left = held_from (without (held_tiles (joined h x)) x); done = a; held = ap (λ l. held_tiles (held_from l)) gone ∙ k.list }

pub taking_undone : TakingUndone
taking_undone h m r sixteen e =
    let f = take_found h m r e in
    rw f.is (undone h m f.number sixteen f.searched)

-- where a tile is free, one of its size can be taken
found_free : (h : Held) (x : Tile) → valid_held h ≡ true → Exists x → is_free (held_tiles h) x ≡ true → IsOk (take_of h x.bytes)
found_free h x v p f = go (lowest_free (held_tiles h) x.bytes) refl
  where
    go : (o : Option ℕ) → lowest_free (held_tiles h) x.bytes ≡ o → IsOk (take_of h x.bytes)
    go none q = absurd (clash (is_free (held_tiles h) x) f (least_none (λ u. is_free (held_tiles h) (tile_of x.bytes u)) x.bytes q x.number p.below))
    go (some t) q = ap is_ok (take_some h x.bytes t p.size v q)

pub given_up_retaken : GivenUpRetaken
given_up_retaken h x h' sixteen e =
    let a = give_up_among h x h' e in
    let r = rest h x h' sixteen a in
    let list = (held_again r (rest_few h x h' sixteen a)).list in
    let p = among_tile (held_tiles h) x (valid_held_lem h a.valid).list a.among in
    let again : is_free (held_tiles (held_from r)) x ≡ true = ap (λ l. is_free l x) list ∙ free_again (held_tiles h) x (valid_held_lem h a.valid).list a.among in
    rw a.is (found_free (held_from r) x (rest_valid h x h' sixteen a) p again)

-- ---- the promises

pub held_determines : HeldDetermines
held_determines = record {
  takes = λ h m. record {
    met = (take_of h m, takes_one h m (take_of h m) refl);
    determined = equal_determines (TakesOne h m) (take_of h m) (λ r p. p.equal);
    numbers = λ r p. subst (IsOneOf (0 ∷ 8 ∷ 13 ∷ 16 ∷ [])) (sym p.number) (take_numbers (is_size m) (valid_held h) (is_some (lowest_free (held_tiles h) m)));
    refused = λ r p n. stays h r n;
  };
  gives_up = λ h x. record {
    met = (give_up_of h x, gives_up_one h x (give_up_of h x) refl);
    determined = equal_determines (GivesUpOne h x) (give_up_of h x) (λ r p. p.equal);
    numbers = λ r p. one_of_test (valid_held h && is_among (held_tiles h) x) (0 ∷ 16 ∷ []) _ _ _ (inl refl) (inr (inl refl)) p.number;
    refused = λ r p n. left h r n;
  };
}
  where
    take_numbers : (a b c : Bool) → IsOneOf (0 ∷ 8 ∷ 13 ∷ 16 ∷ []) (cond (not a) out_of_range (cond (not b) bad_held (cond c done no_free_tile)))
    take_numbers false b c = inr (inl refl)
    take_numbers true false c = inr (inr (inr (inl refl)))
    take_numbers true true true = inl refl
    take_numbers true true false = inr (inr (inl refl))

    stays : (h : Held) (r : Result Taken TileRefusal) → (answer_number r ≡ 0 → ⊥) → (number_of r ≡ 0) × (held_after h r ≡ h)
    stays h (Ok x) n = absurd (n refl)
    stays h (Err e) n = (refl, refl)

    left : (h : Held) (r : Result Held TileRefusal) → (answer_number r ≡ 0 → ⊥) → held_left h r ≡ h
    left h (Ok x) n = absurd (n refl)
    left h (Err e) n = refl

-- ---- at a state

shown_vectors : Vectors 256 32
unfolding is_vector_length
shown_vectors = record { valid = refl; fit = omega arith }

pub shown : Shown
unfolding least is_size shares is_free is_valid is_among without take_of give_up_of
shown = record {
  halves = λ q. tiles_halve 256 32 8 3 q shown_vectors refl refl (omega arith);
  shared = (shares_bytes 256 32 (tile_of 2 1) (tile_of 8 3) shown_vectors refl refl).0 refl;
  unshared = (shares_bytes 256 32 (tile_of 2 1) (tile_of 8 4) shown_vectors refl refl).1 refl;
  apart = (valid_is_apart 256 32 shown_held shown_vectors).0 refl;
  taken = taking_takes 256 32 (held_from shown_held) 4 _ shown_vectors refl refl;
  full = (no_free_is_full 256 32 (held_from shown_held) 2 shown_vectors refl).0 refl;
  given = giving_up_gives (held_from shown_held) (tile_of 4 1) _ refl refl;
  undone = taking_undone (held_from shown_held) 4 _ refl refl;
  retaken = given_up_retaken (held_from shown_held) (tile_of 4 1) _ refl refl;
}

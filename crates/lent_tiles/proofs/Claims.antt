-- The claims of specs/Claims.antt; the examples are computed.
-- Assumes nothing.
use Prim.Native.Nat.{ℕ, ◌+◌, ◌*◌, ◌/◌, ◌%◌, ◌<◌, ◌≤◌}
use mathlib.Core.Path.{◌≡◌, refl, sym, ap, ◌∙◌, subst}
use mathlib.Core.Bool.{true, false}
use mathlib.Core.List.{List, [], ◌∷◌}
use mathlib.Core.Logic.{inl, inr}
use native.Mathlib.Omega.{arith}
use lib.ListN.{length, get_or}
use Rattle.std.proofs.Common.{Result, Ok, Err, IsOkAnd, IsErr}
use Rattle.std.specs.Result.{result_map_both, result_unwrap_or}
use Rattle.general.specs.Determined.{IsOneOf}
use Rattle.general.proofs.BoolLaws.{refute}
use Rattle.general.proofs.DeterminedLaws.{equal_determines}
use Rattle.general.specs.Least.{least}
use Rattle.general.specs.Scatter.{scatter, all}
use Rattle.general.proofs.ScatterLaws.{length-scatter, get_or-scatter, get_or-scatter_other}
use Rattle.planner.specs.Tile.{tile_of, is_size, shares, is_free, is_valid, is_among, without}
use Rattle.planner.specs.Held.{answer_number, valid_held, take_of, number_of, give_up_of}
use Rattle.planner.specs.declared.tile.Tile.{Tile}
use Rattle.planner.specs.declared.held.Held.{Held}
use Rattle.planner.specs.declared.answer.TileRefusal.{TileRefusal}
use Rattle.planner.specs.declared.answer.TileRefusal.TheVariants.{BadSize, BadHeld, NoFreeTile}
use Rattle.planner.specs.declared.answer.Taken.{Taken}
use Rattle.planner.proofs.Claims.{held_determines}
use Rattle.planner.proofs.RoomLaws.{gives_up_one, take_held, give_up_invalid}
use Rattle.lent_tiles.specs.Lent.{tiles_in, held_in, if_placed, take_in, give_up_in, held_of, number_in, held_out, array_after, count_after, Leaves, TakesLent, GivesUpLent, Settles, TakesTile, GivesUpTile}
use Rattle.lent_tiles.specs.Claims.{ShortIsBad, LentExamplesHold, Holds, SettlesDetermines, TakesTileDetermines, GivesUpTileDetermines, TakesLentDetermines, GivesUpLentDetermines, LentDetermines, LentInNumbers}
use Rattle.lent_tiles.proofs.LentLaws.{places_read}

pub short_is_bad : ShortIsBad
unfolding take_in give_up_in
short_is_bad ns n w = (taking, giving_up_lem)
  where
    invalid : valid_held (held_in ns n) ≡ false
    invalid = refute (valid_held (held_in ns n)) (λ e. absurd (omega (arith, places_read ns n e)))

    taking : (m : ℕ) → is_size m ≡ true → take_in ns n m ≡ Err BadHeld
    taking m e = ap (if_placed ns) (take_held (held_in ns n) m e invalid)

    giving_up_lem : (x : Tile) → give_up_in ns n x ≡ Err BadHeld
    giving_up_lem x = give_up_invalid (held_in ns n) x invalid

-- the held tiles alone have the answer's number
held_number : (a : Result Taken TileRefusal) → answer_number (held_of a) ≡ answer_number a
held_number (Ok r) = refl
held_number (Err e) = refl

-- all that a contract says of its results, in one list
took : (ns : List ℕ) (n m r t n' : ℕ) (ns' : List ℕ) → TakesTile ns n m r t ns' n' → r ∷ t ∷ n' ∷ ns' ≡ answer_number (take_in ns n m) ∷ number_of (take_in ns n m) ∷ count_after n (held_of (take_in ns n m)) ∷ array_after ns (held_of (take_in ns n m))
took ns n m r t n' ns' e = λ i. (e.settles.number ∙ held_number (take_in ns n m)) i ∷ e.tile i ∷ e.settles.count i ∷ e.settles.tiles i

gave : (ns : List ℕ) (n : ℕ) (x : Tile) (r n' : ℕ) (ns' : List ℕ) → GivesUpTile ns n x r ns' n' → r ∷ n' ∷ ns' ≡ answer_number (give_up_in ns n x) ∷ count_after n (give_up_in ns n x) ∷ array_after ns (give_up_in ns n x)
gave ns n x r n' ns' e = λ i. e.number i ∷ e.count i ∷ e.tiles i

pub lent_examples_hold : LentExamplesHold
unfolding least scatter is_size shares is_free is_valid is_among without take_of give_up_of tiles_in take_in give_up_in held_out
lent_examples_hold = record {
  first = took _ _ _;
  third = took _ _ _;
  after = took _ _ _;
  short = took _ _ _;
  short_by_half = took _ _ _;
  short_full = took _ _ _;
  short_by_far = took _ _ _;
  short_size = took _ _ _;
  placeless = took _ _ _;
  half = took _ _ _;
  nothing = took _ _ _;
  none_free = took _ _ _;
  just = took _ _ _;
  exact = took _ _ _;
  full = took _ _ _;
  many = took _ _ _;
  wide = took _ _ _;
  large = took _ _ _;
  asked = took _ _ _;
  given = gave _ _ (tile_of 4 1);
  only = gave _ _ (tile_of 16 5);
  last = gave _ _ (tile_of 16 15);
  first_given = gave _ _ (tile_of 16 0);
  sixteenth = took _ _ _;
  unheld = gave _ _ (tile_of 8 0);
  other = gave _ _ (tile_of 8 1);
  sizeless = gave _ _ (tile_of 3 1);
  short_given = gave _ _ (tile_of 4 0);
  short_given_by_half = gave _ _ (tile_of 4 1);
}

-- ---- the promises

-- every answer's number
answer_numbers : {A : Type 0} (a : Result A TileRefusal) → IsOneOf (0 ∷ 8 ∷ 13 ∷ 16 ∷ []) (answer_number a)
answer_numbers (Ok x) = inl refl
answer_numbers (Err BadSize) = inr (inl refl)
answer_numbers (Err BadHeld) = inr (inr (inr (inl refl)))
answer_numbers (Err NoFreeTile) = inr (inr (inl refl))

-- held tiles that have places are written there
holds_out : (ns : List ℕ) (h : Held) → 2 * h.count ≤ length ns → Holds ns h (held_out ns h)
unfolding held_out
holds_out ns h room = record {
  bytes = λ i w. at (2 * i) (omega arith) ∙ rw (even i, half i);
  numbers = λ i w. at (2 * i + 1) (omega arith) ∙ rw (odd i, half_odd i);
  others = λ q w. get_or-scatter_other (λ k. k) all (number_in h) (2 * h.count) ns q (λ k v y e. omega arith);
  long = length-scatter (λ k. k) all (number_in h) (2 * h.count) ns;
}
  where
    at : (k : ℕ) → k < 2 * h.count → get_or (scatter (λ k. k) all (number_in h) (2 * h.count) ns) k 0 ≡ number_in h k
    at k w = get_or-scatter (λ k. k) all (number_in h) (2 * h.count) ns k w (omega arith) (λ j v y ne q. ne (sym q))

    even : (i : ℕ) → 2 * i % 2 ≡ 0
    even i = omega arith

    half : (i : ℕ) → 2 * i / 2 ≡ i
    half i = omega arith

    odd : (i : ℕ) → (2 * i + 1) % 2 ≡ 1
    odd i = omega arith

    half_odd : (i : ℕ) → (2 * i + 1) / 2 ≡ i
    half_odd i = omega arith

settles_determines : (ns : List ℕ) (n : ℕ) (a : Result Held TileRefusal) → SettlesDetermines ns n a
settles_determines ns n a = record {
  determined = equal_determines (λ (o : ℕ × List ℕ × ℕ). Settles ns n a o.0 o.1 o.2) (answer_number a, array_after ns a, count_after n a) (λ o p i. (p.number i, p.tiles i, p.count i));
  done = done a;
  refused = refused a;
}
  where
    done : (a : Result Held TileRefusal) (r n' : ℕ) (ns' : List ℕ) → Settles ns n a r ns' n' → r ≡ 0 → IsOkAnd a (λ h. 2 * h.count ≤ length ns → (n' ≡ h.count) × Holds ns h ns')
    done (Ok h) r n' ns' p e = λ room. (p.count, subst (Holds ns h) (sym p.tiles) (holds_out ns h room))
    done (Err BadSize) r n' ns' p e = absurd (omega (arith, sym e ∙ p.number))
    done (Err BadHeld) r n' ns' p e = absurd (omega (arith, sym e ∙ p.number))
    done (Err NoFreeTile) r n' ns' p e = absurd (omega (arith, sym e ∙ p.number))

    refused : (a : Result Held TileRefusal) (r n' : ℕ) (ns' : List ℕ) → Settles ns n a r ns' n' → (r ≡ 0 → ⊥) → (ns' ≡ ns) × (n' ≡ n)
    refused (Ok h) r n' ns' p e = absurd (e p.number)
    refused (Err f) r n' ns' p e = (p.tiles, p.count)

takes_tile_determines : (ns : List ℕ) (n m : ℕ) → TakesTileDetermines ns n m
takes_tile_determines ns n m = let k = take_in ns n m in record {
  determined = equal_determines (λ (o : ℕ × ℕ × List ℕ × ℕ). TakesTile ns n m o.0 o.1 o.2 o.3)
      (answer_number (held_of k), number_of k, array_after ns (held_of k), count_after n (held_of k))
      (λ o p i. (p.settles.number i, p.tile i, p.settles.tiles i, p.settles.count i));
  numbers = λ r t n' ns' p. subst (IsOneOf (0 ∷ 8 ∷ 13 ∷ 16 ∷ [])) (sym p.settles.number) (answer_numbers (held_of k));
  refused = λ r t n' ns' p e.
      let s = (settles_determines ns n (held_of k)).refused r n' ns' p.settles e in
      (p.tile ∙ zero_lem k (λ z. e (p.settles.number ∙ z)), s.0, s.1);
}
  where
    zero_lem : (a : Result Taken TileRefusal) → (answer_number (held_of a) ≡ 0 → ⊥) → number_of a ≡ 0
    zero_lem (Ok x) e = absurd (e refl)
    zero_lem (Err x) e = refl

gives_up_tile_determines : (ns : List ℕ) (n : ℕ) (x : Tile) → GivesUpTileDetermines ns n x
unfolding give_up_in
gives_up_tile_determines ns n x = record {
  determined = s.determined;
  numbers = λ r n' ns' p. subst (IsOneOf (0 ∷ 16 ∷ [])) (sym p.number) ((held_determines.gives_up (held_in ns n) x).numbers _ (gives_up_one (held_in ns n) x _ refl));
  refused = s.refused;
}
  where
    s : SettlesDetermines ns n (give_up_in ns n x)
    s = settles_determines ns n (give_up_in ns n x)

-- what a refusal leaves
left_by : (ns : List ℕ) (n : ℕ) (a : Result Held TileRefusal) (ns' : List ℕ) (n' : ℕ) → Leaves ns n a ns' n' → IsErr a → (ns' ≡ ns) × (n' ≡ n)
left_by ns n (Ok h) ns' n' l e = absurd (cc)
left_by ns n (Err f) ns' n' l e = (l.tiles, l.count)

takes_lent_determines : (ns : List ℕ) (n m : ℕ) → TakesLentDetermines ns n m
takes_lent_determines ns n m = record {
  determined = equal_determines (λ (o : Result ℕ TileRefusal × List ℕ × ℕ). TakesLent ns n m o.0 o.1 o.2)
      (result_map_both (λ t. t.number) (λ e. e) (take_in ns n m), array_after ns (held_of (take_in ns n m)), count_after n (held_of (take_in ns n m)))
      (λ o p i. (p.answer i, p.leaves.tiles i, p.leaves.count i));
  refused = λ e n' ns' p. left_by ns n (held_of (take_in ns n m)) ns' n' p.leaves (refused_lem (take_in ns n m) e p.answer);
}
  where
    refused_lem : (a : Result Taken TileRefusal) (e : TileRefusal) → Err e ≡ result_map_both (λ t. t.number) (λ e. e) a → IsErr (held_of a)
    refused_lem (Ok t) e q = absurd (cc)
    refused_lem (Err f) e q = refl

gives_up_lent_determines : (ns : List ℕ) (n : ℕ) (x : Tile) → GivesUpLentDetermines ns n x
gives_up_lent_determines ns n x = record {
  determined = equal_determines (λ (o : Result (Unit {0}) TileRefusal × List ℕ × ℕ). GivesUpLent ns n x o.0 o.1 o.2)
      (result_map_both (λ _. tt {0}) (λ e. e) (give_up_in ns n x), array_after ns (give_up_in ns n x), count_after n (give_up_in ns n x))
      (λ o p i. (p.answer i, p.leaves.tiles i, p.leaves.count i));
  refused = λ e n' ns' p. left_by ns n (give_up_in ns n x) ns' n' p.leaves (refused_lem (give_up_in ns n x) e p.answer);
}
  where
    refused_lem : (a : Result Held TileRefusal) (e : TileRefusal) → Err e ≡ result_map_both (λ _. tt {0}) (λ e. e) a → IsErr a
    refused_lem (Ok t) e q = absurd (cc)
    refused_lem (Err f) e q = refl

pub lent_determines : LentDetermines
lent_determines = record {
  settles = settles_determines;
  takes = takes_tile_determines;
  gives_up = gives_up_tile_determines;
  takes_lent = takes_lent_determines;
  gives_up_lent = gives_up_lent_determines;
}

pub lent_in_numbers : LentInNumbers
lent_in_numbers = record {
  takes = λ ns n m r ns' n' p.
      record {
        settles = record { number = ap answer_number p.answer ∙ taken_number (take_in ns n m); tiles = p.leaves.tiles; count = p.leaves.count };
        tile = ap (λ (r : Result ℕ TileRefusal). result_unwrap_or r 0) p.answer ∙ tile (take_in ns n m);
      };
  gives_up = λ ns n x r ns' n' p. record { number = ap answer_number p.answer ∙ given_number (give_up_in ns n x); tiles = p.leaves.tiles; count = p.leaves.count };
}
  where
    taken_number : (a : Result Taken TileRefusal) → answer_number (result_map_both (λ t. t.number) (λ e. e) a) ≡ answer_number (held_of a)
    taken_number (Ok k) = refl
    taken_number (Err e) = refl

    tile : (a : Result Taken TileRefusal) → result_unwrap_or (result_map_both (λ t. t.number) (λ e. e) a) 0 ≡ number_of a
    tile (Ok k) = refl
    tile (Err e) = refl

    given_number : (a : Result Held TileRefusal) → answer_number (result_map_both (λ _. tt {0}) (λ e. e) a) ≡ answer_number a
    given_number (Ok h) = refl
    given_number (Err e) = refl

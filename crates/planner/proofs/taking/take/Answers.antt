-- `planner::taking::take` meets its contract: the number that the search gives is the definition's, and where a tile is free fewer than
-- sixteen are held.
-- Assumes nothing.
use Prim.Native.Nat.{ℕ, ◌/◌}
use mathlib.Core.Path.{◌≡◌, refl, sym, ap, ◌∙◌}
use mathlib.Core.Bool.{true}
use native.Mathlib.Omega.{arith}
use Rattle.std.proofs.Common.{Option, Some, None, Ok, Err}
use Rattle.std.specs.Option.{ok_or}
use Rattle.std.proofs.lemmas.Result.{err_from_is_err_and}
use mathlib.Core.Option.{some}
use Rattle.general.proofs.LeastLaws.{least_some}
use Rattle.planner.specs.Tile.{tile_of, is_size, is_free, lowest_free}
use Rattle.planner.specs.Steps.{lowest_in}
use Rattle.planner.specs.Held.{held_tiles, valid_held}
use Rattle.planner.proofs.SizeLaws.{size_range, size_parts}
use Rattle.planner.proofs.HeldLaws.{valid_held_lem}
use Rattle.planner.proofs.TileLaws.{exists_tile}
use Rattle.planner.proofs.PartLaws.{room_for}
use Rattle.planner.proofs.SearchLaws.{search_none, search_some}
use Rattle.planner.proofs.RoomLaws.{take_size, take_held, take_none, take_some, takes_one}
use Rattle.planner.proofs.taking.take.Goals.{Else-not-is_valid, After-lowest_free, In_ok-number}
use Rattle.planner.proofs.taking.take.Goals as goal

-- what `ok_or` makes of a search
ok_or_err : {A E : Type 0} (o : Option A) (e y : E) → ok_or o e ≡ Err y → (o ≡ None) × (e ≡ y)
ok_or_err None e y q = (refl, cc)
ok_or_err (Some x) e y q = absurd (cc)

ok_or_ok : {A E : Type 0} (o : Option A) (e : E) (x : A) → ok_or o e ≡ Ok x → o ≡ Some x
ok_or_ok None e x q = absurd (cc)
ok_or_ok (Some y) e x q = cc

-- the size and the held tiles are good where the search begins
size-good : (c : Else-not-is_valid) → is_size c.args.bytes ≡ true
size-good c = sym c.is_size.ensures ∙ c.if-not-is_size.false

held-good : (c : Else-not-is_valid) → valid_held c.args.held ≡ true
held-good c = sym c.is_valid.ensures ∙ c.if-not-is_valid.false

-- the search goes through all tiles of the size
searched : (c : After-lowest_free) → lowest_in (held_tiles c.args.held) c.args.bytes 1 0 ≡ c.lowest_free.result
searched c =
    let s = size_parts _ (sym c.is_size.ensures ∙ c.if-not-is_size.false) in
    sym (c.lowest_free.ensures ∙ ap (λ (k : ℕ). lowest_in (held_tiles c.args.held) k 1 0) s.1)

-- a tile that was found
found_lem : (c : In_ok-number) → lowest_free (held_tiles c.args.held) c.args.bytes ≡ some c.in_ok-number.number
found_lem c =
    search_some _ _ _ (searched (goal.at.join-held-requires c).After-lowest_free ∙ ok_or_ok _ _ _ (sym c.ok_or.ensures.value ∙ c.in_ok-number.was))

pub returns-then-not-is_size : goal.returns-then-not-is_size
returns-then-not-is_size c = takes_one _ _ _ (sym (take_size _ _ (sym c.is_size.ensures ∙ c.if-not-is_size.true)))

pub returns-then-not-is_valid : goal.returns-then-not-is_valid
returns-then-not-is_valid c =
    takes_one _ _ _ (sym (take_held _ _ (sym c.is_size.ensures ∙ c.if-not-is_size.false) (sym c.is_valid.ensures ∙ c.if-not-is_valid.true)))

pub nonzero_div-bytes : goal.nonzero_div-bytes
nonzero_div-bytes c = (size_range _ (size-good (goal.at.nonzero_div-bytes c).Else-not-is_valid)).0

pub lowest_free-requires : goal.lowest_free-requires
unfolding is_size
lowest_free-requires c =
    let m = c.args.bytes in
    let s = (goal.at.lowest_free-requires c).Else-not-is_valid in
    let p = (size_parts m (size-good s)).0 in
    (p, refl, (size_range (16 / m) p).1, omega arith, (valid_held_lem _ (held-good s)).list)

pub returns-in_err-number : goal.returns-in_err-number
returns-in_err-number c =
    let p = err_from_is_err_and c.from_residual.result c.from_residual.ensures.1 in
    let s = (goal.at.returns-in_err-number c).Else-not-is_valid in
    let o = ok_or_err _ _ _ (sym c.ok_or.ensures.value ∙ c.in_err-number.was) in
    takes_one _ _ _ (p.1 ∙ ap Err (p.2 ∙ sym o.1) ∙ sym (take_none _ _ (size-good s) (held-good s) (search_none _ _ (searched (goal.at.returns-in_err-number c).After-lowest_free ∙ o.0))))

pub join-held-requires : goal.join-held-requires
join-held-requires c =
    let h = c.args.held in
    let s = (goal.at.join-held-requires c).Else-not-is_valid in
    let p = least_some (λ t. is_free (held_tiles h) (tile_of c.args.bytes t)) c.args.bytes _ (found_lem (goal.at.join-held-requires c).In_ok-number) in
    room_for h _ (omega arith) (held-good s) (exists_tile _ (record { size = size-good s; below = p.0 })) p.1

pub returns : goal.returns
returns c =
    let s = (goal.at.returns c).Else-not-is_valid in
    takes_one _ _ _ (ap (λ k. Ok (record { number = c.in_ok-number.number; held = k })) c.join-held.ensures
    ∙ sym (take_some _ _ _ (size-good s) (held-good s) (found_lem (goal.at.returns c).In_ok-number)))

-- `lent_tiles::take_in` meets its contract.
-- Assumes nothing.
use Rattle.std.proofs.Common.{◌≡◌, Err, sym, ap, ◌∙◌}
use Rattle.std.proofs.lemmas.Result.{err_from_is_err_and}
use Rattle.planner.specs.Held.{take_of}
use Rattle.planner.specs.declared.held.Held.{Held}
use Rattle.planner.proofs.RoomLaws.{take_size}
use Rattle.lent_tiles.specs.Lent.{held_in}
use Rattle.lent_tiles.proofs.LentLaws.{take_refused, take_unplaced, take_placed}
use Rattle.lent_tiles.proofs.take_in.Goals.{After-take}
use Rattle.lent_tiles.proofs.take_in.Goals as goal

pub returns-then-not-is_size : goal.returns-then-not-is_size
returns-then-not-is_size c =
    take_refused c.args.tiles.now c.args.count c.args.bytes _ (take_size (held_in c.args.tiles.now c.args.count) c.args.bytes (sym c.is_size.ensures ∙ c.if-not-is_size.true))

-- what was taken is what the held tiles of the array give
took : (c : After-take) → take_of (held_in c.args.tiles.now c.args.count) c.args.bytes ≡ c.take.result
took c = ap (λ (h : Held). take_of h c.args.bytes) (sym c.held_in.ensures) ∙ sym c.take.ensures.equal

pub returns-in_err-taken : goal.returns-in_err-taken
returns-in_err-taken c =
    let p = err_from_is_err_and c.from_residual.result c.from_residual.ensures.1 in
    p.1 ∙ ap Err p.2 ∙ take_refused _ _ _ _ (took (goal.at.returns-in_err-taken c).After-take ∙ c.in_err-taken.was)

pub returns-then-tiles-taken : goal.returns-then-tiles-taken
returns-then-tiles-taken c =
    take_unplaced _ _ _ c.in_ok-taken.taken (took (goal.at.returns-then-tiles-taken c).After-take ∙ c.in_ok-taken.was) c.if-tiles-taken.true

pub returns : goal.returns
returns c = take_placed _ _ _ c.in_ok-taken.taken (took (goal.at.returns c).After-take ∙ c.in_ok-taken.was) c.if-tiles-taken.false

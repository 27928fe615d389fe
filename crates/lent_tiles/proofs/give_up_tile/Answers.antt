-- `lent_tiles::give_up_tile` meets its contract.
-- Assumes nothing.
use Rattle.std.proofs.Common.{◌≡◌, Err, sym, ap, ◌∙◌}
use Rattle.std.proofs.lemmas.Result.{err_from_is_err_and}
use Rattle.planner.specs.Tile.{tile_of}
use Rattle.planner.specs.Held.{give_up_of}
use Rattle.planner.specs.declared.held.Held.{Held}
use Rattle.lent_tiles.specs.Lent.{give_up_in}
use Rattle.lent_tiles.proofs.LentLaws.{give_up_places, gives_up_refused, gives_up_left}
use Rattle.lent_tiles.proofs.give_up_tile.Goals.{After-give_up}
use Rattle.lent_tiles.proofs.give_up_tile.Goals as goal

-- what giving up left is what the held tiles of the array give
gave : (c : After-give_up) → give_up_in c.args.tiles.now c.args.count.now (tile_of c.args.bytes c.args.number) ≡ c.give_up.result
unfolding give_up_in
gave c = ap (λ (h : Held). give_up_of h (tile_of c.args.bytes c.args.number)) (sym c.held_in.ensures) ∙ sym c.give_up.ensures.equal

pub returns-in_err-left : goal.returns-in_err-left
returns-in_err-left c =
    let p = err_from_is_err_and c.from_residual.result c.from_residual.ensures.1 in
    gives_up_refused _ _ _ _ _ (p.1 ∙ ap Err p.2) (gave (goal.at.returns-in_err-left c).After-give_up ∙ c.in_err-left.was)

pub write_held-requires : goal.write_held-requires
write_held-requires c = give_up_places _ _ _ c.in_ok-left.left (gave (goal.at.write_held-requires c).After-give_up ∙ c.in_ok-left.was)

pub returns : goal.returns
returns c = gives_up_left _ _ _ c.in_ok-left.left _ _ (gave (goal.at.returns c).After-give_up ∙ c.in_ok-left.was) c.write_held.ensures.0 c.write_held.ensures.1

-- `planner::held::is_free` meets its contract: `any` asks of each tile whether it shares a byte.
-- Assumes nothing.
use Rattle.std.proofs.Common.{rules, tests, ap, ◌∙◌, not}
use Rattle.std.proofs.lemmas.Iterator.{YieldsList-from_slice}
use Rattle.std.proofs.lemmas.Iterator.Search.{any_from_yields_List}
use Rattle.planner.specs.Tile.{shares}
use Rattle.planner.proofs.HeldLaws.{free_any}
use Rattle.planner.proofs.held.is_free.Goals as goal

pub returns : goal.returns
returns c =
    let x = c.args.x in
    let l = c.args.others.now in
    ap not (any_from_yields_List (shares x) _ _ _ c.any.ensures.ran (YieldsList-from_slice l cc) (λ y b q k. search (rules, tests))) ∙ free_any l x

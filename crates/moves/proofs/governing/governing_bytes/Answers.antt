-- `moves::governing::governing_bytes` meets its contract: a vector's part of a predicate register lies in P.
-- Assumes nothing.
use Rattle.moves.proofs.PredicateLaws.{part_within}
use Rattle.moves.proofs.governing.governing_bytes.Goals as goal

pub slice_bounds-result-end : goal.slice_bounds-result-end
slice_bounds-result-end c =
    let a = c.args in
    let h = c.requires in
    part_within a.settings h.0 a.p.now h.1 a.number h.2 c.predicate_start-start.result c.predicate_start-start.ensures

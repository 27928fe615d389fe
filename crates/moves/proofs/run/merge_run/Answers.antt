-- `moves::run::merge_run` meets its contract: at once, or the parts of both buffers merged and given back.
-- Assumes nothing.
use mathlib.Core.Path.{sym, ◌∙◌}
use Rattle.general.proofs.ScatterLaws.{scatter_tests}
use Rattle.moves.proofs.RunLaws.{merged_lent}
use Rattle.moves.proofs.run.merge_run.Goals as goal

pub returns-then-is_full : goal.returns-then-is_full
returns-then-is_full c =
    c.copy_vector.ensures
    ∙ scatter_tests _ _ _ _ _ _ (λ k w. sym (c.is_full.ensures c.if-is_full.true k w))

pub returns-else-is_full : goal.returns-else-is_full
returns-else-is_full c =
    let a = c.args in
    merged_lent a.p.now a.size a.src.now a.at_src a.at_dst a.dst.now c.requires.3 (rw c.of.ensures at c.merge_part.ensures)

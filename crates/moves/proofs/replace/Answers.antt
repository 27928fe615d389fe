-- `moves::replace` meets its contract: where every element is active a copy does it.
-- Assumes nothing.
use mathlib.Core.Bool.{true}
use Rattle.moves.proofs.SpanLaws.{full_merged}
use Rattle.moves.proofs.replace.Goals as goal

pub returns-then-is_full : goal.returns-then-is_full
returns-then-is_full c =
    let a = c.args in
    full_merged true a.p.now a.size a.to a.from a.src.now a.dst.now c.requires.1 (c.is_full.ensures c.if-is_full.true) c.copy.ensures

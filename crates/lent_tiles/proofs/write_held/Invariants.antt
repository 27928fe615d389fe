-- `lent_tiles::write_held` meets its contract. The invariant: the tiles before place i are written.
-- Assumes nothing.
use Rattle.std.proofs.Common.{◌≡◌, ◌*◌}
use Rattle.general.specs.Scatter.{scatter, all}
use Rattle.lent_tiles.specs.Lent.{number_in}
use Rattle.lent_tiles.proofs.write_held.Given as goal

abbrev pub invariant-loop-i : goal.invariant-loop-i
invariant-loop-i l = l.tiles ≡ scatter (λ k. k) all (number_in l.fn.held) (2 * l.i) l.initial.tiles

-- `planner::tile::is_size` meets its contract: no size has more than 16 bytes.
-- Assumes nothing.
use mathlib.Core.Path.{sym}
use native.Mathlib.Omega.{arith}
use Rattle.general.proofs.BoolLaws.{refute}
use Rattle.planner.specs.Tile.{is_size}
use Rattle.planner.proofs.SizeLaws.{size_range}
use Rattle.planner.proofs.tile.is_size.Goals as goal

pub returns-then-bytes-gt16 : goal.returns-then-bytes-gt16
returns-then-bytes-gt16 c = sym (refute (is_size c.args.bytes) (λ e. absurd (omega (arith, (size_range _ e).1))))

pub returns : goal.returns
unfolding is_size
returns c = rw (c.bytes.ensures.0, c.of_bytes-size.ensures)

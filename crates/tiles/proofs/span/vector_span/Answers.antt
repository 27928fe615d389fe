-- `tiles::span::vector_span` meets its contract: vectors start a stride apart.
-- Assumes nothing.
use native.Mathlib.Nat.{mul-le-mul}
use native.Mathlib.Omega.{arith}
use Rattle.settings.proofs.SettingsLaws.{stride_fits}
use Rattle.tiles.proofs.span.vector_span.Goals as goal

pub overflow_mul-number : goal.overflow_mul-number
overflow_mul-number c =
    let f = stride_fits c.args.settings c.requires.0 in
    rw c.stride.ensures (omega (arith, mul-le-mul c.requires.1 f.longest))

-- `tiles::span::predicate_start` meets its contract: a stride is at most 256.
-- Assumes nothing.
use Prim.Native.Nat.{◌/◌, ◌≤◌}
use native.Mathlib.Nat.{mul-le-mul}
use native.Mathlib.Omega.{arith}
use Rattle.settings.proofs.SettingsLaws.{stride_fits}
use Rattle.tiles.proofs.span.predicate_start.Goals as goal

pub overflow_mul-result : goal.overflow_mul-result
overflow_mul-result c =
    let f = stride_fits c.args.settings c.requires in
    let few : c.args.number ≤ 255 = omega arith in
    let short : c.stride.result / 8 ≤ 32 = omega (arith, c.stride.ensures, f.longest) in
    omega (arith, mul-le-mul few short)

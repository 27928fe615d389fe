-- `settings::Settings::lengths` meets its contract: of vector lengths that are allowed the products fit.
-- Assumes nothing.
use Prim.Native.Nat.{◌≤◌}
use native.Mathlib.Omega.{arith}
use Rattle.settings.specs.Settings.{max_vector_bytes}
use Rattle.settings.proofs.SettingsLaws.{stride_fits, square_small, predicates_twice}
use Rattle.settings.proofs.Settings.lengths.Goals.{After-stride-stride}
use Rattle.settings.proofs.Settings.lengths.Goals as goal

-- the stride is small
small : (c : After-stride-stride) → c.stride-stride.result ≤ max_vector_bytes
small c = rw c.stride-stride.ensures (stride_fits c.args.self c.requires).longest

pub overflow_mul-result : goal.overflow_mul-result
overflow_mul-result c = omega (arith, small (goal.at.overflow_mul-result c).After-stride-stride)

pub overflow_mul-result-2 : goal.overflow_mul-result-2
overflow_mul-result-2 c = omega (arith, small (goal.at.overflow_mul-result-2 c).After-stride-stride)

pub overflow_mul-result-3 : goal.overflow_mul-result-3
overflow_mul-result-3 c = omega (arith, square_small _ (small (goal.at.overflow_mul-result-3 c).After-stride-stride))

pub returns : goal.returns
returns c = rw (c.stride-stride.ensures, predicates_twice c.args.self c.requires)

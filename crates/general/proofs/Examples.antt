-- The worked examples, computed.
-- Assumes nothing.
use Prim.Native.Nat.{zero, suc}
use mathlib.Core.Path.{refl}
use mathlib.Core.Bool.{true, false, true≢false}
use mathlib.Core.List.{[], ◌∷◌}
use native.Mathlib.Omega.{arith}
use Rattle.general.specs.Least.{least}
use Rattle.general.specs.Scatter.{scatter}
use Rattle.general.specs.Number.{number}
use Rattle.general.specs.Places.{Idle}
use Rattle.general.specs.Examples.{places, GeneralExamplesHold}

pub general_examples_hold : GeneralExamplesHold
unfolding least scatter number
general_examples_hold = record {
  three = refl;
  off = refl;
  same = refl;
  outside = refl;
  nothing = λ l. refl;
  idle = idle;
  busy = λ h. true≢false (h 2 (omega arith));
  every = refl;
  cleared = refl;
  counted = refl;
  numbers = (refl, refl, refl);
  first = refl;
  start = refl;
  last = refl;
  absent = (refl, refl);
  found = refl;
}
  where
    idle : Idle (places (false ∷ false ∷ true ∷ []) 2)
    idle zero l = refl
    idle (suc zero) l = refl
    idle (suc (suc k)) l = absurd (omega arith)

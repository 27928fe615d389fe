-- Laws of specs/Effect.antt that every operation has because its effect is places and values.
-- Assumes nothing.
use mathlib.Core.Path.{◌≡◌, refl}
use Rattle.general.specs.Places.{Idle}
use Rattle.general.proofs.PlaceLaws.{written_length, written_idle, written_other}
use Rattle.settings.specs.declared.Settings.{Settings}
use Rattle.encoding.specs.declared.operation.Operation.{Operation}
use Rattle.semantics.specs.State.{State, public_of}
use Rattle.semantics.specs.Effect.{writes_of, effect_of}
use Rattle.semantics.specs.Claims.{Keeps, EffectLeavesOthers}

module _ (s : Settings) (o : Operation) (t : State) where
  pub effect_keeps : Keeps t (effect_of s o t)
  unfolding effect_of
  effect_keeps = record { x = refl; p = refl; z = written_length _ _ _; za = written_length _ _ _; memory = written_length _ _ _ }

  -- ZA is untouched where no place of it is written
  pub effect_idle : Idle (writes_of s (public_of t) o).za → (effect_of s o t).za ≡ t.za
  unfolding effect_of
  effect_idle h = written_idle _ _ _ h

-- and every byte that is no place that is written stays
pub effect_leaves_others : EffectLeavesOthers
unfolding effect_of
effect_leaves_others s o t = record { z = λ i h. written_other _ _ _ i h; za = λ i h. written_other _ _ _ i h; memory = λ i h. written_other _ _ _ i h }

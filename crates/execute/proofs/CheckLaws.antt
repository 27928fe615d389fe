-- The three answers of the check of settings and lengths.
-- Assumes nothing.
use Rattle.std.specs.Prelude.{Ok, Err}
use Prim.Native.Nat.{ℕ}
use mathlib.Core.Path.{◌≡◌, refl, ap}
use mathlib.Core.Bool.{Bool, true, false}
use Rattle.settings.specs.Settings.{valid_settings, lengths_of}
use Rattle.settings.specs.declared.Lengths.{Lengths}
use Rattle.settings.specs.declared.Settings.{Settings}
use Rattle.semantics.specs.declared.answer.Refusal.TheVariants.{BadSettings, BadLengths}
use Rattle.semantics.specs.Execute.{valid_lengths}
use Rattle.semantics.specs.Steps.{Sized}
use Rattle.semantics.proofs.ExecuteLaws.{valid_sized, sized_settings, sized_lengths}
use Rattle.execute.specs.Promise.{ChecksBuffers}

-- the lengths of settings one by one
pub lengths_parts : (s : Settings) (l : Lengths) → l ≡ lengths_of s → (l.x ≡ (lengths_of s).x) × (l.z ≡ (lengths_of s).z) × (l.p ≡ (lengths_of s).p) × (l.za ≡ (lengths_of s).za)
lengths_parts s l e = (ap (λ (l : Lengths). l.x) e, ap (λ (l : Lengths). l.z) e, ap (λ (l : Lengths). l.p) e, ap (λ (l : Lengths). l.za) e)

module _ (s : Settings) (lx lz lp lza lm : ℕ) where
  pub bad_settings_lem : valid_settings s ≡ false → ChecksBuffers s lx lz lp lza lm (Err BadSettings)
  bad_settings_lem e = record { equal = rw e; numbers = rw e }

  pub right_lengths_lem : Sized s lx lz lp lza lm → ChecksBuffers s lx lz lp lza lm (Ok tt)
  right_lengths_lem h = record { equal = rw (sized_settings s _ _ _ _ _ h, sized_lengths s _ _ _ _ _ h); numbers = rw (sized_settings s _ _ _ _ _ h, sized_lengths s _ _ _ _ _ h) }

  pub bad_lengths_lem : valid_settings s ≡ true → (Sized s lx lz lp lza lm → ⊥) → ChecksBuffers s lx lz lp lza lm (Err BadLengths)
  bad_lengths_lem e n = go (valid_lengths s lx lz lp lza lm) refl
    where
      go : (b : Bool) → valid_lengths s lx lz lp lza lm ≡ b → ChecksBuffers s lx lz lp lza lm (Err BadLengths)
      go true q = absurd (n (valid_sized s lx lz lp lza lm e q))
      go false q = record { equal = rw (e, q); numbers = rw (e, q) }

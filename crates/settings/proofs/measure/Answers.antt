-- `settings::measure` meets its contract.
-- Assumes nothing.
use mathlib.Core.Path.{◌≡◌, sym, ◌∙◌}
use mathlib.Core.Bool.{true}
use Rattle.settings.specs.Settings.{valid_vectors}
use Rattle.settings.proofs.SettingsLaws.{measures_valid}
use Rattle.settings.proofs.measure.Goals.{Else-not-has_vectors}
use Rattle.settings.proofs.measure.Goals as goal

-- the vector lengths are allowed once the test is passed
ok : (c : Else-not-has_vectors) → valid_vectors c.args.settings ≡ true
ok c = sym c.has_vectors.ensures ∙ c.if-not-has_vectors.false

pub returns : goal.returns
returns c = measures_valid _ _ _ (ok (goal.at.returns c).Else-not-has_vectors) c.lengths-found.ensures

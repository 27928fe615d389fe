-- `settings::Settings::check` meets its contract.
-- Assumes nothing.
use mathlib.Core.Path.{sym, ◌∙◌}
use borrow.Author.Tests.{le-leb}
use Rattle.settings.proofs.SettingsLaws.{checks_valid}
use Rattle.settings.proofs.Settings.check.Goals as goal

pub returns : goal.returns
returns c =
    checks_valid _
    (rw (sym c.has_vectors.ensures ∙ c.if-not-has_vectors.false, le-leb _ _ c.if-self-gt-MAX_LEVEL.false))

-- `settings::Settings::has_vectors` meets its contract.
-- Assumes nothing.
use mathlib.Core.Path.{◌≡◌, sym, ◌∙◌}
use mathlib.Core.Bool.{true}
use native.Mathlib.Omega.{arith}
use Rattle.settings.specs.Settings.{is_vector_length, stride_of}
use Rattle.settings.proofs.SettingsLaws.{vectors_by_length}
use Rattle.settings.proofs.Settings.has_vectors.Goals.{Else-not-is_vector_length}
use Rattle.settings.proofs.Settings.has_vectors.Goals as goal

-- the largest is a length once the first test is passed
largest : (c : Else-not-is_vector_length) → is_vector_length (stride_of c.args.self) ≡ true
largest c = sym c.is_vector_length.ensures ∙ c.if-not-is_vector_length.false

pub returns : goal.returns
returns c =
    let s = c.args.self in
    c.is_vector_length-2.ensures ∙ vectors_by_length s (omega (arith, c.if-largest-self-2.false)) (λ e. largest (goal.at.returns c).Else-not-is_vector_length)

-- The worked examples, computed.
-- Assumes nothing.
use Rattle.std.specs.Prelude.{Result, ⊤}
use Prim.Native.Nat.{ℕ}
use mathlib.Core.Path.{◌≡◌, refl, ◌∙◌, ap}
use mathlib.Core.List.{List, [], ◌∷◌}
use Rattle.general.specs.Least.{least}
use Rattle.settings.specs.Settings.{is_vector_length}
use Rattle.settings.specs.Lent.{settings_in}
use Rattle.tiles.specs.Predicate.{active}
use Rattle.encoding.specs.Table.{table}
use Rattle.encoding.specs.Codec.{row_of_word, row_of_numbers, decode_of, decode_answer, encode_answer}
use Rattle.semantics.specs.declared.answer.Refusal.{Refusal}
use Rattle.semantics.specs.Answer.{executed_number}
use Rattle.semantics.specs.State.{State}
use Rattle.semantics.specs.Execute.{access_answer, answer_of, execute_of}
use Rattle.settings.specs.Results.{filled}
use Rattle.semantics.specs.Answer.{result_numbers}
use Rattle.sme_move.specs.Examples.{GivesResults, given_za, ExportExamplesHold}

-- what the definition gives is all that the promise allows
gives : (given : List ℕ) (w : ℕ) (t : State) (rs : List ℕ) {l : List ℕ} → (let a = (execute_of (settings_in given) w t).answer in executed_number a ∷ filled (result_numbers a) rs) ≡ l → GivesResults given w t rs l
gives given w t rs e r rs' t' p =
    (λ i. (p.number ∙ ap executed_number p.executes.answer) i ∷ (p.results ∙ ap (λ (a : Result ⊤ Refusal). filled (result_numbers a) rs) p.executes.answer) i) ∙ e

pub export_examples_hold : ExportExamplesHold
unfolding is_vector_length table row_of_word row_of_numbers decode_answer encode_answer decode_of least active access_answer answer_of execute_of
export_examples_hold = record {
  version_is = refl;
  listing_version_is = refl;
  results = refl;
  no_place = gives (given_za 1) _ _ _ refl;
  one_place = gives (given_za 1) _ _ _ refl;
  places = gives (given_za 1) _ _ _ refl;
  zeros = gives (given_za 0) _ _ _ refl;
  decodes = λ r f' p i. p.number i ∷ p.fields i;
  undecodable = λ r f' p i. p.number i ∷ p.fields i;
  bad_level = λ r f' p i. p.number i ∷ p.fields i;
  encodes = λ r w p i. p.number i ∷ p.word i ∷ [];
  out_of_range = λ r w p i. p.number i ∷ p.word i ∷ [];
  lengths = λ r ls' p i. p.number i ∷ p.lengths i;
  largest = λ r ls' p i. p.number i ∷ p.lengths i;
  below = λ r ls' p i. p.number i ∷ p.lengths i;
  no_lengths = λ r ls' p i. p.number i ∷ p.lengths i;
  no_level = λ r ls' p i. p.number i ∷ p.lengths i;
}

-- The worked examples, computed.
-- Assumes nothing.
use Prim.Native.Nat.{ℕ}
use mathlib.Core.Path.{◌≡◌, refl, ap, ◌∙◌}
use mathlib.Core.List.{List, ◌∷◌}
use Rattle.general.specs.Least.{least}
use Rattle.general.specs.Number.{number}
use Rattle.general.specs.Scatter.{scatter}
use Rattle.settings.specs.Settings.{is_vector_length}
use Rattle.settings.specs.Lent.{settings_in}
use Rattle.settings.specs.Results.{filled}
use Rattle.tiles.specs.Predicate.{active}
use Rattle.tiles.specs.Tile.{byte_of, slice_at}
use Rattle.tiles.specs.Group.{group_at}
use Rattle.encoding.specs.Table.{table}
use Rattle.encoding.specs.Codec.{row_of_word, decode_of}
use Rattle.semantics.specs.Effect.{writes_of, values_of, effect_of}
use Rattle.semantics.specs.Execute.{access_answer, answer_of, execute_of}
use Rattle.semantics.specs.Run.{run_of}
use Rattle.listing.specs.Words.{words_from}
use Rattle.listing.specs.Answer.{listed_number, listing_numbers}
use Rattle.listing.specs.Listing.{listing_of}
use Rattle.listing.specs.Examples.{start}
use Rattle.listing.specs.declared.answer.ListingRun.{ListingRun}
use Rattle.sme_listing.specs.Examples.{GivesResults, given, ListingExportsHold}

-- what the definition gives is all that the promise allows
gives : (given l : List ℕ) (n : ℕ) (rs : List ℕ) {res : List ℕ} → (let q = (listing_of (settings_in given) l n start).run in listed_number q.answer ∷ filled (listing_numbers q) rs) ≡ res → GivesResults given l n rs res
gives given l n rs e r rs' t' p =
    (λ i. (p.number ∙ ap (λ (q : ListingRun). listed_number q.answer) p.runs.run) i ∷ (p.results ∙ ap (λ (q : ListingRun). filled (listing_numbers q) rs) p.runs.run) i) ∙ e

pub listing_exports_hold : ListingExportsHold
unfolding number table row_of_word decode_of is_vector_length scatter active byte_of slice_at group_at least writes_of values_of effect_of access_answer answer_of execute_of run_of words_from listing_of
listing_exports_hold = record {
  no_place = gives (given 1) _ _ _ refl;
  one_place = gives (given 1) _ _ _ refl;
  two_places = gives (given 1) _ _ _ refl;
  places = gives (given 1) _ _ _ refl;
  allowed = gives (given 1) _ _ _ refl;
  odd = gives (given 1) _ _ _ refl;
  no_level = gives (given 4) _ _ _ refl;
}

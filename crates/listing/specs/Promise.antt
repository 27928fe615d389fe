-- What running a listing promises. Renders 01 §9 for request 5. To believe: that count, answer and state are those of the definition, and the answer also
-- that of the table.
-- Assumes nothing.
use Rattle.std.specs.Prelude.{ℕ, ◌≡◌, true, cond, not, List, [], ◌∷◌, eqb}
use Rattle.settings.specs.Answer.{Answer, answer_with, done, bad_settings, bad_lengths, bad_listing}
use Rattle.settings.specs.Settings.{valid_settings}
use Rattle.settings.specs.declared.Settings.{Settings}
use Rattle.semantics.specs.State.{State, public_of}
use Rattle.semantics.specs.Execute.{execute_of}
use Rattle.semantics.specs.Lines.{AnswerLine, line_with, first_line, answer_in_numbers}
use Rattle.listing.specs.declared.answer.ListingRun.{ListingRun}
use Rattle.listing.specs.Answer.{listed_answer}
use Rattle.listing.specs.Listing.{right_lengths, is_whole, allowed_in, listing_of}

-- the answer once more, in numbers: of words one after another, each by the table of answers on the state that the one before left, the first that is not 0
unfoldable pub words_in_numbers : Settings → List ℕ → State → Answer
words_in_numbers s [] t = answer_with done []
words_in_numbers s (w ∷ ws) t =
    let a = answer_in_numbers s w (public_of t) in
    cond (eqb a.number done) (words_in_numbers s ws (execute_of s w t).state) a

-- the lines of the table that look at no word, and then the words
abbrev pub listing_lines : Settings → List ℕ → ℕ → State → List AnswerLine
listing_lines s l allowance t =
    line_with (not (valid_settings s)) bad_settings [] ∷
    line_with (not (right_lengths s t)) bad_lengths [] ∷
    line_with (not (is_whole l)) bad_listing [] ∷ record { applies = true; answer = words_in_numbers s (allowed_in l allowance) t } ∷ []

unfoldable pub listing_in_numbers : Settings → List ℕ → ℕ → State → Answer
listing_in_numbers s l allowance t = first_line (listing_lines s l allowance t)

-- count and answer, the answer in numbers, and the state, whichever answer
pub record RunsListing (s : Settings) (l : List ℕ) (allowance : ℕ) (t : State) (r : ListingRun) (t' : State) : Type 0 where
  pub run : r ≡ (listing_of s l allowance t).run
  pub numbers : listed_answer r.answer ≡ listing_in_numbers s l allowance t
  pub state : t' ≡ (listing_of s l allowance t).state

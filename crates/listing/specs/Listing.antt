-- Running a listing in one call: what it answers, how many words are done, and the state afterwards. Renders request 5.
-- To believe: `listing_of`. Settings and lengths come first, then the listing's length, then its words one after another as `run_of` runs them, which iterates
-- the definition of execution; as many of them as the allowance says at most.
-- Assumes nothing.
use Rattle.std.specs.Prelude.{ℕ, ◌%◌, Bool, cond, List, eqb, length, take, Result, ⊤, Ok, Err}
use Rattle.settings.specs.declared.Settings.{Settings}
use Rattle.semantics.specs.declared.answer.Refusal.{Refusal}
use Rattle.semantics.specs.State.{State}
use Rattle.semantics.specs.Execute.{valid_lengths, buffers_answer, if_done}
use Rattle.semantics.specs.Run.{Ran, run_of}
use Rattle.listing.specs.Answer.{as_listed}
use Rattle.listing.specs.declared.answer.ListingRefusal.{ListingRefusal}
use Rattle.listing.specs.declared.answer.ListingRefusal.TheVariants.{BadListing}
use Rattle.listing.specs.declared.answer.ListingRun.{ListingRun}
use Rattle.listing.specs.Words.{words_in}

-- how many words were done and the answer, and the state
pub record ListingOutcome : Type 0 where
  pub run : ListingRun
  pub state : State

-- no word was run, and every buffer is as it was
abbrev pub not_run : Result ⊤ ListingRefusal → State → ListingOutcome
not_run a t = record { run = record { words = 0; answer = a }; state = t }

-- words were run
abbrev pub ended : Ran → ListingOutcome
ended r = record { run = record { words = r.words; answer = as_listed r.ending.answer }; state = r.ending.state }

-- the lengths of buffers are right
abbrev pub right_lengths : Settings → State → Bool
right_lengths s t = valid_lengths s (length t.x) (length t.z) (length t.p) (length t.za) (length t.memory)

-- settings and lengths of buffers, which no word is needed for: done, or answer 1 or 2
abbrev pub buffers_checked : Settings → State → Result ⊤ Refusal
buffers_checked s t = buffers_answer s (length t.x) (length t.z) (length t.p) (length t.za) (length t.memory) (Ok tt)

-- the length is a multiple of 4
abbrev pub is_whole : List ℕ → Bool
is_whole l = eqb (length l % 4) 0

-- the words that may run
abbrev pub allowed_in : List ℕ → ℕ → List ℕ
allowed_in l allowance = take allowance (words_in l)

unfoldable pub listing_of : Settings → List ℕ → ℕ → State → ListingOutcome
listing_of s l allowance t =
    if_done (buffers_checked s t) (not_run (as_listed (buffers_checked s t)) t)
    (cond (is_whole l) (ended (run_of s (allowed_in l allowance) t)) (not_run (Err BadListing) t))

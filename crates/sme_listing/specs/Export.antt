-- What the exported function for listings promises, in numbers. Renders request 5 and 01 §6.
-- To believe: the answer is given as its number; results are written whatever the answer, as far as the host's array has places.
-- What settings a host's numbers are stands in crates/settings/specs/Lent.antt.
-- Assumes nothing.
use Rattle.std.specs.Prelude.{ℕ, ◌≡◌, List}
use Rattle.settings.specs.Results.{filled}
use Rattle.settings.specs.declared.Settings.{Settings}
use Rattle.semantics.specs.State.{State}
use Rattle.listing.specs.Answer.{listed_number, listing_numbers}
use Rattle.listing.specs.Promise.{RunsListing}
use Rattle.listing.specs.declared.answer.ListingRun.{ListingRun}

-- what running a listing promises, with the number of its answer, and its results in the host's array
pub record ListingExports (s : Settings) (l : List ℕ) (allowance : ℕ) (t : State) (rs : List ℕ) (r : ℕ) (rs' : List ℕ) (t' : State) : Type 0 where
  pub run : ListingRun
  pub runs : RunsListing s l allowance t run t'
  pub number : r ≡ listed_number run.answer
  pub results : rs' ≡ filled (listing_numbers run) rs

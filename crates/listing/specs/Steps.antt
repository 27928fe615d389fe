-- What single steps of running a listing promise. Only contracts of inner functions cite these: nothing here has to be believed.
-- Assumes nothing.
use Rattle.std.specs.Prelude.{◌≡◌}
use Rattle.semantics.specs.State.{State}
use Rattle.semantics.specs.Run.{Ran}
use Rattle.listing.specs.declared.answer.ListingRun.{ListingRun}
use Rattle.listing.specs.Listing.{ended}

-- a run of words ended so
abbrev pub EndsAs : Ran → ListingRun → State → Type 0
EndsAs ran r t = (r ≡ (ended ran).run) × (t ≡ (ended ran).state)

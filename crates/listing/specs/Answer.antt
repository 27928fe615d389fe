-- The number and the values of each answer of a listing. Renders request 5 over 01 §6.
-- To believe: 9, which carries nothing; every other answer is one of execution; and the order of the results: address, element, words that were done.
-- Assumes nothing.
use Rattle.std.specs.Prelude.{ℕ, List, [], ◌∷◌, Result, ⊤, Ok, Err}
use Rattle.settings.specs.Answer.{Answer, answer_with, done, bad_listing}
use Rattle.semantics.specs.Answer.{refusal_answer, carried}
use Rattle.semantics.specs.declared.answer.Fault.{Fault}
use Rattle.semantics.specs.declared.answer.Refusal.{Refusal}
use Rattle.listing.specs.declared.answer.ListingRun.{ListingRun}
use Rattle.listing.specs.declared.answer.ListingRefusal.{ListingRefusal}
use Rattle.listing.specs.declared.answer.ListingRefusal.TheVariants.{BadListing, Refused}

abbrev pub listing_refusal_answer : ListingRefusal → Answer
listing_refusal_answer BadListing = answer_with bad_listing []
listing_refusal_answer (Refused r) = refusal_answer r

abbrev pub listed_answer : Result ⊤ ListingRefusal → Answer
listed_answer (Ok _) = answer_with done []
listed_answer (Err r) = listing_refusal_answer r

-- the answer of a word, or of what is checked before any, as a listing's
abbrev pub as_listed : Result ⊤ Refusal → Result ⊤ ListingRefusal
as_listed (Ok _) = Ok tt
as_listed (Err r) = Err (Refused r)

abbrev pub listing_refusal_number : ListingRefusal → ℕ
listing_refusal_number r = (listing_refusal_answer r).number

abbrev pub listing_refusal_fault : ListingRefusal → Fault
listing_refusal_fault r = carried (listing_refusal_answer r)

abbrev pub listed_number : Result ⊤ ListingRefusal → ℕ
listed_number a = (listed_answer a).number

abbrev pub listed_fault : Result ⊤ ListingRefusal → Fault
listed_fault a = carried (listed_answer a)

-- the results of a listing, in the order in which a host gets them
abbrev pub listing_numbers : ListingRun → List ℕ
listing_numbers r = (listed_fault r.answer).address ∷ (listed_fault r.answer).element ∷ r.words ∷ []

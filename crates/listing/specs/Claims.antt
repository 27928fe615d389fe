-- The theorems about listings, as statements; proofs/Claims.antt proves each. Request 5's own sentences, in words and lists of words: what a definition says by
-- taking, cutting and iterating is said here by what was done and what was not.
-- Assumes nothing.
use Rattle.std.specs.Prelude.{ℕ, ◌+◌, ◌*◌, ◌/◌, ◌%◌, ◌<◌, ◌≤◌, min, ◌≡◌, true, false, List, [], ◌∷◌, ◌++◌, length, get_or, drop, Ok, Err, Result, ⊤}
use Rattle.general.specs.Determined.{Determined, Met, IsOneOf}
use Rattle.settings.specs.Settings.{valid_settings}
use Rattle.settings.specs.declared.Settings.{Settings}
use Rattle.semantics.specs.declared.answer.Refusal.{Refusal}
use Rattle.semantics.specs.declared.answer.Refusal.TheVariants.{BadSettings, BadLengths}
use Rattle.semantics.specs.State.{State}
use Rattle.semantics.specs.Execute.{if_done, execute_of}
use Rattle.semantics.specs.Claims.{Keeps}
use Rattle.listing.specs.declared.answer.ListingRefusal.{ListingRefusal}
use Rattle.listing.specs.declared.answer.ListingRefusal.TheVariants.{BadListing, Refused}
use Rattle.listing.specs.declared.answer.ListingRun.{ListingRun}
use Rattle.listing.specs.Words.{word_at, words_in}
use Rattle.listing.specs.Answer.{as_listed, listed_number}
use Rattle.listing.specs.Listing.{not_run, right_lengths, allowed_in, listing_of}
use Rattle.listing.specs.Promise.{RunsListing}

-- ---- the words of a listing

-- there is a word for every four bytes, of which the first counts least
pub record WordsAre (l : List ℕ) : Type 0 where
  pub many : length (words_in l) ≡ length l / 4
  pub each : (i : ℕ) → i < length l / 4 →
      get_or (words_in l) i 0 ≡ get_or l (4 * i) 0 + 256 * get_or l (4 * i + 1) 0 + 65536 * get_or l (4 * i + 2) 0 + 16777216 * get_or l (4 * i + 3) 0

abbrev pub WordsAreBytes : Type 0
WordsAreBytes = (l : List ℕ) → WordsAre l

-- those that may run are the first of them: as many as the allowance says, or all
pub record AllowedAre (l : List ℕ) (n : ℕ) : Type 0 where
  pub many : length (allowed_in l n) ≡ min n (length l / 4)
  pub each : (i : ℕ) → i < min n (length l / 4) → get_or (allowed_in l n) i 0 ≡ word_at l i

abbrev pub AllowedAreFirst : Type 0
AllowedAreFirst = (l : List ℕ) (n : ℕ) → AllowedAre l n

-- ---- single calls, one after another

-- words that are all done by single calls, each on the state that the one before left, from t to t'
abbrev pub AllDone : Settings → List ℕ → State → State → Type 0
AllDone s [] t t' = t' ≡ t
AllDone s (w ∷ ws) t t' = ((execute_of s w t).answer ≡ Ok tt) × AllDone s ws (execute_of s w t).state t'

-- no words are left, or the first of those that are left is refused by a single call
abbrev pub StopsAt : Settings → List ℕ → State → Result ⊤ ListingRefusal → Type 0
StopsAt s [] t a = a ≡ Ok tt
StopsAt s (w ∷ ws) t a = (r : Refusal) × ((execute_of s w t).answer ≡ Err r) × (a ≡ Err (Refused r))

-- Of the words that may run some are done, one after another, and counted; the state is the one that they left, so that the word that stops them changes nothing; and
-- they stop at the end with 0, or at a word that is refused, with its answer.
pub record Stops (s : Settings) (ws : List ℕ) (t : State) (r : ListingRun) (t' : State) : Type 0 where
  pub before : List ℕ
  pub after : List ℕ
  pub words : ws ≡ before ++ after
  pub count : r.words ≡ length before
  pub done : AllDone s before t t'
  pub stop : StopsAt s after t' r.answer

-- ---- what a listing does

-- Answers in order: 1, 2, 9, each with no word done and every buffer as it was, whatever the words and the allowance; then what the words give, and nothing else.
pub record ListingDoes (s : Settings) (l : List ℕ) (n : ℕ) (t : State) : Type 0 where
  pub settings : valid_settings s ≡ false → listing_of s l n t ≡ not_run (Err (Refused BadSettings)) t
  pub lengths : valid_settings s ≡ true → right_lengths s t ≡ false → listing_of s l n t ≡ not_run (Err (Refused BadLengths)) t
  pub odd : valid_settings s ≡ true → right_lengths s t ≡ true → (length l % 4 ≡ 0 → ⊥) → listing_of s l n t ≡ not_run (Err BadListing) t
  pub words : valid_settings s ≡ true → right_lengths s t ≡ true → length l % 4 ≡ 0 → Stops s (allowed_in l n) t (listing_of s l n t).run (listing_of s l n t).state
  pub only : valid_settings s ≡ true → right_lengths s t ≡ true → length l % 4 ≡ 0 →
      (r : ListingRun) (t' : State) → Stops s (allowed_in l n) t r t' → (r ≡ (listing_of s l n t).run) × (t' ≡ (listing_of s l n t).state)

abbrev pub ListingsDo : Type 0
ListingsDo = (s : Settings) (l : List ℕ) (n : ℕ) (t : State) → ListingDoes s l n t

-- 1, 2 and 9 are given only then: no word's answer is one of them
pub record EarlyAnswers (s : Settings) (l : List ℕ) (n : ℕ) (t : State) : Type 0 where
  pub one : listed_number (listing_of s l n t).run.answer ≡ 1 → valid_settings s ≡ false
  pub two : listed_number (listing_of s l n t).run.answer ≡ 2 → (valid_settings s ≡ true) × (right_lengths s t ≡ false)
  pub nine : listed_number (listing_of s l n t).run.answer ≡ 9 → (valid_settings s ≡ true) × (right_lengths s t ≡ true) × (length l % 4 ≡ 0 → ⊥)

abbrev pub EarlyAnswersExactly : Type 0
EarlyAnswersExactly = (s : Settings) (l : List ℕ) (n : ℕ) (t : State) → EarlyAnswers s l n t

-- the allowance and the listing bound what is done, and with 0 one of them is reached; X, P and every length stay
pub record ListingBounded (s : Settings) (l : List ℕ) (n : ℕ) (t : State) : Type 0 where
  pub allowed : (listing_of s l n t).run.words ≤ n
  pub listed : (listing_of s l n t).run.words ≤ length l / 4
  pub reached : (listing_of s l n t).run.answer ≡ Ok tt → (listing_of s l n t).run.words ≡ min n (length l / 4)
  pub kept : Keeps t (listing_of s l n t).state

abbrev pub ListingsBounded : Type 0
ListingsBounded = (s : Settings) (l : List ℕ) (n : ℕ) (t : State) → ListingBounded s l n t

-- a listing of one word, if that may run, is a single call
abbrev pub OneWordIsCall : Type 0
OneWordIsCall =
    (s : Settings) (l : List ℕ) (n : ℕ) (t : State) → length l ≡ 4 → 0 < n →
    let o = execute_of s (word_at l 0) t in
    ((listing_of s l n t).run ≡ record { words = if_done o.answer 0 1; answer = as_listed o.answer }) × ((listing_of s l n t).state ≡ o.state)

-- A listing in two parts, the second from where the first stopped by its allowance or at the end, is the listing run whole.
abbrev pub PartsAreWhole : Type 0
PartsAreWhole =
    (s : Settings) (l : List ℕ) (a b : ℕ) (t : State) →
    let f = listing_of s l a t in
    f.run.answer ≡ Ok tt →
    let g = listing_of s (drop (4 * f.run.words) l) b f.state in
    listing_of s l (a + b) t ≡ record { run = record { words = f.run.words + g.run.words; answer = g.run.answer }; state = g.state }

-- ---- the promise

-- What running a listing promises leaves nothing open: one count, one answer and one state. The number is one of nine.
pub record ListingDetermines (s : Settings) (l : List ℕ) (n : ℕ) (t : State) : Type 0 where
  pub met : Met (λ (o : ListingRun × State). RunsListing s l n t o.0 o.1)
  pub determined : Determined (λ (o : ListingRun × State). RunsListing s l n t o.0 o.1)
  pub numbers : (r : ListingRun) (t' : State) → RunsListing s l n t r t' → IsOneOf (0 ∷ 1 ∷ 2 ∷ 3 ∷ 4 ∷ 5 ∷ 6 ∷ 7 ∷ 9 ∷ []) (listed_number r.answer)

abbrev pub ListingsDetermine : Type 0
ListingsDetermine = (s : Settings) (l : List ℕ) (n : ℕ) (t : State) → ListingDetermines s l n t

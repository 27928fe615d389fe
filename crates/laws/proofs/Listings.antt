-- The theorems of specs/Listings.antt, word by word; and the listing that is written out, computed.
-- Assumes nothing.
use Rattle.std.specs.Prelude.{Result, ⊤, Ok, Err}
use Prim.Native.Nat.{ℕ, zero, suc, ◌/◌, ◌<◌, ◌≤◌, min}
use mathlib.Core.Path.{◌≡◌, refl, sym, ap, ◌∙◌}
use mathlib.Core.Bool.{Bool, true, false, cond, true≢false}
use mathlib.Core.List.{List, [], ◌∷◌}
use native.Mathlib.Nat.{zero-add}
use native.Mathlib.Omega.{arith}
use lib.ListN.{length, get_or, take}
use Rattle.general.specs.Least.{least}
use Rattle.general.specs.Number.{number}
use Rattle.general.specs.Scatter.{scatter}
use Rattle.settings.specs.Settings.{is_vector_length}
use Rattle.settings.specs.declared.Settings.{Settings}
use Rattle.tiles.specs.Predicate.{active}
use Rattle.tiles.specs.Tile.{byte_of, slice_at}
use Rattle.tiles.specs.Group.{group_at}
use Rattle.encoding.specs.Table.{table}
use Rattle.encoding.specs.Codec.{row_of_word, decode_of}
use Rattle.tiles.specs.declared.element.ElementSize.TheVariants.{Bits32}
use Rattle.tiles.specs.declared.direction.Direction.TheVariants.{Horizontal}
use Rattle.semantics.specs.declared.answer.Refusal.{Refusal}
use Rattle.semantics.specs.declared.answer.Refusal.TheVariants.{BadSettings}
use Rattle.semantics.specs.State.{State}
use Rattle.semantics.specs.Effect.{writes_of, values_of, effect_of}
use Rattle.semantics.specs.Execute.{access_answer, answer_of, if_done, execute_of}
use Rattle.semantics.specs.ExampleBuffers.{za_at}
use Rattle.semantics.specs.Run.{one_more, run_of}
use Rattle.semantics.proofs.ExecuteLaws.{refused_not_done}
use Rattle.listing.specs.Answer.{as_listed}
use Rattle.listing.specs.declared.answer.ListingRefusal.{ListingRefusal}
use Rattle.listing.specs.declared.answer.ListingRefusal.TheVariants.{BadListing, Refused}
use Rattle.listing.specs.Words.{word_at, words_from}
use Rattle.listing.specs.Listing.{ListingOutcome, not_run, ended, buffers_checked, is_whole, allowed_in, listing_of}
use Rattle.listing.proofs.ListingLaws.{unended, unended_listed, listed_done}
use Rattle.listing.proofs.WordLaws.{length-words, words_at, take_words}
use Rattle.laws.specs.Calls.{Call, run, moved, moves}
use Rattle.laws.specs.Crossing.{occurrences, Crosses}
use Rattle.laws.specs.Runs.{call_at, calls_of}
use Rattle.laws.specs.Listings.{listing_calls, ListingIsCalls, CallsAre, ListingCallsAre, crossing_calls, ListingCrosses}
use Rattle.laws.proofs.Crossing.{crossing}
use Rattle.laws.proofs.Runs.{run_is_calls}
use Rattle.laws.proofs.Shown.{once}

-- ---- ZA

pub listing_is_calls : ListingIsCalls
unfolding run listing_calls listing_of
listing_is_calls s l n t = go (buffers_checked s t) (is_whole l)
  where
    go : (c : Result ⊤ Refusal) (b : Bool) → run (if_done c [] (cond b (calls_of s (allowed_in l n) t) [])) t.za ≡ (if_done c (not_run (as_listed c) t) (cond b (ended (run_of s (allowed_in l n) t)) (not_run (Err BadListing) t))).state.za
    go (Ok _) true = run_is_calls s (allowed_in l n) t
    go (Ok _) false = refl
    go (Err r) b = refl

-- ---- call by call

module _ (s : Settings) where
  -- call k is of word k, on the state that a run of k words leaves
  calls_each : (ws : List ℕ) (t : State) (d : Call) (k : ℕ) → k < length (calls_of s ws t) → get_or (calls_of s ws t) k d ≡ call_at s (get_or ws k 0) (run_of s (take k ws) t).ending.state
  unfolding calls_of run_of
  calls_each [] t d k h = absurd (omega (arith, h))
  calls_each (w ∷ ws) t d zero h = refl
  calls_each (w ∷ ws) t d (suc k) h = go (execute_of s w t).answer h (calls_each ws (execute_of s w t).state d k)
    where
      go : (a : Result ⊤ Refusal) → suc k < suc (length (if_done a [] (calls_of s ws (execute_of s w t).state))) →
          (k < length (calls_of s ws (execute_of s w t).state) → get_or (calls_of s ws (execute_of s w t).state) k d ≡ call_at s (get_or ws k 0) (run_of s (take k ws) (execute_of s w t).state).ending.state) →
          get_or (if_done a [] (calls_of s ws (execute_of s w t).state)) k d ≡
          call_at s (get_or ws k 0) (if_done a (record { words = 0; ending = execute_of s w t }) (one_more (run_of s (take k ws) (execute_of s w t).state))).ending.state
      go (Ok _) h ih = ih (omega (arith, h))
      go (Err r) h ih = absurd (omega (arith, h))

  -- and meets the ZA that such a run leaves
  calls_met : (ws : List ℕ) (t : State) (k : ℕ) → k < length (calls_of s ws t) → run (take k (calls_of s ws t)) t.za ≡ (run_of s (take k ws) t).ending.state.za
  unfolding run calls_of run_of
  calls_met [] t k h = absurd (omega (arith, h))
  calls_met (w ∷ ws) t zero h = refl
  calls_met (w ∷ ws) t (suc k) h = go (execute_of s w t).answer h (calls_met ws (execute_of s w t).state k)
    where
      go : (a : Result ⊤ Refusal) → suc k < suc (length (if_done a [] (calls_of s ws (execute_of s w t).state))) →
          (k < length (calls_of s ws (execute_of s w t).state) → run (take k (calls_of s ws (execute_of s w t).state)) (execute_of s w t).state.za ≡ (run_of s (take k ws) (execute_of s w t).state).ending.state.za) →
          run (take k (if_done a [] (calls_of s ws (execute_of s w t).state))) (execute_of s w t).state.za ≡
          (if_done a (record { words = 0; ending = execute_of s w t }) (one_more (run_of s (take k ws) (execute_of s w t).state))).ending.state.za
      go (Ok _) h ih = ih (omega (arith, h))
      go (Err r) h ih = absurd (omega (arith, h))

  -- there are as many as words are done, and one more where one is refused
  calls_many : (ws : List ℕ) (t : State) → length (calls_of s ws t) ≡ if_done (run_of s ws t).ending.answer (suc (run_of s ws t).words) (run_of s ws t).words
  unfolding calls_of run_of
  calls_many [] t = refl
  calls_many (w ∷ ws) t = go (execute_of s w t).answer refl (calls_many ws (execute_of s w t).state)
    where
      more : (a : Result ⊤ Refusal) (n : ℕ) → suc (if_done a (suc n) n) ≡ if_done a (suc (suc n)) (suc n)
      more (Ok _) n = refl
      more (Err r) n = refl

      go : (a : Result ⊤ Refusal) → (execute_of s w t).answer ≡ a →
          length (calls_of s ws (execute_of s w t).state) ≡ if_done (run_of s ws (execute_of s w t).state).ending.answer (suc (run_of s ws (execute_of s w t).state).words) (run_of s ws (execute_of s w t).state).words →
          (let r = if_done a (record { words = 0; ending = execute_of s w t }) (one_more (run_of s ws (execute_of s w t).state)) in
          suc (length (if_done a [] (calls_of s ws (execute_of s w t).state))) ≡ if_done r.ending.answer (suc r.words) r.words)
      go (Ok _) e ih = ap suc ih ∙ more (run_of s ws (execute_of s w t).state).ending.answer (run_of s ws (execute_of s w t).state).words
      go (Err r) e ih = sym (ap (λ (a : Result ⊤ Refusal). if_done a 1 0) e)

  -- no more than words
  calls_few : (ws : List ℕ) (t : State) → length (calls_of s ws t) ≤ length ws
  unfolding calls_of
  calls_few [] t = omega arith
  calls_few (w ∷ ws) t = go (execute_of s w t).answer (calls_few ws (execute_of s w t).state)
    where
      go : (a : Result ⊤ Refusal) → length (calls_of s ws (execute_of s w t).state) ≤ length ws → suc (length (if_done a [] (calls_of s ws (execute_of s w t).state))) ≤ suc (length ws)
      go (Ok _) h = omega (arith, h)
      go (Err r) h = omega arith

-- words were run, or were refused before any was
abbrev has_ended : Result ⊤ ListingRefusal → Bool
has_ended (Err BadListing) = false
has_ended (Err (Refused r)) = true
has_ended (Ok _) = true

ended_listed : (a : Result ⊤ Refusal) → has_ended (as_listed a) ≡ true
ended_listed (Ok _) = refl
ended_listed (Err r) = refl

module _ (s : Settings) (l : List ℕ) (n : ℕ) (t : State) where
  -- the words that may run
  allowed : allowed_in l n ≡ words_from l 0 (min n (length l / 4))
  allowed = take_words l 0 n (length l / 4) (min n (length l / 4)) refl

  -- a call is of a word that may run
  below : (k : ℕ) → k < length (calls_of s (allowed_in l n) t) → k < min n (length l / 4)
  below k h = omega (arith, h, calls_few s (allowed_in l n) t, ap (λ (ws : List ℕ). length ws) allowed, length-words l 0 (min n (length l / 4)))

  -- the words before it
  before : (k : ℕ) → k < length (calls_of s (allowed_in l n) t) → take k (allowed_in l n) ≡ allowed_in l k
  before k h =
      ap (take k) allowed ∙ take_words l 0 k (min n (length l / 4)) k (omega (arith, below k h)) ∙ sym (take_words l 0 k (length l / 4) k (omega (arith, below k h)))

  met_allowed : (k : ℕ) → k < length (calls_of s (allowed_in l n) t) → run (take k (calls_of s (allowed_in l n) t)) t.za ≡ (run_of s (allowed_in l k) t).ending.state.za
  met_allowed k h = calls_met s (allowed_in l n) t k h ∙ ap (λ (ws : List ℕ). (run_of s ws t).ending.state.za) (before k h)

  -- of words that may run, call k is of word k of the listing
  each_allowed : (k : ℕ) → k < length (calls_of s (allowed_in l n) t) → get_or (calls_of s (allowed_in l n) t) k (call_at s 0 t) ≡ call_at s (word_at l k) (run_of s (allowed_in l k) t).ending.state
  each_allowed k h =
      calls_each s (allowed_in l n) t (call_at s 0 t) k h ∙
      (λ i. call_at s (word i) (run_of s (before k h i) t).ending.state)
    where
      word : get_or (allowed_in l n) k 0 ≡ word_at l k
      word =
          ap (λ (ws : List ℕ). get_or ws k 0) allowed ∙ words_at l 0 (min n (length l / 4)) k (below k h) ∙ ap (λ (j : ℕ). word_at l j) (zero-add k)

  -- what is claimed of calls and of the outcome by allowance
  Are : Result ⊤ Refusal → List Call → (ℕ → ListingOutcome) → Type 0
  Are c cs o =
      ((k : ℕ) → k < length cs → get_or cs k (call_at s 0 t) ≡ call_at s (word_at l k) (o k).state) ×
      ((k : ℕ) → k < length cs → run (take k cs) t.za ≡ (o k).state.za) ×
      ((o n).run.answer ≡ Ok tt → length cs ≡ (o n).run.words) ×
      ((r : Refusal) → c ≡ Ok tt → (o n).run.answer ≡ Err (Refused r) → length cs ≡ suc (o n).run.words) × ((r : Refusal) → c ≡ Err r → cs ≡ []) × ((o n).run.answer ≡ Err BadListing → cs ≡ [])

  are : (c : Result ⊤ Refusal) (b : Bool) → Are c (if_done c [] (cond b (calls_of s (allowed_in l n) t) [])) (λ m. if_done c (not_run (as_listed c) t) (cond b (ended (run_of s (allowed_in l m) t)) (not_run (Err BadListing) t)))
  unfolding Are
  are (Ok _) true = (
    each_allowed,
    met_allowed,
    λ e. calls_many s (allowed_in l n) t ∙ ap (λ (a : Result ⊤ Refusal). if_done a (suc (run_of s (allowed_in l n) t).words) (run_of s (allowed_in l n) t).words) (listed_done _ e),
    λ r c e. calls_many s (allowed_in l n) t ∙ ap (λ (a : Result ⊤ Refusal). if_done a (suc (run_of s (allowed_in l n) t).words) (run_of s (allowed_in l n) t).words) (sym (unended_listed _) ∙ ap unended e),
    λ r e. absurd (refused_not_done r (sym e)),
    λ e. absurd (true≢false (sym (ended_listed _) ∙ ap has_ended e)),
  )
  are (Ok _) false = (
    λ k h. absurd (omega (arith, h)),
    λ k h. absurd (omega (arith, h)),
    λ e. absurd (refused_not_done BadSettings (ap unended e)),
    λ r c e. absurd (true≢false (sym (ap has_ended e))),
    λ r e. absurd (refused_not_done r (sym e)),
    λ e. refl,
  )
  are (Err r) b = (λ k h. absurd (omega (arith, h)), λ k h. absurd (omega (arith, h)), λ e. absurd (refused_not_done r (ap unended e)), λ q c e. absurd (refused_not_done r c), λ q e. refl, λ e. absurd (true≢false (ap has_ended e)))

  listing_calls_are : CallsAre s l n t
  unfolding Are listing_calls listing_of
  listing_calls_are = let h = are (buffers_checked s t) (is_whole l) in record { each = h.0; met = h.1; done = h.2; stopped = h.3; early = h.4; odd = h.5 }

pub calls_are : ListingCallsAre
calls_are = listing_calls_are

-- ---- the listing that is written out

pub listing_crosses : ListingCrosses
unfolding number table row_of_word decode_of is_vector_length scatter active byte_of slice_at group_at least occurrences writes_of values_of effect_of access_answer answer_of execute_of run_of calls_of words_from listing_of listing_calls run moved moves
listing_crosses =
    record {
      told = refl;
      words = refl;
      crosses = crosses;
      crossed = crossing 16 16 Bits32 Horizontal 1 crossing_calls (za_at 16) crosses;
      said = refl;
      columns = refl;
      zeroed = refl;
    }
  where
    order : List ℕ
    order = 0 ∷ 1 ∷ 2 ∷ 3 ∷ []

    crosses : Crosses 16 16 Bits32 Horizontal 1 crossing_calls (za_at 16)
    crosses = record { rows = order; columns = order; order = refl; each_row = record { many = refl; once = once 4 order refl }; each_column = record { many = refl; once = once 4 order refl } }

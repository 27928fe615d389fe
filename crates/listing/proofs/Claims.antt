-- Each theorem of specs/Claims.antt.
-- Assumes nothing.
use Rattle.std.specs.Prelude.{Result, ⊤, Ok, Err}
use Prim.Native.Nat.{ℕ, zero, suc, ◌+◌, ◌*◌, ◌-◌, ◌/◌, ◌%◌, ◌<◌, ◌≤◌, min}
use mathlib.Core.Path.{◌≡◌, refl, sym, ap, ◌∙◌, subst}
use mathlib.Core.Bool.{Bool, true, false, cond, true≢false}
use mathlib.Core.List.{List, [], ◌∷◌, ◌++◌}
use mathlib.Core.Logic.{inl, inr}
use native.Mathlib.Nat.{zero-add, add-zero, mul-mod_right}
use native.Mathlib.Omega.{arith}
use lib.Dec.{eqb}
use lib.ListN.{length, take, drop, length-append, length-take, length-drop, get_or}
use borrow.Author.Tests.{eqb-true, eq-eqb, ne_eqb}
use Rattle.general.specs.Determined.{IsOneOf}
use Rattle.general.proofs.DeterminedLaws.{equal_determines, one_of_more}
use Rattle.settings.specs.Answer.{Answer}
use Rattle.settings.specs.Settings.{valid_settings}
use Rattle.settings.specs.declared.Settings.{Settings}
use Rattle.encoding.specs.Codec.{decode_of}
use Rattle.semantics.specs.declared.answer.Refusal.{Refusal}
use Rattle.semantics.specs.declared.answer.Refusal.TheVariants.{BadSettings, BadLengths}
use Rattle.semantics.specs.Answer.{executed_number}
use Rattle.semantics.specs.State.{State, public_of}
use Rattle.semantics.specs.Execute.{word_answer, word_effect, answer_of, if_done, Outcome, execute_of}
use Rattle.semantics.specs.Run.{Ran, run_of}
use Rattle.semantics.specs.Claims.{Keeps}
use Rattle.semantics.proofs.AnswerLaws.{executed_numbers}
use Rattle.semantics.proofs.ExecuteLaws.{SizedAt, refused_not_done, buffers_rest, buffers_done, buffers_refused}
use Rattle.semantics.proofs.Claims.{run_goes_on}
use Rattle.listing.specs.declared.answer.ListingRefusal.{ListingRefusal}
use Rattle.listing.specs.declared.answer.ListingRefusal.TheVariants.{BadListing, Refused}
use Rattle.listing.specs.declared.answer.ListingRun.{ListingRun}
use Rattle.listing.specs.Words.{word_at, words_from, words_in}
use Rattle.listing.specs.Answer.{as_listed, listed_number}
use Rattle.listing.specs.Listing.{ListingOutcome, not_run, ended, right_lengths, buffers_checked, is_whole, allowed_in, listing_of}
use Rattle.listing.specs.Promise.{RunsListing}
use Rattle.listing.specs.Claims.{WordsAreBytes, AllowedAreFirst, Stops, ListingDoes, ListingsDo, EarlyAnswers, EarlyAnswersExactly, ListingBounded, ListingsBounded, OneWordIsCall, PartsAreWhole, ListingDetermines, ListingsDetermine}
use Rattle.listing.proofs.WordLaws.{length-words, words_at, word_sum, words_split, words_left, take_words}
use Rattle.listing.proofs.RunLaws.{sized_keeps, keeps_refl}
use Rattle.listing.proofs.ListingLaws.{listed_done, listed_executed, unended, definition_runs, buffers_end, length-ends}
use Rattle.listing.proofs.StopLaws.{run_keeps, run_all, run_stops, stops_only}
use Rattle.listing.proofs.LaterLaws.{later_not, later_run}

pub words_are_bytes : WordsAreBytes
words_are_bytes l =
    record {
      many = length-words l 0 (length l / 4);
      each = λ i h. words_at l 0 (length l / 4) i h ∙ ap (λ (j : ℕ). word_at l j) (zero-add i) ∙ word_sum l i;
    }

-- how many words may run
length-allowed : (l : List ℕ) (n : ℕ) → length (allowed_in l n) ≡ min n (length l / 4)
length-allowed l n = length-take n (words_in l) ∙ ap (λ (k : ℕ). min n k) (length-words l 0 (length l / 4))

pub allowed_are_first : AllowedAreFirst
allowed_are_first l n =
    record {
      many = length-allowed l n;
      each = λ i h.
          ap (λ (ws : List ℕ). get_or ws i 0) (take_words l 0 n (length l / 4) (min n (length l / 4)) refl) ∙
          words_at l 0 (min n (length l / 4)) i h ∙ ap (λ (j : ℕ). word_at l j) (zero-add i);
    }

module _ (s : Settings) (l : List ℕ) (n : ℕ) (t : State) where
  -- no word runs, or those that are allowed do on buffers of the right lengths
  listing_either : (P : ListingOutcome → Type 0) → ((a : Result ⊤ ListingRefusal) → P (not_run a t)) → (SizedAt s t → P (ended (run_of s (allowed_in l n) t))) → P (listing_of s l n t)
  unfolding listing_of
  listing_either P early ran = go (buffers_checked s t) refl (is_whole l)
    where
      go : (c : Result ⊤ Refusal) → buffers_checked s t ≡ c → (b : Bool) → P (if_done c (not_run (as_listed c) t) (cond b (ended (run_of s (allowed_in l n) t)) (not_run (Err BadListing) t)))
      go (Ok _) e true = ran (buffers_done s _ _ _ _ _ (Ok tt) e).0
      go (Ok _) e false = early (Err BadListing)
      go (Err r) e b = early (Err (Refused r))

  -- settings and lengths are right
  both_right : valid_settings s ≡ true → right_lengths s t ≡ true → buffers_checked s t ≡ Ok tt
  both_right v r = rw (v, r)

  -- ---- what it does

  ran : valid_settings s ≡ true → right_lengths s t ≡ true → length l % 4 ≡ 0 → ended (run_of s (allowed_in l n) t) ≡ listing_of s l n t
  ran v r w = length-ends s l n t true (both_right v r) (eq-eqb _ _ w)

  listing_does : ListingDoes s l n t
  listing_does = record {
    settings = λ v. sym (buffers_end s l n t BadSettings (rw v));
    lengths = λ v r. sym (buffers_end s l n t BadLengths (rw (v, r)));
    odd = λ v r w. sym (length-ends s l n t false (both_right v r) (ne_eqb _ _ w));
    words = λ v r w. subst (λ (o : ListingOutcome). Stops s (allowed_in l n) t o.run o.state) (ran v r w) (run_stops s (allowed_in l n) t);
    only = λ v r w q t' p.
        let e = stops_only s (allowed_in l n) t q t' p in
        (e.0 ∙ ap (λ (o : ListingOutcome). o.run) (ran v r w), e.1 ∙ ap (λ (o : ListingOutcome). o.state) (ran v r w));
  }

  -- ---- 1, 2 and 9 are of settings and lengths alone

  early_answers : EarlyAnswers s l n t
  early_answers = go (valid_settings s) (right_lengths s t) (is_whole l) refl refl refl
    where
      number : ℕ
      number = listed_number (listing_of s l n t).run.answer

      answer : Result ⊤ Refusal
      answer = (run_of s (allowed_in l n) t).ending.answer

      named : (o : ListingOutcome) → listing_of s l n t ≡ o → number ≡ listed_number o.run.answer
      named o e = ap (λ (o : ListingOutcome). listed_number o.run.answer) e

      odd : is_whole l ≡ false → length l % 4 ≡ 0 → ⊥
      odd e w = true≢false (sym (eq-eqb _ _ w) ∙ e)

      go : (a b c : Bool) → valid_settings s ≡ a → right_lengths s t ≡ b → is_whole l ≡ c → EarlyAnswers s l n t
      go false b c v r w =
          let e = named _ (listing_does.settings v) in
          record { one = λ q. v; two = λ q. absurd (omega (arith, e, q)); nine = λ q. absurd (omega (arith, e, q)) }
      go true false c v r w =
          let e = named _ (listing_does.lengths v r) in
          record { one = λ q. absurd (omega (arith, e, q)); two = λ q. (v, r); nine = λ q. absurd (omega (arith, e, q)) }
      go true true false v r w =
          let e = named _ (listing_does.odd v r (odd w)) in
          record { one = λ q. absurd (omega (arith, e, q)); two = λ q. absurd (omega (arith, e, q)); nine = λ q. (v, r, odd w) }
      go true true true v r w =
          let e = named _ (sym (ran v r (eqb-true _ _ w))) in
          let later = later_run s (allowed_in l n) t (buffers_done s _ _ _ _ _ (Ok tt) (both_right v r)).0 in
          record {
            one = λ q. absurd (later_not answer 1 refl later (sym (ap (λ (a : Answer). a.number) (listed_executed answer)) ∙ sym e ∙ q));
            two = λ q. absurd (later_not answer 2 refl later (sym (ap (λ (a : Answer). a.number) (listed_executed answer)) ∙ sym e ∙ q));
            nine = λ q. absurd (later_not answer 9 refl later (sym (ap (λ (a : Answer). a.number) (listed_executed answer)) ∙ sym e ∙ q));
          }

  -- ---- bounds

  -- with 0 every word that may run is done
  listing_reaches : (listing_of s l n t).run.answer ≡ Ok tt → (listing_of s l n t).run.words ≡ min n (length l / 4)
  unfolding listing_of
  listing_reaches = go (buffers_checked s t) (is_whole l)
    where
      go : (c : Result ⊤ Refusal) (b : Bool) → (let o = if_done c (not_run (as_listed c) t) (cond b (ended (run_of s (allowed_in l n) t)) (not_run (Err BadListing) t)) in o.run.answer ≡ Ok tt → o.run.words ≡ min n (length l / 4))
      go (Ok _) true e = run_all s (allowed_in l n) t (listed_done _ e) ∙ length-allowed l n
      go (Ok _) false e = absurd (refused_not_done BadSettings (ap unended e))
      go (Err r) b e = absurd (refused_not_done r (ap unended e))

  listing_bounded : ListingBounded s l n t
  listing_bounded = record { allowed = bounds.0; listed = bounds.1; reached = listing_reaches; kept = listing_either (λ (o : ListingOutcome). Keeps t o.state) (λ a. keeps_refl t) (λ h. run_keeps s (allowed_in l n) t) }
    where
      stops : Stops s (allowed_in l n) t (ended (run_of s (allowed_in l n) t)).run (ended (run_of s (allowed_in l n) t)).state
      stops = run_stops s (allowed_in l n) t

      counted : (run_of s (allowed_in l n) t).words + length stops.after ≡ min n (length l / 4)
      counted =
          ap (λ (k : ℕ). k + length stops.after) stops.count ∙
          sym (length-append stops.before stops.after) ∙ ap (λ (ws : List ℕ). length ws) (sym stops.words) ∙ length-allowed l n

      bounds : ((listing_of s l n t).run.words ≤ n) × ((listing_of s l n t).run.words ≤ length l / 4)
      bounds = listing_either (λ (o : ListingOutcome). (o.run.words ≤ n) × (o.run.words ≤ length l / 4)) (λ a. (omega arith, omega arith)) (λ h. (omega (arith, counted), omega (arith, counted)))

  -- ---- the promise

  listing_determines : ListingDetermines s l n t
  listing_determines = record {
    met = (((listing_of s l n t).run, (listing_of s l n t).state), definition_runs s l n t _ refl);
    determined = equal_determines (λ (o : ListingRun × State). RunsListing s l n t o.0 o.1) ((listing_of s l n t).run, (listing_of s l n t).state) (λ o p i. (p.run i, p.state i));
    numbers = λ r t' p. numbers r.answer;
  }
    where
      numbers : (a : Result ⊤ ListingRefusal) → IsOneOf (0 ∷ 1 ∷ 2 ∷ 3 ∷ 4 ∷ 5 ∷ 6 ∷ 7 ∷ 9 ∷ []) (listed_number a)
      numbers (Err BadListing) = inr (inr (inr (inr (inr (inr (inr (inr (inl refl))))))))
      numbers (Err (Refused r)) = one_of_more (0 ∷ 1 ∷ 2 ∷ 3 ∷ 4 ∷ 5 ∷ 6 ∷ 7 ∷ []) (9 ∷ []) (executed_number (Err r)) (executed_numbers (Err r))
      numbers (Ok _) = inl refl

pub listings_do : ListingsDo
listings_do = listing_does

pub early_answers_exactly : EarlyAnswersExactly
early_answers_exactly = early_answers

pub listings_bounded : ListingsBounded
listings_bounded = listing_bounded

pub listings_determine : ListingsDetermine
listings_determine = listing_determines

-- ---- one word

-- settings and lengths refuse every word alike
buffers_refuse : (s : Settings) (w : ℕ) (t : State) (r : Refusal) → buffers_checked s t ≡ Err r → execute_of s w t ≡ record { answer = Err r; state = t }
unfolding execute_of answer_of
buffers_refuse s w t r e = λ k. record { answer = answer k; state = if_done (answer k) t (word_effect s (decode_of w s.level) t) }
  where
    answer : answer_of s w (public_of t) ≡ Err r
    answer = buffers_refused s (length t.x) (length t.z) (length t.p) (length t.za) (length t.memory) (word_answer s t.x t.p (length t.memory) (decode_of w s.level)) r e

pub one_word_is_call : OneWordIsCall
unfolding listing_of words_from
one_word_is_call s l n t long h = go (buffers_checked s t) refl
  where
    o : Outcome
    o = execute_of s (word_at l 0) t

    one : (n : ℕ) → 0 < n → take n (word_at l 0 ∷ []) ≡ word_at l 0 ∷ []
    one zero h = absurd (omega (arith, h))
    one (suc zero) h = refl
    one (suc (suc n)) h = refl

    allowed : allowed_in l n ≡ word_at l 0 ∷ []
    allowed = ap (λ (k : ℕ). take n (words_from l 0 (k / 4))) long ∙ one n h

    whole : is_whole l ≡ true
    whole = ap (λ (k : ℕ). eqb (k % 4) 0) long

    Is : ListingOutcome → Type 0
    Is q = (q.run ≡ record { words = if_done o.answer 0 1; answer = as_listed o.answer }) × (q.state ≡ o.state)

    go : (c : Result ⊤ Refusal) → buffers_checked s t ≡ c → Is (listing_of s l n t)
    go (Err r) e =
        let q = buffers_refuse s (word_at l 0) t r e in
        subst Is (buffers_end s l n t r e) (λ k. record { words = if_done (sym q k).answer 0 1; answer = as_listed (sym q k).answer }, λ k. (sym q k).state)
    go (Ok _) e =
        let f = run_goes_on s t in
        subst Is (ap (λ (ws : List ℕ). ended (run_of s ws t)) (sym allowed) ∙ length-ends s l n t true e whole)
        (λ k. record { words = f.counted (word_at l 0) k; answer = as_listed (f.one (word_at l 0) k).answer }, λ k. (f.one (word_at l 0) k).state)

-- ---- two parts

module _ (s : Settings) (l : List ℕ) (a b : ℕ) (t : State) where
  -- one part after another
  joined : ListingOutcome → ListingOutcome → ListingOutcome
  joined f g = record { run = record { words = f.run.words + g.run.words; answer = g.run.answer }; state = g.state }

  -- what is claimed of the first part
  Goes : ListingOutcome → Type 0
  Goes f = f.run.answer ≡ Ok tt → listing_of s l (a + b) t ≡ joined f (listing_of s (drop (4 * f.run.words) l) b f.state)

  module _ (checked : buffers_checked s t ≡ Ok tt) (whole : length l % 4 ≡ 0) where
    -- the words of the first part, and of the second
    k : ℕ
    k = min a (length l / 4)

    m : ℕ
    m = min b (length l / 4 - k)

    first : Ran
    first = run_of s (words_from l 0 k) t

    second : Ran
    second = run_of s (words_from l (0 + k) m) first.ending.state

    rest : List ℕ
    rest = drop (4 * k) l

    rest_long : length rest ≡ 4 * (length l / 4 - k)
    unfolding k rest
    rest_long = length-drop (4 * k) l ∙ omega (arith, whole)

    rest_words : length rest / 4 ≡ length l / 4 - k
    rest_words = omega (arith, rest_long)

    -- the second part
    second_is : ended second ≡ listing_of s rest b first.ending.state
    unfolding second m rest k first
    second_is =
        ap (λ (ws : List ℕ). ended (run_of s ws first.ending.state)) (sym allowed) ∙
        length-ends s rest b first.ending.state true still (eq-eqb (length rest % 4) 0 even)
      where
        even : length rest % 4 ≡ 0
        even = ap (λ (n : ℕ). n % 4) rest_long ∙ mul-mod_right 4 (length l / 4 - k)

        allowed : allowed_in rest b ≡ words_from l (0 + k) m
        allowed =
            ap (λ (n : ℕ). take b (words_from rest 0 n)) rest_words ∙
            take_words rest 0 b (length l / 4 - k) m refl ∙ words_left l k 0 m ∙ ap (λ (j : ℕ). words_from l j m) (add-zero k ∙ sym (zero-add k))

        still : buffers_checked s first.ending.state ≡ Ok tt
        still =
            buffers_rest s _ _ _ _ _ (Ok tt)
            (sized_keeps s t first.ending.state (run_keeps s (words_from l 0 k) t) (buffers_done s (length t.x) (length t.z) (length t.p) (length t.za) (length t.memory) (Ok tt) checked).0)

    -- the first part, which is done
    first_goes : Goes (ended first)
    unfolding Goes joined k m first second rest
    first_goes e =
        sym (ap (λ (ws : List ℕ). ended (run_of s ws t)) (sym allowed) ∙ length-ends s l (a + b) t true checked (eq-eqb (length l % 4) 0 whole)) ∙
        (λ i. record { run = record { words = more.1 i; answer = as_listed (more.0 i).answer }; state = (more.0 i).state }) ∙
        ap (joined (ended first)) (second_is ∙ ap (λ (n : ℕ). listing_of s (drop (4 * n) l) b first.ending.state) (sym all))
      where
        split : min (a + b) (length l / 4) ≡ k + m
        split = omega arith

        allowed : allowed_in l (a + b) ≡ words_from l 0 k ++ words_from l (0 + k) m
        allowed = take_words l 0 (a + b) (length l / 4) (k + m) (sym split) ∙ words_split l 0 k m

        more : ((run_of s (words_from l 0 k ++ words_from l (0 + k) m) t).ending ≡ second.ending) × ((run_of s (words_from l 0 k ++ words_from l (0 + k) m) t).words ≡ first.words + second.words)
        more = (run_goes_on s t).more (words_from l 0 k) (words_from l (0 + k) m) (listed_done _ e)

        all : first.words ≡ k
        all = run_all s (words_from l 0 k) t (listed_done _ e) ∙ length-words l 0 k

pub parts_are_whole : PartsAreWhole
unfolding Goes joined k first
parts_are_whole s l a b t = go (buffers_checked s t) (is_whole l) refl refl
  where
    go : (c : Result ⊤ Refusal) (w : Bool) → buffers_checked s t ≡ c → is_whole l ≡ w → Goes s l a b t (listing_of s l a t)
    go (Err r) w c h = subst (Goes s l a b t) (buffers_end s l a t r c) (λ e. absurd (refused_not_done r (ap unended e)))
    go (Ok _) false c h = subst (Goes s l a b t) (length-ends s l a t false c h) (λ e. absurd (refused_not_done BadSettings (ap unended e)))
    go (Ok _) true c h =
        subst (Goes s l a b t)
        (ap (λ (ws : List ℕ). ended (run_of s ws t)) (sym (take_words l 0 a (length l / 4) (min a (length l / 4)) refl)) ∙ length-ends s l a t true c h)
        (first_goes s l a b t c (eqb-true (length l % 4) 0 h))

-- Laws of specs/Listing.antt and specs/Promise.antt: the ways a listing ends, and that its answer is that of the table.
-- Assumes nothing.
use Rattle.std.specs.Prelude.{Result, ⊤, Ok, Err}
use Prim.Native.Nat.{ℕ}
use mathlib.Core.Path.{◌≡◌, refl, sym, ap, ◌∙◌}
use mathlib.Core.Bool.{Bool, true, false, cond, not}
use mathlib.Core.List.{List, [], ◌∷◌}
use lib.Dec.{eqb}
use Rattle.settings.specs.Answer.{Answer, answer_with, done, bad_settings, bad_lengths, bad_listing}
use Rattle.settings.specs.Settings.{valid_settings}
use Rattle.settings.specs.declared.Settings.{Settings}
use Rattle.semantics.specs.declared.answer.Refusal.{Refusal}
use Rattle.semantics.specs.declared.answer.Refusal.TheVariants.{BadSettings, BadLengths, Undecodable, StreamingOff, ZaOff, StackMisaligned, OutsideMemory}
use Rattle.semantics.specs.Answer.{executed_answer}
use Rattle.semantics.specs.State.{State}
use Rattle.semantics.specs.Execute.{guard, if_done, execute_of}
use Rattle.semantics.specs.Run.{Ran, one_more, run_of}
use Rattle.semantics.proofs.Claims.{definition_executes}
use Rattle.listing.specs.declared.answer.ListingRefusal.{ListingRefusal}
use Rattle.listing.specs.declared.answer.ListingRefusal.TheVariants.{BadListing, Refused}
use Rattle.listing.specs.declared.answer.ListingRun.{ListingRun}
use Rattle.listing.specs.Answer.{as_listed, listed_answer}
use Rattle.listing.specs.Listing.{ListingOutcome, not_run, ended, right_lengths, buffers_checked, is_whole, allowed_in, listing_of}
use Rattle.listing.specs.Promise.{words_in_numbers, listing_in_numbers, RunsListing}
use Rattle.listing.specs.Steps.{EndsAs}

-- what a word's answer was, as which a listing ended; a refusal where none ran
abbrev pub unended : Result ⊤ ListingRefusal → Result ⊤ Refusal
unended (Ok _) = Ok tt
unended (Err BadListing) = Err BadSettings
unended (Err (Refused r)) = Err r

pub unended_listed : (a : Result ⊤ Refusal) → unended (as_listed a) ≡ a
unended_listed (Ok _) = refl
unended_listed (Err r) = refl

-- what is done as a listing's answer is done as a word's
pub listed_done : (a : Result ⊤ Refusal) → as_listed a ≡ Ok tt → a ≡ Ok tt
listed_done a e = sym (unended_listed a) ∙ ap unended e

pub listed_executed : (a : Result ⊤ Refusal) → listed_answer (as_listed a) ≡ executed_answer a
listed_executed (Ok _) = refl
listed_executed (Err r) = refl

-- ---- the answer in numbers

-- a refusal is no 0
refused_number : (r : Refusal) (a b : Answer) → cond (eqb (executed_answer (Err r)).number done) a b ≡ b
refused_number BadSettings a b = refl
refused_number BadLengths a b = refl
refused_number Undecodable a b = refl
refused_number StreamingOff a b = refl
refused_number ZaOff a b = refl
refused_number StackMisaligned a b = refl
refused_number (OutsideMemory f) a b = refl

-- the answer of a run of words is that of the table, word by word
words_agree : (s : Settings) (ws : List ℕ) (t : State) → executed_answer (run_of s ws t).ending.answer ≡ words_in_numbers s ws t
unfolding run_of words_in_numbers
words_agree s [] t = refl
words_agree s (w ∷ ws) t =
    go (execute_of s w t).answer refl (words_agree s ws (execute_of s w t).state) ∙
    ap (λ (a : Answer). cond (eqb a.number done) (words_in_numbers s ws (execute_of s w t).state) a) (definition_executes s w t).numbers
  where
    rest : Ran
    rest = run_of s ws (execute_of s w t).state

    go : (a : Result ⊤ Refusal) → (execute_of s w t).answer ≡ a → executed_answer rest.ending.answer ≡ words_in_numbers s ws (execute_of s w t).state →
        executed_answer (if_done a (record { words = 0; ending = execute_of s w t }) (one_more rest)).ending.answer ≡
        cond (eqb (executed_answer a).number done) (words_in_numbers s ws (execute_of s w t).state) (executed_answer a)
    go (Ok _) e ih = ih
    go (Err r) e ih = ap executed_answer e ∙ sym (refused_number r _ _)

module _ (s : Settings) (l : List ℕ) (n : ℕ) (t : State) where
  -- both definitions of the answer agree
  listing_agrees : listed_answer (listing_of s l n t).run.answer ≡ listing_in_numbers s l n t
  unfolding listing_of listing_in_numbers
  listing_agrees = go (valid_settings s) (right_lengths s t) (is_whole l)
    where
      checked : Bool → Bool → Result ⊤ Refusal
      checked a b = guard a BadSettings (guard b BadLengths (Ok tt))

      go : (a b c : Bool) →
          listed_answer (if_done (checked a b) (not_run (as_listed (checked a b)) t) (cond c (ended (run_of s (allowed_in l n) t)) (not_run (Err BadListing) t))).run.answer ≡
          cond (not a) (answer_with bad_settings []) (cond (not b) (answer_with bad_lengths []) (cond (not c) (answer_with bad_listing []) (words_in_numbers s (allowed_in l n) t)))
      go false b c = refl
      go true false c = refl
      go true true false = refl
      go true true true = listed_executed (run_of s (allowed_in l n) t).ending.answer ∙ words_agree s (allowed_in l n) t

  -- ---- the ways it ends

  -- what the definition gives meets the promise
  pub definition_runs : (o : ListingOutcome) → o ≡ listing_of s l n t → RunsListing s l n t o.run o.state
  definition_runs o e =
      record {
        run = ap (λ (o : ListingOutcome). o.run) e;
        numbers = ap (λ (o : ListingOutcome). listed_answer o.run.answer) e ∙ listing_agrees;
        state = ap (λ (o : ListingOutcome). o.state) e;
      }

  -- by settings and lengths
  pub buffers_end : (r : Refusal) → buffers_checked s t ≡ Err r → not_run (Err (Refused r)) t ≡ listing_of s l n t
  unfolding listing_of
  buffers_end r e = ap (λ (c : Result ⊤ Refusal). if_done c (not_run (as_listed c) t) (cond (is_whole l) (ended (run_of s (allowed_in l n) t)) (not_run (Err BadListing) t))) (sym e)

  -- by the listing's length, or as its words do
  pub length-ends : (b : Bool) → buffers_checked s t ≡ Ok tt → is_whole l ≡ b → cond b (ended (run_of s (allowed_in l n) t)) (not_run (Err BadListing) t) ≡ listing_of s l n t
  unfolding listing_of
  length-ends b e q =
      ap (λ (b : Bool). cond b (ended (run_of s (allowed_in l n) t)) (not_run (Err BadListing) t)) (sym q) ∙
      ap (λ (c : Result ⊤ Refusal). if_done c (not_run (as_listed c) t) (cond (is_whole l) (ended (run_of s (allowed_in l n) t)) (not_run (Err BadListing) t))) (sym e)

  pub words_end : buffers_checked s t ≡ Ok tt → is_whole l ≡ true → (ran : Ran) → ran ≡ run_of s (allowed_in l n) t → (r : ListingRun) (t' : State) → EndsAs ran r t' → RunsListing s l n t r t'
  words_end e q ran same r t' f =
      definition_runs (record { run = r; state = t' }) ((λ k. record { run = f.0 k; state = f.1 k }) ∙ ap ended same ∙ length-ends true e q)

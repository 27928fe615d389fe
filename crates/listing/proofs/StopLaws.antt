-- Laws of specs/Claims.antt: a run of words by what was done and what was not, word by word.
-- Assumes nothing.
use Rattle.std.specs.Prelude.{Result, ⊤, Ok, Err}
use Prim.Native.Nat.{ℕ, suc, ◌+◌}
use mathlib.Core.Path.{◌≡◌, refl, sym, ap, ◌∙◌, subst}
use mathlib.Core.List.{List, [], ◌∷◌, ◌++◌}
use native.Mathlib.Omega.{arith}
use lib.ListN.{length}
use Rattle.settings.specs.declared.Settings.{Settings}
use Rattle.semantics.specs.declared.answer.Refusal.{Refusal}
use Rattle.semantics.specs.State.{State}
use Rattle.semantics.specs.Execute.{if_done, execute_of}
use Rattle.semantics.specs.Run.{Ran, one_more, run_of}
use Rattle.semantics.specs.Claims.{Keeps}
use Rattle.semantics.proofs.ExecuteLaws.{Ends, does, stays, ends, refused_not_done}
use Rattle.semantics.proofs.Claims.{execution_keeps}
use Rattle.listing.specs.Answer.{as_listed}
use Rattle.listing.specs.declared.answer.ListingRun.{ListingRun}
use Rattle.listing.specs.Listing.{ended}
use Rattle.listing.specs.Claims.{AllDone, StopsAt, Stops}
use Rattle.listing.specs.Steps.{EndsAs}
use Rattle.listing.proofs.RunLaws.{keeps_refl, keeps_trans, words_on, words_on-none}

module _ (s : Settings) where
  -- a refused word leaves the state
  refused_stays : (w : ℕ) (t : State) (r : Refusal) → (execute_of s w t).answer ≡ Err r → (execute_of s w t).state ≡ t
  refused_stays w t r e = go (ends s w t)
    where
      go : Ends s w t → (execute_of s w t).state ≡ t
      go (does o d) = absurd (refused_not_done r (sym e ∙ d.answer))
      go (stays q f g) = g

  -- what a word makes of a run of the words after it
  step : Result ⊤ Refusal → ℕ → List ℕ → State → Ran
  step a w ws t = if_done a (record { words = 0; ending = execute_of s w t }) (one_more (run_of s ws (execute_of s w t).state))

  -- ---- what a run keeps

  pub run_keeps : (ws : List ℕ) (t : State) → Keeps t (run_of s ws t).ending.state
  unfolding run_of step
  run_keeps [] t = keeps_refl t
  run_keeps (w ∷ ws) t = go (execute_of s w t).answer (run_keeps ws (execute_of s w t).state)
    where
      go : (a : Result ⊤ Refusal) → Keeps (execute_of s w t).state (run_of s ws (execute_of s w t).state).ending.state → Keeps t (step a w ws t).ending.state
      go (Ok _) ih = keeps_trans t (execute_of s w t).state _ (execution_keeps s w t) ih
      go (Err r) ih = execution_keeps s w t

  -- a run that is done has done all its words
  pub run_all : (ws : List ℕ) (t : State) → (run_of s ws t).ending.answer ≡ Ok tt → (run_of s ws t).words ≡ length ws
  unfolding run_of step
  run_all [] t e = refl
  run_all (w ∷ ws) t e = go (execute_of s w t).answer refl e (run_all ws (execute_of s w t).state)
    where
      go : (a : Result ⊤ Refusal) → a ≡ (execute_of s w t).answer → (step a w ws t).ending.answer ≡ Ok tt → ((run_of s ws (execute_of s w t).state).ending.answer ≡ Ok tt → (run_of s ws (execute_of s w t).state).words ≡ length ws) → (step a w ws t).words ≡ suc (length ws)
      go (Ok _) q e ih = ap suc (ih e)
      go (Err r) q e ih = absurd (refused_not_done r (q ∙ e))

  -- ---- a run stops as it should

  pub run_stops : (ws : List ℕ) (t : State) → Stops s ws t (ended (run_of s ws t)).run (ended (run_of s ws t)).state
  unfolding run_of step
  run_stops [] t = record { before = []; after = []; words = refl; count = refl; done = refl; stop = refl }
  run_stops (w ∷ ws) t = go (execute_of s w t).answer refl (run_stops ws (execute_of s w t).state)
    where
      go : (a : Result ⊤ Refusal) → (execute_of s w t).answer ≡ a → Stops s ws (execute_of s w t).state (ended (run_of s ws (execute_of s w t).state)).run (ended (run_of s ws (execute_of s w t).state)).state →
          Stops s (w ∷ ws) t (ended (step a w ws t)).run (ended (step a w ws t)).state
      go (Ok _) e ih =
          record {
            before = w ∷ ih.before;
            after = ih.after;
            words = ap (λ (vs : List ℕ). w ∷ vs) ih.words;
            count = ap suc ih.count;
            done = (e, ih.done);
            stop = ih.stop;
          }
      go (Err r) e ih =
          record {
            before = [];
            after = w ∷ ws;
            words = refl;
            count = refl;
            done = refused_stays w t r e;
            stop = (r, ap (λ (u : State). (execute_of s w u).answer) (refused_stays w t r e) ∙ e, ap as_listed e);
          }

  -- ---- and nothing else does

  -- words that are all done before others
  all_done : (before after : List ℕ) (t t' : State) → AllDone s before t t' → run_of s (before ++ after) t ≡ words_on (length before) (run_of s after t')
  unfolding run_of step
  all_done [] after t t' e = (λ k. record { words = none (run_of s after t) k; ending = (run_of s after t).ending }) ∙ ap (λ (u : State). words_on 0 (run_of s after u)) (sym e)
    where
      none : (r : Ran) → r.words ≡ 0 + r.words
      none r = omega arith
  all_done (w ∷ before) after t t' h =
      ap (λ (a : Result ⊤ Refusal). step a w (before ++ after) t) h.0 ∙
      ap one_more (all_done before after (execute_of s w t).state t' h.1) ∙
      (λ k. record { words = more k; ending = (run_of s after t').ending })
    where
      more : suc (length before + (run_of s after t').words) ≡ suc (length before) + (run_of s after t').words
      more = omega arith

  -- where they stop
  stops_ends : (n : ℕ) (after : List ℕ) (t : State) (r : ListingRun) → r.words ≡ n → StopsAt s after t r.answer → EndsAs (words_on n (run_of s after t)) r t
  unfolding run_of step
  stops_ends n [] t r c e = (λ k. record { words = (c ∙ none) k; answer = e k }, refl)
    where
      none : n ≡ n + 0
      none = omega arith
  stops_ends n (w ∷ ws) t r c e =
      let stepped = ap (λ (a : Result ⊤ Refusal). words_on n (step a w ws t)) e.1 ∙ words_on-none n (execute_of s w t) in (
        λ k. record { words = (c ∙ ap (λ (q : Ran). q.words) (sym stepped)) k; answer = (e.2 ∙ ap as_listed (sym e.1) ∙ ap (λ (q : Ran). as_listed q.ending.answer) (sym stepped)) k },
        sym (refused_stays w t e.0 e.1) ∙ ap (λ (q : Ran). q.ending.state) (sym stepped),
      )

  pub stops_only : (ws : List ℕ) (t : State) (r : ListingRun) (t' : State) → Stops s ws t r t' → EndsAs (run_of s ws t) r t'
  stops_only ws t r t' p =
      subst (λ (q : Ran). EndsAs q r t') (sym (ap (λ (vs : List ℕ). run_of s vs t) p.words ∙ all_done p.before p.after t t' p.done))
      (stops_ends (length p.before) p.after t' r p.count p.stop)

-- Each theorem of specs/Claims.antt.
-- Assumes nothing.
use Rattle.std.specs.Prelude.{Result, ⊤, Err, Ok}
use Prim.Native.Nat.{ℕ}
use mathlib.Core.Path.{◌≡◌, refl, sym, ap, ◌∙◌, subst}
use mathlib.Core.Bool.{false}
use mathlib.Core.List.{List, [], ◌∷◌}
use mathlib.Core.Logic.{inl, inr}
use native.Mathlib.Omega.{arith}
use Rattle.general.specs.Determined.{IsOneOf}
use Rattle.general.proofs.DeterminedLaws.{equal_determines}
use Rattle.settings.specs.Answer.{Answer, nth_value}
use Rattle.settings.specs.Settings.{valid_settings}
use Rattle.settings.specs.Lent.{settings_in}
use Rattle.settings.specs.Results.{filled}
use Rattle.settings.specs.declared.Settings.{Settings}
use Rattle.settings.proofs.Claims.{failed, lent_settings}
use Rattle.semantics.specs.State.{State}
use Rattle.semantics.proofs.AnswerLaws.{executed_zeros}
use Rattle.listing.specs.Answer.{listed_number, listed_fault, listing_numbers}
use Rattle.listing.specs.Listing.{ListingOutcome, not_run, allowed_in, listing_of}
use Rattle.listing.specs.Claims.{Stops}
use Rattle.listing.specs.declared.answer.ListingRefusal.{ListingRefusal}
use Rattle.listing.specs.declared.answer.ListingRefusal.TheVariants.{BadListing, Refused}
use Rattle.listing.specs.declared.answer.ListingRun.{ListingRun}
use Rattle.listing.proofs.ListingLaws.{definition_runs}
use Rattle.listing.proofs.Claims.{listings_do, early_answers_exactly, listings_determine}
use Rattle.sme_listing.specs.Export.{ListingExports}
use Rattle.sme_listing.specs.Claims.{ListingExportsDetermine, RefusesAll, ListingExportsAllDetermine}

-- another answer than 7 carries nothing
listed_zeros : (a : Result ⊤ ListingRefusal) (n : ℕ) → (listed_number a ≡ 7 → ⊥) → (listed_fault a).address ∷ (listed_fault a).element ∷ n ∷ [] ≡ 0 ∷ 0 ∷ n ∷ []
listed_zeros (Err BadListing) n h = refl
listed_zeros (Ok _) n h = refl
listed_zeros (Err (Refused r)) n h = ap (λ (ns : List ℕ). first ns ∷ second ns ∷ n ∷ []) (executed_zeros (Err r) h)
  where
    first : List ℕ → ℕ
    first [] = 0
    first (a ∷ ns) = a

    second : List ℕ → ℕ
    second [] = 0
    second (a ∷ ns) = first ns

module _ (s : Settings) (l : List ℕ) (n : ℕ) (t : State) (rs : List ℕ) where
  abbrev Exported : ℕ → List ℕ → State → Type 0
  Exported = ListingExports s l n t rs

  run : ListingRun
  run = (listing_of s l n t).run

  -- by the definition
  number : {r : ℕ} {rs' : List ℕ} {t' : State} → Exported r rs' t' → r ≡ listed_number run.answer
  unfolding run
  number p = p.number ∙ ap (λ (q : ListingRun). listed_number q.answer) p.runs.run

  results : {r : ℕ} {rs' : List ℕ} {t' : State} → Exported r rs' t' → rs' ≡ filled (listing_numbers run) rs
  unfolding run
  results p = p.results ∙ ap (λ (q : ListingRun). filled (listing_numbers q) rs) p.runs.run

  -- where no word ran
  not_run_lem : (a : Result ⊤ ListingRefusal) → listing_of s l n t ≡ not_run a t → (listed_number a ≡ 7 → ⊥) → {r : ℕ} {rs' : List ℕ} {t' : State} → Exported r rs' t' → (rs' ≡ filled (0 ∷ 0 ∷ 0 ∷ []) rs) × (t' ≡ t)
  unfolding run
  not_run_lem a e h p = (
    results p ∙ ap (λ (o : ListingOutcome). filled (listing_numbers o.run) rs) e ∙ ap (λ (ns : List ℕ). filled ns rs) (listed_zeros a 0 h),
    p.runs.state ∙ ap (λ (o : ListingOutcome). o.state) e,
  )

  exports_determine : ListingExportsDetermine s l n t rs
  unfolding run
  exports_determine = record {
    met = (
      (listed_number run.answer, filled (listing_numbers run) rs, (listing_of s l n t).state),
      record { run = run; runs = definition_runs s l n t (listing_of s l n t) refl; number = refl; results = refl },
    );
    determined =
        equal_determines (λ (o : ℕ × List ℕ × State). Exported o.0 o.1 o.2) (listed_number run.answer, filled (listing_numbers run) rs, (listing_of s l n t).state)
        (λ o p i. (number p i, results p i, p.runs.state i));
    numbers = λ r rs' t' p. subst (IsOneOf (0 ∷ 1 ∷ 2 ∷ 3 ∷ 4 ∷ 5 ∷ 6 ∷ 7 ∷ 9 ∷ [])) (sym p.number) ((listings_determine s l n t).numbers p.run t' p.runs);
    table = λ r rs' t' p. (
      p.number ∙ ap (λ (a : Answer). a.number) p.runs.numbers,
      p.results ∙
          (λ i. filled (nth_value (p.runs.numbers i) 0 ∷ nth_value (p.runs.numbers i) 1 ∷ (p.runs.run i).words ∷ []) rs),
    );
    early = λ r rs' t' p h. early p h;
    zeros = λ r rs' t' p h. results p ∙ ap (λ (ns : List ℕ). filled ns rs) (listed_zeros run.answer run.words (λ e. h (number p ∙ e)));
    words = λ r rs' t' p v w h. (run, subst (λ (u : State). Stops s (allowed_in l n) t run u) (sym p.runs.state) ((listings_do s l n t).words v w h), number p, results p);
  }
    where
      early : {r : ℕ} {rs' : List ℕ} {t' : State} → Exported r rs' t' → IsOneOf (1 ∷ 2 ∷ 9 ∷ []) r → (rs' ≡ filled (0 ∷ 0 ∷ 0 ∷ []) rs) × (t' ≡ t)
      early p (inl e) = not_run_lem _ ((listings_do s l n t).settings ((early_answers_exactly s l n t).one (sym (number p) ∙ e))) (λ q. omega (arith, q)) p
      early p (inr (inl e)) = let w = (early_answers_exactly s l n t).two (sym (number p) ∙ e) in not_run_lem _ ((listings_do s l n t).lengths w.0 w.1) (λ q. omega (arith, q)) p
      early p (inr (inr (inl e))) = let w = (early_answers_exactly s l n t).nine (sym (number p) ∙ e) in not_run_lem _ ((listings_do s l n t).odd w.0 w.1 w.2) (λ q. omega (arith, q)) p
      early p (inr (inr (inr e))) = absurd e

refuses_all : (s : Settings) → valid_settings s ≡ false → RefusesAll s
unfolding run
refuses_all s v l n t rs r rs' t' p =
    let e = (listings_do s l n t).settings v in
    let q = not_run_lem s l n t rs _ e (λ h. omega (arith, h)) p in
    (number s l n t rs p ∙ ap (λ (o : ListingOutcome). listed_number o.run.answer) e, q.0, q.1)

pub listing_exports_all_determine : ListingExportsAllDetermine
listing_exports_all_determine = record {
  runs = exports_determine;
  zero = λ B l a b c d. refuses_all (settings_in (B ∷ l ∷ a ∷ b ∷ c ∷ d ∷ 0 ∷ [])) (failed _ (lent_settings.zero B l a b c d).check);
  few = λ given h. refuses_all (settings_in given) (failed _ (lent_settings.few given h).check);
  many = λ given h. refuses_all (settings_in given) (failed _ (lent_settings.many given h).check);
}

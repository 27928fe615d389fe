-- Laws of specs/Export.antt: what running a listing promises, in the numbers that hosts get.
-- Assumes nothing.
use Prim.Native.Nat.{ℕ}
use mathlib.Core.Path.{◌≡◌, refl, ap, ◌∙◌, subst}
use mathlib.Core.List.{List, [], ◌∷◌}
use lib.ListN.{set}
use Rattle.std.specs.Prelude.{Result, ⊤, Ok, Err}
use Rattle.std.specs.Result.{MatchResult}
use Rattle.settings.specs.Answer.{done}
use Rattle.semantics.specs.Answer.{no_fault}
use Rattle.listing.specs.declared.answer.ListingRefusal.{ListingRefusal}
use Rattle.settings.specs.Results.{filled}
use Rattle.settings.specs.declared.Settings.{Settings}
use Rattle.settings.proofs.ResultLaws.{puts_more}
use Rattle.semantics.specs.State.{State}
use Rattle.semantics.specs.declared.answer.Fault.{Fault}
use Rattle.listing.specs.Answer.{listing_refusal_number, listing_refusal_fault, listed_number, listed_fault, listing_numbers}
use Rattle.listing.specs.Promise.{RunsListing}
use Rattle.listing.specs.declared.answer.ListingRun.{ListingRun}
use Rattle.sme_listing.specs.Export.{ListingExports}

-- the number of an answer, and what it carries
pub numbered : (e : Result ⊤ ListingRefusal) (n : ℕ) → MatchResult e (λ _. n ≡ done) (λ r. n ≡ listing_refusal_number r) → n ≡ listed_number e
numbered (Ok u) n h = h
numbered (Err r) n h = h

pub faulted : (e : Result ⊤ ListingRefusal) (f : Fault) → MatchResult e (λ _. f ≡ no_fault) (λ r. f ≡ listing_refusal_fault r) → f ≡ listed_fault e
faulted (Ok u) f h = h
faulted (Err r) f h = h

-- the results, put one after the other
pub fills : (old : List ℕ) (q : ListingRun) {once twice thrice : List ℕ} (f : Fault) → f ≡ listed_fault q.answer → once ≡ set old 0 f.address → twice ≡ set once 1 f.element → thrice ≡ set twice 2 q.words → thrice ≡ filled (listing_numbers q) old
fills old q f e first second third =
    puts_more (f.address ∷ f.element ∷ []) old q.words (puts_more (f.address ∷ []) old f.element (puts_more [] old f.address refl first) second) third ∙
    ap (λ (g : Fault). filled (g.address ∷ g.element ∷ q.words ∷ []) old) e

-- with settings that were read, and number and results
pub listing_exports : {s s' : Settings} {l : List ℕ} {n : ℕ} {t t' : State} {q : ListingRun} {rs rs' : List ℕ} {r : ℕ} → s ≡ s' → RunsListing s l n t q t' → r ≡ listed_number q.answer → rs' ≡ filled (listing_numbers q) rs → ListingExports s' l n t rs r rs' t'
listing_exports {l} {n} {t} {t'} {q} {rs} {rs'} {r} e h k f = subst (λ (s : Settings). ListingExports s l n t rs r rs' t') e (record { run = q; runs = h; number = k; results = f })

-- What the promise of specs/Export.antt leaves open: nothing. Each statement is from the promise alone, whichever function meets it; proofs/Claims.antt proves
-- each. Renders request 5, 01 §6 and §9.
-- Assumes nothing.
use Rattle.std.specs.Prelude.{ℕ, ◌%◌, ◌<◌, ◌≡◌, true, List, [], ◌∷◌, length}
use Rattle.general.specs.Determined.{Determined, Met, IsOneOf}
use Rattle.settings.specs.Answer.{nth_value}
use Rattle.settings.specs.Settings.{valid_settings}
use Rattle.settings.specs.Lent.{settings_in}
use Rattle.settings.specs.Results.{filled}
use Rattle.settings.specs.declared.Settings.{Settings}
use Rattle.semantics.specs.State.{State}
use Rattle.listing.specs.Answer.{listed_number, listing_numbers}
use Rattle.listing.specs.Listing.{right_lengths, allowed_in, listing_of}
use Rattle.listing.specs.Promise.{listing_in_numbers}
use Rattle.listing.specs.Claims.{Stops}
use Rattle.listing.specs.declared.answer.ListingRun.{ListingRun}
use Rattle.sme_listing.specs.Export.{ListingExports}

-- One number, one array of results, one content of every buffer. Number, address and element are those of the table of answers, and the count is the definition's.
-- With 1, 2 and 9 nothing is done: zeros, and every buffer as it was. Another number than 7 gives address 0 and element 0.
pub record ListingExportsDetermine (s : Settings) (l : List ℕ) (n : ℕ) (t : State) (rs : List ℕ) : Type 0 where
  pub met : Met (λ (o : ℕ × List ℕ × State). ListingExports s l n t rs o.0 o.1 o.2)
  pub determined : Determined (λ (o : ℕ × List ℕ × State). ListingExports s l n t rs o.0 o.1 o.2)
  pub numbers : (r : ℕ) (rs' : List ℕ) (t' : State) → ListingExports s l n t rs r rs' t' → IsOneOf (0 ∷ 1 ∷ 2 ∷ 3 ∷ 4 ∷ 5 ∷ 6 ∷ 7 ∷ 9 ∷ []) r
  pub table : (r : ℕ) (rs' : List ℕ) (t' : State) → ListingExports s l n t rs r rs' t' →
      let a = listing_in_numbers s l n t in
      (r ≡ a.number) × (rs' ≡ filled (nth_value a 0 ∷ nth_value a 1 ∷ (listing_of s l n t).run.words ∷ []) rs)
  pub early : (r : ℕ) (rs' : List ℕ) (t' : State) → ListingExports s l n t rs r rs' t' → IsOneOf (1 ∷ 2 ∷ 9 ∷ []) r → (rs' ≡ filled (0 ∷ 0 ∷ 0 ∷ []) rs) × (t' ≡ t)
  pub zeros : (r : ℕ) (rs' : List ℕ) (t' : State) → ListingExports s l n t rs r rs' t' → (r ≡ 7 → ⊥) → rs' ≡ filled (0 ∷ 0 ∷ (listing_of s l n t).run.words ∷ []) rs
  -- else the words stop as single calls do, and their count is the third result
  pub words : (r : ℕ) (rs' : List ℕ) (t' : State) → ListingExports s l n t rs r rs' t' → valid_settings s ≡ true → right_lengths s t ≡ true → length l % 4 ≡ 0 →
      (q : ListingRun) × Stops s (allowed_in l n) t q t' × (r ≡ listed_number q.answer) × (rs' ≡ filled (listing_numbers q) rs)

-- settings that no machine has: every listing is answered 1, with zeros, and every buffer stays
abbrev pub RefusesAll : Settings → Type 0
RefusesAll s =
    (l : List ℕ) (n : ℕ) (t : State) (rs : List ℕ) (r : ℕ) (rs' : List ℕ) (t' : State) → ListingExports s l n t rs r rs' t' → (r ≡ 1) × (rs' ≡ filled (0 ∷ 0 ∷ 0 ∷ []) rs) × (t' ≡ t)

pub record ListingExportsAllDetermine : Type 0 where
  pub runs : (s : Settings) (l : List ℕ) (n : ℕ) (t : State) (rs : List ℕ) → ListingExportsDetermine s l n t rs
  -- by a 0 that is given for the largest vector length (request 12), and by their count alone
  pub zero : (B l a b c d : ℕ) → RefusesAll (settings_in (B ∷ l ∷ a ∷ b ∷ c ∷ d ∷ 0 ∷ []))
  pub few : (given : List ℕ) → length given < 2 → RefusesAll (settings_in given)
  pub many : (given : List ℕ) → 7 < length given → RefusesAll (settings_in given)

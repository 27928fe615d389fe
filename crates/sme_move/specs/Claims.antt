-- What the promises of specs/Export.antt leave open: nothing. Each statement is from the promise alone, whichever function meets it;
-- proofs/Claims.antt proves each. Renders 01 §6 and §9.
-- Assumes nothing.
use Rattle.std.specs.Prelude.{ℕ, ◌*◌, ◌/◌, ◌<◌, ◌≡◌, List, [], ◌∷◌, length}
use Rattle.general.specs.Determined.{Determined, Met, IsOneOf}
use Rattle.settings.specs.Answer.{nth_value}
use Rattle.settings.specs.Settings.{check_number}
use Rattle.settings.specs.Lent.{settings_in}
use Rattle.settings.specs.Results.{filled}
use Rattle.settings.specs.Claims.{Fitting, FilledIs}
use Rattle.settings.specs.declared.Settings.{Settings}
use Rattle.encoding.specs.Codec.{decode_answer, encode_answer}
use Rattle.semantics.specs.State.{State, public_of}
use Rattle.semantics.specs.Lines.{answer_in_numbers}
use Rattle.semantics.specs.Operations.{address_in}
use Rattle.semantics.specs.Reasons.{FirstOutside}
use Rattle.sme_move.specs.Export.{Exports, DecodeExports, EncodeExports, LengthExports}

-- execution: one number, one array of results, one content of every buffer; number, address and element are those of the table of answers; another
-- number than 0 leaves every buffer as it was, and another than 7 gives address 0 and element 0; 7 gives the address of the first byte outside memory and, behind it,
-- the element of that byte, the lowest-numbered active one that has one
pub record ExportsDetermine (s : Settings) (w : ℕ) (t : State) (rs : List ℕ) : Type 0 where
  pub met : Met (λ (o : ℕ × List ℕ × State). Exports s w t rs o.0 o.1 o.2)
  pub determined : Determined (λ (o : ℕ × List ℕ × State). Exports s w t rs o.0 o.1 o.2)
  pub numbers : (r : ℕ) (rs' : List ℕ) (t' : State) → Exports s w t rs r rs' t' → IsOneOf (0 ∷ 1 ∷ 2 ∷ 3 ∷ 4 ∷ 5 ∷ 6 ∷ 7 ∷ []) r
  pub table : (r : ℕ) (rs' : List ℕ) (t' : State) → Exports s w t rs r rs' t' → (r ≡ (answer_in_numbers s w (public_of t)).number) × (rs' ≡ filled (nth_value (answer_in_numbers s w (public_of t)) 0 ∷ nth_value (answer_in_numbers s w (public_of t)) 1 ∷ []) rs)
  pub refused : (r : ℕ) (rs' : List ℕ) (t' : State) → Exports s w t rs r rs' t' → (r ≡ 0 → ⊥) → t' ≡ t
  pub outside : (r : ℕ) (rs' : List ℕ) (t' : State) → Exports s w t rs r rs' t' → r ≡ 7 →
      (o : FirstOutside s w t) × (rs' ≡ filled (address_in t.x o.first.access o.first.element o.first.byte ∷ o.first.element ∷ []) rs)
  pub zeros : (r : ℕ) (rs' : List ℕ) (t' : State) → Exports s w t rs r rs' t' → (r ≡ 7 → ⊥) → rs' ≡ filled (0 ∷ 0 ∷ []) rs

-- decoding: number and fields are those of the definition with 0, and another number leaves the fields as they were
pub record DecodeExportsDetermine (w level : ℕ) (f : List ℕ) : Type 0 where
  pub determined : Determined (λ (o : ℕ × List ℕ). DecodeExports w level f o.0 o.1)
  pub numbers : (r : ℕ) (f' : List ℕ) → DecodeExports w level f r f' → IsOneOf (0 ∷ 1 ∷ 3 ∷ []) r
  pub number : (r : ℕ) (f' : List ℕ) → DecodeExports w level f r f' → r ≡ (decode_answer w level).number
  pub done : (r : ℕ) (f' : List ℕ) → DecodeExports w level f r f' → r ≡ 0 → f' ≡ (decode_answer w level).values
  pub refused : (r : ℕ) (f' : List ℕ) → DecodeExports w level f r f' → (r ≡ 0 → ⊥) → f' ≡ f

-- encoding: number and word are those of the definition, and another number than 0 gives word 0
pub record EncodeExportsDetermine (f : List ℕ) : Type 0 where
  pub determined : Determined (λ (o : ℕ × ℕ). EncodeExports f o.0 o.1)
  pub numbers : (r w : ℕ) → EncodeExports f r w → IsOneOf (0 ∷ 8 ∷ []) r
  pub table : (r w : ℕ) → EncodeExports f r w → (r ≡ (encode_answer f).number) × (w ≡ nth_value (encode_answer f) 0)
  pub refused : (r w : ℕ) → EncodeExports f r w → (r ≡ 0 → ⊥) → w ≡ 0

-- lengths: with 0, which is given exactly if the two vector lengths fit, what the largest fixes, and another number leaves them as they were
pub record LengthExportsDetermine (s : Settings) (l : List ℕ) : Type 0 where
  pub determined : Determined (λ (o : ℕ × List ℕ). LengthExports s l o.0 o.1)
  pub numbers : (r : ℕ) (l' : List ℕ) → LengthExports s l r l' → IsOneOf (0 ∷ 1 ∷ []) r
  pub fitting : (r : ℕ) (l' : List ℕ) → LengthExports s l r l' → r ≡ 0 → Fitting s.vector_bytes s.largest_vector_bytes
  pub valid : (r : ℕ) (l' : List ℕ) → LengthExports s l r l' → Fitting s.vector_bytes s.largest_vector_bytes → r ≡ 0
  pub done : (r : ℕ) (l' : List ℕ) → LengthExports s l r l' → r ≡ 0 →
      l' ≡ 32 ∷ (32 * s.largest_vector_bytes) ∷ (16 * (s.largest_vector_bytes / 8)) ∷ (s.largest_vector_bytes * s.largest_vector_bytes) ∷ []
  pub refused : (r : ℕ) (l' : List ℕ) → LengthExports s l r l' → (r ≡ 0 → ⊥) → l' ≡ l

-- settings that no machine has: every question is answered 1, with address 0 and element 0, and every buffer stays
pub record AnswersNoMachine (s : Settings) : Type 0 where
  pub executes : (w : ℕ) (t : State) (rs : List ℕ) (r : ℕ) (rs' : List ℕ) (t' : State) → Exports s w t rs r rs' t' → (r ≡ 1) × (rs' ≡ filled (0 ∷ 0 ∷ []) rs) × (t' ≡ t)
  pub checks : check_number s ≡ 1
  pub lengths : (l : List ℕ) (r : ℕ) (l' : List ℕ) → LengthExports s l r l' → (r ≡ 1) × (l' ≡ l)

pub record ExportsAllDetermine : Type 0 where
  pub executes : (s : Settings) (w : ℕ) (t : State) (rs : List ℕ) → ExportsDetermine s w t rs
  pub results : (ns old : List ℕ) → FilledIs ns old
  pub decodes : (w level : ℕ) (f : List ℕ) → DecodeExportsDetermine w level f
  pub encodes : (f : List ℕ) → EncodeExportsDetermine f
  pub lengths : (s : Settings) (l : List ℕ) → LengthExportsDetermine s l
  -- by a 0 that is given for the largest vector length (request 12), and by their count alone
  pub zero : (B l a b c d : ℕ) → AnswersNoMachine (settings_in (B ∷ l ∷ a ∷ b ∷ c ∷ d ∷ 0 ∷ []))
  pub few : (given : List ℕ) → length given < 2 → AnswersNoMachine (settings_in given)
  pub many : (given : List ℕ) → 7 < length given → AnswersNoMachine (settings_in given)

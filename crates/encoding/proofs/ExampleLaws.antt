-- Lists of decoded words compared in a way that is quick to compute: answer by answer with a test, and row by row with the upper bits first.
-- Assumes nothing.
use Prim.Native.Nat.{ℕ, ◌+◌}
use mathlib.Core.Path.{◌≡◌, refl, sym, ap, ap₂, ◌∙◌}
use mathlib.Core.Bool.{Bool, true, false, cond, ◌&&◌}
use mathlib.Core.List.{List, [], ◌∷◌, map, Memᴰ}
use mathlib.Core.Option.{Option, some}
use mathlib.Core.Logic.{◌⊎◌, inl, inr}
use native.Mathlib.Omega.{arith}
use lib.Dec.{eqb}
use borrow.Author.Tests.{eqb-true, eq-eqb}
use Rattle.general.proofs.BoolLaws.{and_parts, by_test}
use Rattle.settings.specs.Answer.{Answer}
use Rattle.encoding.specs.Flat.{same_numbers}
use Rattle.encoding.specs.Row.{Row}
use Rattle.encoding.specs.Table.{table}
use Rattle.encoding.specs.Word.{bits_at, covered, same_unless, fits}
use Rattle.encoding.specs.FlipExamples.{flipped, flipped_answer, FlipExample}
use Rattle.encoding.specs.Codec.{first, row_of_word, decode_answer_by, decode_answer}
use Rattle.encoding.proofs.BitLaws.{bits_below, bit_of_bits, bits_equal}
use Rattle.encoding.proofs.FlatLaws.{same_equal}
use Rattle.encoding.proofs.RowLaws.{same_facts, fits_facts}
use Rattle.encoding.proofs.TableLaws.{every, every_at}

-- ---- rows by their upper bits

-- no field has one of the bits from 21 on
abbrev plain_above : Row → Bool
plain_above r = same_unless (λ d. false) (λ d. cond (covered r.fields (21 + d)) 1 0) (λ d. 0) 11

plain_table : every plain_above table ≡ true
unfolding table
plain_table = refl

abbrev fits_above : Row → ℕ → Bool
fits_above r w = eqb (bits_at 21 11 w) (bits_at 21 11 r.base) && fits r w

fits_above_lem : (r : Row) (w : ℕ) → plain_above r ≡ true → fits r w ≡ fits_above r w
fits_above_lem r w e = go (by_test (fits r w))
  where
    uncovered : (b : Bool) → ◌≡◌ {A = ℕ} (cond b 1 0) 0 → b ≡ false
    uncovered true q = absurd (omega arith)
    uncovered false q = refl

    upper : fits r w ≡ true → bits_at 21 11 w ≡ bits_at 21 11 r.base
    upper f = bits_equal 11 (bits_at 21 11 w) (bits_at 21 11 r.base) (bits_below 21 11 w) (bits_below 21 11 r.base) (λ d l.
        bit_of_bits 21 11 d w l
        ∙ fits_facts r w f (21 + d) (omega arith) (uncovered (covered r.fields (21 + d)) (same_facts (λ d. false) (λ d. cond (covered r.fields (21 + d)) 1 0) (λ d. 0) 11 e d l refl))
        ∙ sym (bit_of_bits 21 11 d r.base l))

    no : (b : Bool) → false ≡ b && false
    no true = refl
    no false = refl

    go : (fits r w ≡ true) ⊎ (fits r w ≡ false) → fits r w ≡ fits_above r w
    go (inl f) = rw (f, eq-eqb (bits_at 21 11 w) (bits_at 21 11 r.base) (upper f))
    go (inr f) = rw f (no (eqb (bits_at 21 11 w) (bits_at 21 11 r.base)))

first_same : (p q : Row → Bool) (rs : List Row) → ((r : Row) → Memᴰ r rs → p r ≡ q r) → first p rs ≡ first q rs
first_same p q [] h = refl
first_same p q (r ∷ rs) h = ap₂ (λ (b : Bool) (f : Option Row). cond b (some r) f) (h r (Memᴰ.head refl)) (first_same p q rs (λ s i. h s (Memᴰ.tail i)))

-- the answer of decoding, so computed
abbrev pub quick_answer : ℕ → ℕ → Answer
quick_answer w level = decode_answer_by (first (λ r. fits_above r w) table) w level

quick_answer_lem : (w level : ℕ) → decode_answer w level ≡ quick_answer w level
unfolding decode_answer row_of_word
quick_answer_lem w level =
    ap (λ (f : Option Row). decode_answer_by f w level) (first_same (λ r. fits r w) (λ r. fits_above r w) table (λ r i. fits_above_lem r w (every_at plain_above table plain_table r i)))

-- ---- lists of answers

abbrev same_answer : Answer → Answer → Bool
same_answer a b = eqb a.number b.number && same_numbers a.values b.values

same_answer_lem : (a b : Answer) → same_answer a b ≡ true → a ≡ b
same_answer_lem a b e =
    let h = and_parts (eqb a.number b.number) (same_numbers a.values b.values) e in
    let n = eqb-true a.number b.number h.0 in
    let v = same_equal a.values b.values h.1 in
    λ i. record { number = n i; values = v i }

-- words of a list decode as it says: each element has a word, a level and an answer
module _ {A : Type 0} (word level : A → ℕ) (gives : A → Answer) where
  abbrev pub decode_to : List A → Bool
  decode_to [] = true
  decode_to (x ∷ xs) = same_answer (quick_answer (word x) (level x)) (gives x) && decode_to xs

  pub decode_to_lem : (xs : List A) → decode_to xs ≡ true → map (λ x. decode_answer (word x) (level x)) xs ≡ map gives xs
  decode_to_lem [] e = refl
  decode_to_lem (x ∷ xs) e =
      let h = and_parts (same_answer (quick_answer (word x) (level x)) (gives x)) (decode_to xs) e in
      ap₂ ◌∷◌ (quick_answer_lem (word x) (level x) ∙ same_answer_lem (quick_answer (word x) (level x)) (gives x) h.0) (decode_to_lem xs h.1)

-- the same for words with bits flipped
abbrev pub flips_to : List FlipExample → Bool
flips_to [] = true
flips_to (e ∷ es) = decode_to (flipped e.word) (λ i. 3) (flipped_answer e.neighbours) e.fixed && flips_to es

pub flips_to_lem : (es : List FlipExample) → flips_to es ≡ true →
    map (λ (e : FlipExample). map (λ i. decode_answer (flipped e.word i) 3) e.fixed) es ≡ map (λ (e : FlipExample). map (flipped_answer e.neighbours) e.fixed) es
flips_to_lem [] q = refl
flips_to_lem (e ∷ es) q =
    let h = and_parts (decode_to (flipped e.word) (λ i. 3) (flipped_answer e.neighbours) e.fixed) (flips_to es) q in
    ap₂ ◌∷◌ (decode_to_lem (flipped e.word) (λ i. 3) (flipped_answer e.neighbours) e.fixed h.0) (flips_to_lem es h.1)

-- Laws of the answers in specs/Codec.antt: which numbers they have, and what a refusal carries; and that each promise can be met.
-- Assumes nothing.
use Rattle.std.specs.Prelude.{Ok, Err}
use Prim.Native.Nat.{ℕ, ◌<◌}
use mathlib.Core.Path.{◌≡◌, refl, ap}
use mathlib.Core.Bool.{Bool, true, false, cond}
use mathlib.Core.List.{List, [], ◌∷◌}
use mathlib.Core.Option.{Option, none, some}
use mathlib.Core.Logic.{◌⊎◌, inl, inr}
use native.Mathlib.Omega.{arith}
use lib.Dec.{ltb, leb}
use lib.ListN.{length}
use borrow.Author.Tests.{ltb-true, lt-ltb}
use Rattle.general.proofs.BoolLaws.{by_test}
use Rattle.settings.specs.Answer.{answer_with, done, bad_settings, undecodable, out_of_range}
use Rattle.settings.specs.Settings.{max_level}
use Rattle.encoding.specs.Answer.{decoded_answer, unflattened_answer}
use Rattle.encoding.specs.Flat.{flat_of, operation_of, same_numbers, unflatten_of, no_word}
use Rattle.encoding.specs.Row.{Row}
use Rattle.encoding.specs.Table.{table}
use Rattle.encoding.specs.Word.{fits, numbers_in, encodable, word_of}
use Rattle.encoding.specs.Codec.{row_of_word, row_of_numbers, decode_as, decode_of, decode_answer_as, decode_answer, Decodes, encode_answer_as, encode_answer, unflatten_answer, Unflattens}
use Rattle.encoding.specs.Claims.{Answered}
use Rattle.encoding.proofs.FlatLaws.{same_equal}
use Rattle.encoding.proofs.NumbersLaws.{row_numbers}
use Rattle.encoding.proofs.TableLaws.{first_found}
use Rattle.encoding.specs.declared.operation.DecodeRefusal.TheVariants.{BadLevel, Undecodable}

-- ---- decoding

pub decode_answered : (w level : ℕ) → Answered (0 ∷ 1 ∷ 3 ∷ []) [] (decode_answer w level)
unfolding decode_answer
decode_answered w level = by_level (ltb max_level level) (row_of_word w)
  where
    unknown : Answered (0 ∷ 1 ∷ 3 ∷ []) [] (answer_with undecodable [])
    unknown = record { number = inr (inr (inl refl)); values = λ n. refl }

    by_row : (b : Bool) (vs : List ℕ) → Answered (0 ∷ 1 ∷ 3 ∷ []) [] (cond b (answer_with done vs) (answer_with undecodable []))
    by_row true vs = record { number = inl refl; values = λ n. absurd (n refl) }
    by_row false vs = unknown

    by_level : (b : Bool) (f : Option Row) → Answered (0 ∷ 1 ∷ 3 ∷ []) [] (cond b (answer_with bad_settings []) (decode_answer_as w level f))
    by_level true f = record { number = inr (inl refl); values = λ n. refl }
    by_level false none = unknown
    by_level false (some r) = by_row (leb r.level level) (numbers_in r w)

-- 1 exactly for a level above 3
pub decode_above : (w level : ℕ) → max_level < level → (decode_answer w level).number ≡ bad_settings
unfolding decode_answer
decode_above w level h = rw (lt-ltb max_level level h)

pub decode_only : (w level : ℕ) → (decode_answer w level).number ≡ bad_settings → max_level < level
unfolding decode_answer
decode_only w level = by_level (ltb max_level level) refl (row_of_word w)
  where
    by_row : (b : Bool) (vs : List ℕ) → (cond b (answer_with done vs) (answer_with undecodable [])).number ≡ bad_settings → max_level < level
    by_row true vs e = absurd (omega arith)
    by_row false vs e = absurd (omega arith)

    by_level : (b : Bool) → ltb max_level level ≡ b → (f : Option Row) → (cond b (answer_with bad_settings []) (decode_answer_as w level f)).number ≡ bad_settings → max_level < level
    by_level true y f e = ltb-true max_level level y
    by_level false y none e = absurd (omega arith)
    by_level false y (some r) e = by_row (leb r.level level) (numbers_in r w) e

-- what decoding gives has the numbers in the word
pub decodes : (w level : ℕ) → Decodes w level (decode_of w level)
unfolding decode_of decode_answer row_of_word
decodes w level = record { equal = refl; answers = by_level (ltb max_level level) (row_of_word w) refl }
  where
    by_row : (b : Bool) (r : Row) → flat_of (operation_of (numbers_in r w)) ≡ numbers_in r w →
        decoded_answer (cond b (Ok (operation_of (numbers_in r w))) (Err Undecodable)) ≡ cond b (answer_with done (numbers_in r w)) (answer_with undecodable [])
    by_row true r e = ap (answer_with done) e
    by_row false r e = refl

    by_level : (b : Bool) (f : Option Row) → row_of_word w ≡ f → decoded_answer (cond b (Err BadLevel) (decode_as w level f)) ≡ cond b (answer_with bad_settings []) (decode_answer_as w level f)
    by_level true f e = refl
    by_level false none e = refl
    by_level false (some r) e = by_row (leb r.level level) r (row_numbers r w (first_found (λ s. fits s w) table r e).listed)

-- ---- encoding

pub encode_answered : (ns : List ℕ) → Answered (0 ∷ 8 ∷ []) (0 ∷ []) (encode_answer ns)
unfolding encode_answer
encode_answered ns = by_found (row_of_numbers ns)
  where
    by_row : (b : Bool) (w : ℕ) → Answered (0 ∷ 8 ∷ []) (0 ∷ []) (cond b (answer_with done (w ∷ [])) (answer_with out_of_range (0 ∷ [])))
    by_row true w = record { number = inl refl; values = λ n. absurd (n refl) }
    by_row false w = record { number = inr (inl refl); values = λ n. refl }

    by_found : (f : Option Row) → Answered (0 ∷ 8 ∷ []) (0 ∷ []) (encode_answer_as ns f)
    by_found none = record { number = inr (inl refl); values = λ n. refl }
    by_found (some r) = by_row (encodable r ns) (word_of r ns)

-- ---- the flat form

pub unflatten_answered : (ns : List ℕ) → Answered (0 ∷ 8 ∷ []) [] (unflatten_answer ns)
unfolding unflatten_answer
unflatten_answered ns = go (same_numbers (flat_of (operation_of ns)) ns)
  where
    go : (b : Bool) → Answered (0 ∷ 8 ∷ []) [] (cond b (answer_with done ns) (answer_with out_of_range []))
    go true = record { number = inl refl; values = λ n. absurd (n refl) }
    go false = record { number = inr (inl refl); values = λ n. refl }

pub unflattens : (ns : List ℕ) → length ns ≡ 11 → Unflattens ns (unflatten_of ns)
unfolding unflatten_of unflatten_answer
unflattens ns l = record { equal = refl; answers = go (by_test (same_numbers (flat_of (operation_of ns)) ns)); eleven = l }
  where
    go : (same_numbers (flat_of (operation_of ns)) ns ≡ true) ⊎ (same_numbers (flat_of (operation_of ns)) ns ≡ false) →
        unflattened_answer (cond (same_numbers (flat_of (operation_of ns)) ns) (Ok (operation_of ns)) (Err no_word)) ≡ cond (same_numbers (flat_of (operation_of ns)) ns) (answer_with done ns) (answer_with out_of_range [])
    go (inl t) = rw t (ap (answer_with done) (same_equal (flat_of (operation_of ns)) ns t))
    go (inr t) = rw t

-- The theorems of specs/Shown.antt: every choice of its calls is ready, and refused calls stand before, between and after them.
-- Assumes nothing.
use Rattle.std.specs.Prelude.{Result, ⊤, Ok}
use Prim.Native.Nat.{ℕ, zero, suc, ◌+◌, ◌*◌, ◌-◌, ◌%◌, ◌^◌, ◌<◌}
use mathlib.Core.Path.{◌≡◌, refl, sym, ap, ◌∙◌}
use mathlib.Core.List.{List, [], ◌∷◌, ◌++◌, map}
use mathlib.Core.Bool.{Bool, true, not}
use mathlib.Core.Option.{none}
use native.Mathlib.Omega.{arith}
use lib.Dec.{eqb}
use borrow.Author.Tests.{eqb-true, not-false}
use Rattle.general.proofs.LeastLaws.{least_none}
use lib.ListN.{length, get_or, length-set}
use Rattle.settings.specs.Settings.{is_vector_length, settings_of}
use Rattle.settings.specs.Claims.{Fitting}
use Rattle.settings.proofs.Claims.{vectors_fit}
use Rattle.encoding.specs.Table.{table}
use Rattle.encoding.specs.Codec.{row_of_word, decode_of}
use Rattle.tiles.specs.declared.element.ElementSize.{ElementSize}
use Rattle.tiles.specs.declared.element.ElementSize.TheVariants.{Bits32}
use Rattle.tiles.specs.declared.direction.Direction.{Direction}
use Rattle.general.specs.Least.{least}
use Rattle.tiles.specs.Predicate.{active}
use Rattle.semantics.specs.declared.answer.Refusal.{Refusal}
use Rattle.semantics.specs.Answer.{executed_number}
use Rattle.semantics.specs.Execute.{access_answer, answer_of, execute_of}
use Rattle.semantics.specs.ExampleBuffers.{bytes_from, za_at}
use Rattle.laws.specs.Calls.{Call, run, numbers_at}
use Rattle.laws.specs.Crossing.{occurrences, EachOnce, Crosses}
use Rattle.laws.specs.Exhibit.{Choice, Ready}
use Rattle.laws.specs.Shown.{shown_rows, shown_columns, shown_row, shown_column, refused_calls, RefusalsShown, shown_in, shown_out, ListShown}
use Rattle.laws.proofs.CallLaws.{run_long, cons_same, nil_cons}
use Rattle.laws.proofs.Exhibit.{lists_exist, refused_may_stand}

pub refusals_shown : RefusalsShown
unfolding table row_of_word decode_of is_vector_length active least access_answer answer_of execute_of
refusals_shown za e = rw e refl

-- ---- calls that are refused at every ZA of a length

-- an answer with a number above 0 is a refusal
pub numbered : (a : Result ⊤ Refusal) (n : ℕ) → executed_number a ≡ suc n → a ≡ Ok tt → ⊥
numbered a n e q = let z : ◌≡◌ {A = ℕ} 0 (suc n) = sym (ap executed_number q) ∙ e in omega arith

-- calls with such answers may stand in a row anywhere in a crossing list
put_in : (S B : ℕ) (size : ElementSize) (d : Direction) (t : ℕ) (before after : List Call) (za : List ℕ) (cs : List Call) (ns : List ℕ) → ((a : List ℕ) → length a ≡ length za → numbers_at cs a ≡ map suc ns) → Crosses S B size d t (before ++ after) za → Crosses S B size d t (before ++ (cs ++ after)) za
put_in S B size d t before after za [] ns r h = h
put_in S B size d t before after za (c ∷ cs) [] r h = absurd (nil_cons (sym (r za refl)))
put_in S B size d t before after za (c ∷ cs) (n ∷ ns) r h =
    refused_may_stand S B size d t before (cs ++ after) c za (put_in S B size d t before after za cs ns (λ a e. (cons_same (r a e)).1) h)
    (numbered _ n (cons_same (r (run before za) (run_long before za))).0)

-- a test that no number below n fails
pub passes : (f : ℕ → Bool) (n : ℕ) → least (λ k. not (f k)) n ≡ none → (k : ℕ) → k < n → f k ≡ true
passes f n e k h = not-false _ (least_none (λ k. not (f k)) n e k h)

-- ---- the orders

-- each of the numbers below n stands once in a list, if counting says so
pub once : (n : ℕ) (l : List ℕ) → least (λ k. not (eqb (occurrences k l) 1)) n ≡ none → (k : ℕ) → k < n → occurrences k l ≡ 1
once n l e k h = eqb-true _ 1 (passes (λ k. eqb (occurrences k l) 1) n e k h)

bytes_length : (i n : ℕ) → length (bytes_from i n) ≡ n
bytes_length i zero = refl
bytes_length i (suc n) = ap suc (bytes_length (suc i) n)

-- the slice that a choice's index register and offset give
abbrev slice_of : Choice → ℕ
slice_of h = (get_or h.x h.index 0 % 2 ^ 32 + h.offset) % 8

-- every call of the list is on its slice, and done
pub row_ready : (k : ℕ) → k < 8 → Ready 1 32 32 Bits32 k (shown_row k)
unfolding least
row_ready k h =
    record {
      vector = refl;
      largest = refl;
      level = omega arith;
      streaming = refl;
      za = refl;
      indices = omega arith;
      offsets = omega arith;
      predicates = omega arith;
      registers = omega arith;
      slice = eqb-true _ k (passes (λ j. eqb (slice_of (shown_row j)) j) 8 refl k h);
      xs = length-set (bytes_from 50 32) (12 + k % 4) (3 * 2 ^ 32 + k - suc k % 4);
      zs = bytes_length k 1024;
      ps = bytes_length k 64;
      memory = omega (arith, bytes_length 200 (suc k));
    }

pub column_ready : (k : ℕ) → k < 8 → Ready 3 32 32 Bits32 k (shown_column k)
unfolding least
column_ready k h =
    record {
      vector = refl;
      largest = refl;
      level = omega arith;
      streaming = refl;
      za = refl;
      indices = omega arith;
      offsets = omega arith;
      predicates = omega arith;
      registers = omega arith;
      slice = eqb-true _ k (passes (λ j. eqb (slice_of (shown_column j)) j) 8 refl k h);
      xs = length-set (bytes_from 50 32) (15 - k % 4) (2 ^ 64 - 8 + k - (k + 2) % 4);
      zs = bytes_length (k + 8) 1024;
      ps = bytes_length (k + 8) 64;
      memory = omega (arith, bytes_length 200 (8 * suc k));
    }

-- the slices stand in each order once
pub rows_once : EachOnce 8 shown_rows
unfolding occurrences least
rows_once = record { many = refl; once = once 8 shown_rows refl }

pub columns_once : EachOnce 8 shown_columns
unfolding occurrences least
columns_once = record { many = refl; once = once 8 shown_columns refl }

pub fitting_32 : Fitting 32 32
unfolding is_vector_length
fitting_32 = (vectors_fit (settings_of 32 32 0)).0 refl

plain : (d : Direction) → Crosses 32 32 Bits32 d 1 (shown_in d ++ shown_out d) (za_at 32)
plain d =
    lists_exist 32 32 Bits32 d 1 shown_row shown_column shown_rows shown_columns (za_at 32) fitting_32 (omega arith) refl row_ready column_ready
    rows_once (omega arith, (omega arith, (omega arith, (omega arith, (omega arith, (omega arith, (omega arith, (omega arith, tt {0}))))))))
    columns_once (omega arith, (omega arith, (omega arith, (omega arith, (omega arith, (omega arith, (omega arith, (omega arith, tt {0}))))))))

pub list_shown : ListShown
list_shown d =
    put [] (shown_in d ++ (refused_calls ++ (shown_out d ++ (refused_calls ++ []))))
    (put (shown_in d) (shown_out d ++ (refused_calls ++ []))
    (put (shown_in d ++ shown_out d) [] (plain d)))
  where
    put : (before after : List Call) → Crosses 32 32 Bits32 d 1 (before ++ after) (za_at 32) → Crosses 32 32 Bits32 d 1 (before ++ (refused_calls ++ after)) (za_at 32)
    put before after h = put_in 32 32 Bits32 d 1 before after (za_at 32) refused_calls (0 ∷ 1 ∷ 2 ∷ 3 ∷ 4 ∷ 5 ∷ 6 ∷ 5 ∷ 6 ∷ []) refusals_shown h

-- Laws of specs/Line.antt: which lines are refused, and what the others ask.
-- Assumes nothing.
use Prim.Native.Nat.{ℕ}
use Rattle.std.proofs.Common.{Result, Ok, Err}
use Rattle.std.specs.Result.{MatchResult, result_unwrap_or}
use Rattle.settings.specs.Answer.{done, out_of_range}
use Rattle.encoding.specs.Answer.{encoded_answer, encoded_word}
use Rattle.encoding.specs.declared.operation.OutOfRange.{OutOfRange}
use mathlib.Core.Path.{◌≡◌}
use mathlib.Core.Bool.{and-false}
use mathlib.Core.List.{List}
use Rattle.std.proofs.Common.{Option, None}
use lib.ListN.{length, get_or, take, drop}
use borrow.Author.Tests.{eq-eqb, ne_eqb}
use Rattle.text.specs.Digits.{parse_of}
use Rattle.encode_fields.specs.Line.{question_as, question_of}

-- a line of another length is refused
pub question_length : (l : List ℕ) → (length l ≡ 23 → ⊥) → None ≡ question_of l
unfolding question_of
question_length l h = rw (ne_eqb (length l) 23 h)

-- and one with another byte where the newline is to be
pub question_newline : (l : List ℕ) → (get_or l 22 0 ≡ 10 → ⊥) → None ≡ question_of l
unfolding question_of
question_newline l h = rw (ne_eqb (get_or l 22 0) 10 h, and-false)

-- of any other line the digits decide
pub question_asked : (l : List ℕ) (first second third : Option ℕ) → length l ≡ 23 → get_or l 22 0 ≡ 10 → first ≡ parse_of (take 8 l) → second ≡ parse_of (take 8 (drop 8 l)) → third ≡ parse_of (take 6 (drop 16 l)) → question_as first second third ≡ question_of l
unfolding question_of
question_asked l first second third n newline a b c = rw (eq-eqb (length l) 23 n, eq-eqb (get_or l 22 0) 10 newline, a, b, c)

-- an answer's word and number
pub worded : (e : Result ℕ OutOfRange) (w : ℕ) → w ≡ result_unwrap_or e 0 → w ≡ encoded_word e
worded (Ok w) v e = e
worded (Err r) v e = e

pub numbered : (e : Result ℕ OutOfRange) (n : ℕ) → MatchResult e (λ _. n ≡ done) (λ _. n ≡ out_of_range) → n ≡ (encoded_answer e).number
numbered (Ok w) n e = e
numbered (Err r) n e = e

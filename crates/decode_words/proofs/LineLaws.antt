-- Laws of specs/Line.antt: which lines are refused, what the others ask, and the text of one number more.
-- Assumes nothing.
use Prim.Native.Nat.{ℕ, ◌+◌, ◌<◌}
use mathlib.Core.Path.{◌≡◌, refl}
use mathlib.Core.Bool.{and-false}
use mathlib.Core.List.{List, [], ◌∷◌, ◌++◌, append_assoc, append-nil}
use native.Mathlib.Numerals.{add-one}
use Rattle.std.proofs.Common.{Option, None}
use lib.ListN.{length, get_or, take, drop}
use lib.Seq.{take-suc}
use borrow.Author.Tests.{eq-eqb, ne_eqb}
use Rattle.std.proofs.Common.{Result, Ok, Err}
use Rattle.std.specs.Result.{MatchResult, result_unwrap_or}
use Rattle.settings.specs.Answer.{done}
use Rattle.encoding.specs.Answer.{decode_refusal_number, decoded_answer, encoded_word}
use Rattle.encoding.specs.declared.operation.Operation.{Operation}
use Rattle.encoding.specs.declared.operation.DecodeRefusal.{DecodeRefusal}
use Rattle.encoding.specs.declared.operation.OutOfRange.{OutOfRange}
use Rattle.text.specs.Digits.{decimal_of, parse_of}
use Rattle.text.specs.Line.{space}
use Rattle.decode_words.specs.Line.{question_as, question_of, numbers_text}

-- a line of another length is refused
pub question_length : (l : List ℕ) → (length l ≡ 12 → ⊥) → None ≡ question_of l
unfolding question_of
question_length l h = rw (ne_eqb (length l) 12 h)

-- and one with another byte where the space is to be
pub question_space : (l : List ℕ) → (get_or l 8 0 ≡ 32 → ⊥) → None ≡ question_of l
unfolding question_of
question_space l h = rw (ne_eqb (get_or l 8 0) 32 h, and-false)

-- or where the newline is to be
pub question_newline : (l : List ℕ) → (get_or l 11 0 ≡ 10 → ⊥) → None ≡ question_of l
unfolding question_of
question_newline l h = rw (ne_eqb (get_or l 11 0) 10 h, and-false)

-- of any other line the digits decide
pub question_asked : (l : List ℕ) (word level : Option ℕ) → length l ≡ 12 → get_or l 8 0 ≡ 32 → get_or l 11 0 ≡ 10 → word ≡ parse_of (take 8 l) → level ≡ parse_of (take 2 (drop 9 l)) → question_as word level ≡ question_of l
unfolding question_of
question_asked l word level n space newline w k = rw (eq-eqb (length l) 12 n, eq-eqb (get_or l 8 0) 32 space, eq-eqb (get_or l 11 0) 10 newline, w, k)

-- numbers and more numbers
numbers_text-append : (ms ns : List ℕ) → numbers_text (ms ++ ns) ≡ numbers_text ms ++ numbers_text ns
numbers_text-append [] ns = refl
numbers_text-append (m ∷ ms) ns = simp (numbers_text-append ms ns, append_assoc)

-- one number more
pub numbers_text-next : (ns : List ℕ) (i : ℕ) → i < length ns → numbers_text (take (i + 1) ns) ≡ numbers_text (take i ns) ++ (decimal_of (get_or ns i 0) ++ space)
numbers_text-next ns i h = rw (add-one, take-suc ns i 0, numbers_text-append, append-nil)

-- an answer's word
pub worded : (e : Result ℕ OutOfRange) (w : ℕ) → w ≡ result_unwrap_or e 0 → w ≡ encoded_word e
worded (Ok w) v e = e
worded (Err r) v e = e

-- an answer's number
pub numbered : (d : Result Operation DecodeRefusal) (n : ℕ) → MatchResult d (λ _. n ≡ done) (λ e. n ≡ decode_refusal_number e) → n ≡ (decoded_answer d).number
numbered (Ok o) n e = e
numbered (Err r) n e = e

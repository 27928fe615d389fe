-- The lines that are read and written. To believe: where the digits, the spaces and the newline are, and that two digits
-- are a number.
-- Assumes nothing.
use Rattle.std.specs.Prelude.{ℕ, zero, suc, ◌/◌, ◌%◌, ◌^◌, Bool, cond, ◌&&◌, List, [], ◌∷◌, ◌++◌, eqb, length, get_or, take, drop, Option, Some, None, Result}
use Rattle.encoding.specs.Answer.{encoded_answer, encoded_word}
use Rattle.encoding.specs.Codec.{encode_flat_of}
use Rattle.encoding.specs.declared.operation.OutOfRange.{OutOfRange}
use Rattle.text.specs.Digits.{hex_digits, decimal_of, parse_of}
use Rattle.text.specs.Line.{space, newline}
use Rattle.encode_fields.specs.declared.Question.{Question}

-- a line has 23 bytes, the last a newline
abbrev pub is_line : List ℕ → Bool
is_line l = eqb (length l) 23 && eqb (get_or l 22 0) 10

-- the question of what was read in three parts
abbrev pub question_as : Option ℕ → Option ℕ → Option ℕ → Option Question
question_as (Some first) (Some second) (Some third) = Some (record { first = first; second = second; third = third })
question_as (Some first) (Some second) None = None
question_as (Some first) None third = None
question_as None second third = None

-- the other bytes are digits: eight, eight and six
unfoldable pub question_of : List ℕ → Option Question
question_of l = cond (is_line l) (question_as (parse_of (take 8 l)) (parse_of (take 8 (drop 8 l))) (parse_of (take 6 (drop 16 l)))) None

-- the last k bytes of n, the highest first
abbrev pub bytes_in : ℕ → ℕ → List ℕ
bytes_in zero n = []
bytes_in (suc k) n = n / 256 ^ k % 256 ∷ bytes_in k n

-- the eleven numbers of a question
abbrev pub numbers_asked : ℕ → ℕ → ℕ → List ℕ
numbers_asked first second third = bytes_in 4 first ++ bytes_in 4 second ++ bytes_in 3 third

-- the 22 digits again
unfoldable pub question_text : ℕ → ℕ → ℕ → List ℕ
question_text first second third = hex_digits 8 first ++ hex_digits 8 second ++ hex_digits 6 third

-- an answer's number and its word, 0 where there is none, each after a space
unfoldable pub encoded_text : Result ℕ OutOfRange → List ℕ
encoded_text e = space ++ decimal_of (encoded_answer e).number ++ space ++ hex_digits 8 (encoded_word e) ++ newline

-- the answer to a question
unfoldable pub line_of : ℕ → ℕ → ℕ → List ℕ
line_of first second third = question_text first second third ++ encoded_text (encode_flat_of (numbers_asked first second third))

-- The lines that are read and written. To believe: where the digits, the spaces and the newline are.
-- Assumes nothing.
use Rattle.std.specs.Prelude.{ℕ, Bool, cond, ◌&&◌, List, [], ◌∷◌, ◌++◌, eqb, length, get_or, take, drop, Option, Some, None, Result, Ok, Err}
use Rattle.encoding.specs.Answer.{decoded_answer, encoded_word}
use Rattle.encoding.specs.Codec.{decode_of, encode_flat_of}
use Rattle.encoding.specs.Flat.{flat_of}
use Rattle.encoding.specs.declared.operation.Operation.{Operation}
use Rattle.encoding.specs.declared.operation.DecodeRefusal.{DecodeRefusal}
use Rattle.text.specs.Digits.{hex_digits, decimal_of, parse_of}
use Rattle.text.specs.Line.{space, newline}
use Rattle.decode_words.specs.declared.Question.{Question}

-- a line has twelve bytes, the ninth a space and the last a newline
abbrev pub is_line : List ℕ → Bool
is_line l = eqb (length l) 12 && eqb (get_or l 8 0) 32 && eqb (get_or l 11 0) 10

-- the question of what was read as a word and as a level
abbrev pub question_as : Option ℕ → Option ℕ → Option Question
question_as (Some word) (Some level) = Some (record { word = word; level = level })
question_as (Some word) None = None
question_as None level = None

-- eight digits of a word, and after the space two of a level
unfoldable pub question_of : List ℕ → Option Question
question_of l = cond (is_line l) (question_as (parse_of (take 8 l)) (parse_of (take 2 (drop 9 l)))) None

-- numbers in decimal, with a space after each
abbrev pub numbers_text : List ℕ → List ℕ
numbers_text [] = []
numbers_text (n ∷ ns) = decimal_of n ++ space ++ numbers_text ns

-- after a space an operation's eleven numbers, and the word that they encode to
unfoldable pub operation_text : Operation → List ℕ
operation_text o = space ++ numbers_text (flat_of o) ++ hex_digits 8 (encoded_word (encode_flat_of (flat_of o)))

-- what follows the answer's number
abbrev pub rest_text : Result Operation DecodeRefusal → List ℕ
rest_text (Ok o) = operation_text o ++ newline
rest_text (Err e) = newline

-- the answer to a word at a level
unfoldable pub line_of : ℕ → ℕ → List ℕ
line_of w level =
    hex_digits 8 w ++ space ++ hex_digits 2 level ++ space ++
    decimal_of (decoded_answer (decode_of w level)).number ++ rest_text (decode_of w level)

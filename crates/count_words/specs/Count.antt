-- How many words decode, and the line that says so. To believe: a word counts exactly if decoding it gives an operation.
-- Assumes nothing.
use Rattle.std.specs.Prelude.{ℕ, zero, suc, ◌+◌, ◌^◌, List, ◌++◌, Result, Ok, Err}
use Rattle.encoding.specs.Codec.{decode_of}
use Rattle.encoding.specs.declared.operation.Operation.{Operation}
use Rattle.encoding.specs.declared.operation.DecodeRefusal.{DecodeRefusal}
use Rattle.text.specs.Digits.{decimal_of}
use Rattle.text.specs.Line.{space, newline}

-- 1 for a word that decoded, 0 for a refusal
abbrev pub count_of : Result Operation DecodeRefusal → ℕ
count_of (Ok o) = 1
count_of (Err e) = 0

-- how many of the n words from `first` on decode at a level
unfoldable pub decode_count : ℕ → ℕ → ℕ → ℕ
decode_count level first zero = 0
decode_count level first (suc n) = decode_count level first n + count_of (decode_of (first + n) level)

-- the level, and how many of all words decode
unfoldable pub line_of : ℕ → List ℕ
line_of level = decimal_of level ++ space ++ decimal_of (decode_count level 0 (2 ^ 32)) ++ newline

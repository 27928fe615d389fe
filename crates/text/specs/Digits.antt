-- Numbers as digits. To believe: the bytes of the digits, and that the first digit counts most.
-- Assumes nothing.
use Rattle.std.specs.Prelude.{ℕ, zero, suc, ◌+◌, ◌*◌, ◌/◌, ◌%◌, ◌^◌, cond, List, [], ◌∷◌, ◌++◌, eqb, ltb, leb, length, get_or, position, Option, Some, None, option_and_then}
use Rattle.io.specs.Digits.{hex_digit_ascii}

-- `0` to `9` and `A` to `F`
abbrev pub hex_bytes : List ℕ
hex_bytes = 48 ∷ 49 ∷ 50 ∷ 51 ∷ 52 ∷ 53 ∷ 54 ∷ 55 ∷ 56 ∷ 57 ∷ 65 ∷ 66 ∷ 67 ∷ 68 ∷ 69 ∷ 70 ∷ []

-- the digit of n modulo 16
abbrev pub digit_of : ℕ → ℕ
digit_of n = get_or hex_bytes (n % 16) 0

-- the value of a digit: the index of the first byte that is it
abbrev pub value_of : ℕ → Option ℕ
value_of b = position (λ x. eqb x b) hex_bytes

-- the last k hexadecimal digits of n
abbrev pub hex_digits : ℕ → ℕ → List ℕ
hex_digits zero n = []
hex_digits (suc k) n = digit_of (n / 16 ^ k) ∷ hex_digits k n

-- the decimal digits of n, with no zero in front, where k are enough
abbrev pub decimal_in : ℕ → ℕ → List ℕ
decimal_in zero n = []
decimal_in (suc k) n = cond (ltb n 10) (hex_digit_ascii n ∷ []) (decimal_in k (n / 10) ++ (hex_digit_ascii (n % 10) ∷ []))

-- the same for a number of 64 bits
unfoldable pub decimal_of : ℕ → List ℕ
decimal_of n = decimal_in 20 n

-- the number that digits are, behind those that are number n
abbrev pub number_on : ℕ → List ℕ → Option ℕ
number_on n [] = Some n
number_on n (b ∷ bs) = option_and_then (λ d. number_on (n * 16 + d) bs) (value_of b)

-- the number that at most eight digits are
unfoldable pub parse_of : List ℕ → Option ℕ
parse_of ds = cond (leb (length ds) 8) (number_on 0 ds) None

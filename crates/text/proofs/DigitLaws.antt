-- Laws of specs/Digits.antt.
-- Assumes nothing.
use Rattle.std.proofs.Common.{ℕ, zero, suc, ◌+◌, ◌*◌, ◌-◌, ◌/◌, ◌^◌, ◌<◌, ◌≤◌, ◌≡◌, refl, ap, ◌∙◌, List, length, get_or, take, drop, Some, None, arith}
use native.Mathlib.Nat.{one-le-pow, div-lt_iff_lt-mul, le-div_iff_mul-le, zero-add, suc-add, mod-eq_of_lt, pow-suc, pow-le-pow_right, lt_of_lt_of_le}
use native.Mathlib.Numerals.{add-one, sub-one}
use native.Mathlib.Decide.{dec_le}
use lib.Dec.{lit<}
use Rattle.std.specs.Option.{option_and_then}
use lib.ListN.{drop_of_length-le}
use lib.Seq.{drop-cons, take_all}
use borrow.Author.Tests.{lt-ltb, le-ltb, le-leb, lt-leb}
use Rattle.io.specs.Digits.{last_digits, IsDigitCount}
use Rattle.text.specs.Digits.{hex_digits, decimal_in, decimal_of, value_of, number_on, parse_of}

-- k digits are k bytes, and the last k are what dropping the others leaves
hex_digits-length : (k n : ℕ) → length (hex_digits k n) ≡ k
hex_digits-length zero n = refl
hex_digits-length (suc k) n = ap suc (hex_digits-length k n)

hex_digits-drop : (d k n : ℕ) → drop d (hex_digits (d + k) n) ≡ hex_digits k n
hex_digits-drop zero k n = rw zero-add
hex_digits-drop (suc d) k n = rw suc-add (hex_digits-drop d k n)

-- the last k of eight digits
pub hex_digits-last : (k n : ℕ) → k ≤ 8 → take (8 - (8 - k)) (drop (8 - k) (hex_digits 8 n)) ≡ hex_digits k n
hex_digits-last k n h =
    let all : 8 ≡ 8 - k + k = omega arith in
    ap (λ (m : ℕ). take (8 - (8 - k)) (drop (8 - k) (hex_digits m n))) all
    ∙ ap (take (8 - (8 - k))) (hex_digits-drop (8 - k) k n)
    ∙ take_all (8 - (8 - k)) (hex_digits k n) (omega (arith, hex_digits-length k n))

-- the fewest digits that hold a number are its decimal digits, where f are enough
decimal_in-fewest : (f k n : ℕ) → k ≤ f → IsDigitCount 10 1 n k → last_digits 10 k n ≡ decimal_in f n
decimal_in-fewest f zero n h few = absurd (omega (arith, few.0))
decimal_in-fewest zero (suc k) n h few = absurd (omega arith)
decimal_in-fewest (suc f) (suc zero) n h few =
    let small : n < 10 = few.1 in
    rw (mod-eq_of_lt small, lt-ltb n 10 small)
decimal_in-fewest (suc f) (suc (suc k)) n h few =
    let large : 10 ^ k * 10 ≤ n = rw (sub-one, pow-suc) at (few.2 (omega arith)) in
    let ten : 10 ≤ n = omega (arith, one-le-pow k 10 (lit< tt)) in
    let below : n / 10 < 10 ^ suc k = (div-lt_iff_lt-mul (lit< tt)).1 (rw pow-suc at few.1) in
    let least : 10 ^ k ≤ n / 10 = (le-div_iff_mul-le (lit< tt)).1 large in
    rw (le-ltb n 10 ten, decimal_in-fewest f (suc k) (n / 10) (omega arith) (omega arith, below, λ more. rw sub-one least))

-- a number of 64 bits has at most twenty
fewest_below : (k n : ℕ) → n < 2 ^ 64 → IsDigitCount 10 1 n k → k ≤ 20
fewest_below k n h few = by_order (dec_le k 20)
  where
    by_order : Dec (k ≤ 20) → k ≤ 20
    by_order (yes small) = small
    by_order (no large) =
        let twenty : 20 ≤ k - 1 = omega arith in
        let power : 10 ^ 20 ≤ 10 ^ (k - 1) = pow-le-pow_right (lit< tt) twenty in
        absurd (omega (arith, few.2 (omega arith)))

-- so `decimal_of` has them all
pub decimal_of-fewest : (k n : ℕ) → n < 2 ^ 64 → IsDigitCount 10 1 n k → last_digits 10 k n ≡ decimal_of n
unfolding decimal_of
decimal_of-fewest k n h few = decimal_in-fewest 20 k n (fewest_below k n h few) few

-- i digits are a number below 16 to the power i, and one more fits
pub fits_more : (n i : ℕ) → n < 16 ^ i → i < 8 → n < 16 ^ 7
fits_more n i w few = let seven : i ≤ 7 = omega arith in lt_of_lt_of_le w (pow-le-pow_right (lit< tt) seven)

pub below_more : (n i d : ℕ) → n < 16 ^ i → d < 16 → n * 16 + d < 16 ^ (i + 1)
below_more n i d w small = rw (add-one i, pow-suc) (omega arith)

-- too many bytes
pub parse_long : (ds : List ℕ) → 8 < length ds → None ≡ parse_of ds
unfolding parse_of
parse_long ds h = rw (lt-leb (length ds) 8 h)

module _ (ds : List ℕ) (few : length ds ≤ 8) (n i : ℕ) where
  parse_short : parse_of ds ≡ number_on 0 ds
  unfolding parse_of
  parse_short = rw (le-leb (length ds) 8 few)

  -- at a byte
  step : i < length ds → number_on n (drop i ds) ≡ option_and_then (λ d. number_on (n * 16 + d) (drop (i + 1) ds)) (value_of (get_or ds i 0))
  step w = ap (number_on n) (drop-cons ds i 0 w) ∙ rw (add-one i)

  -- one that is no digit
  pub parse_bad : i < length ds → None ≡ value_of (get_or ds i 0) → number_on n (drop i ds) ≡ number_on 0 ds → None ≡ parse_of ds
  parse_bad w e so = rw (parse_short, ← so, step w, ← e)

  -- a digit
  pub parse_more : (d : ℕ) → i < length ds → Some d ≡ value_of (get_or ds i 0) → number_on n (drop i ds) ≡ number_on 0 ds → number_on (n * 16 + d) (drop (i + 1) ds) ≡ number_on 0 ds
  parse_more d w e so = rw (← so, step w, ← e)

  -- the end
  pub parse_all : length ds ≤ i → number_on n (drop i ds) ≡ number_on 0 ds → Some n ≡ parse_of ds
  parse_all w so = rw (parse_short, ← so, drop_of_length-le ds {i = i} w)

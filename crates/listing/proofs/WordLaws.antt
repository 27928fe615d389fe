-- Laws of specs/Words.antt: how many words there are, what each is, and words of a listing from some word on.
-- Assumes nothing.
use Prim.Native.Nat.{ℕ, zero, suc, ◌+◌, ◌*◌, ◌<◌, min}
use mathlib.Core.Path.{◌≡◌, refl, sym, ap, ◌∙◌, fun_ext}
use mathlib.Core.List.{List, ◌∷◌, ◌++◌}
use native.Mathlib.Nat.{add-zero, zero-add}
use native.Mathlib.Omega.{arith}
use lib.ListN.{length, get_or, take, drop}
use lib.Seq.{get_or-drop}
use Rattle.general.specs.Number.{number}
use Rattle.listing.specs.Words.{word_at, words_from}

-- ---- words

pub length-words : (l : List ℕ) (i n : ℕ) → length (words_from l i n) ≡ n
unfolding words_from
length-words l i zero = refl
length-words l i (suc n) = ap suc (length-words l (suc i) n)

pub words_at : (l : List ℕ) (i n k : ℕ) → k < n → get_or (words_from l i n) k 0 ≡ word_at l (i + k)
unfolding words_from
words_at l i zero k h = absurd (omega (arith, h))
words_at l i (suc n) zero h = ap (λ (j : ℕ). word_at l j) (sym (add-zero i))
words_at l i (suc n) (suc k) h = words_at l (suc i) n k (omega (arith, h)) ∙ ap (λ (j : ℕ). word_at l j) (omega arith)

-- a word by its bytes
pub word_sum : (l : List ℕ) (i : ℕ) → word_at l i ≡ get_or l (4 * i) 0 + 256 * get_or l (4 * i + 1) 0 + 65536 * get_or l (4 * i + 2) 0 + 16777216 * get_or l (4 * i + 3) 0
unfolding number
word_sum l i = rw add-zero (omega arith)

-- ---- some words after others

-- some words, and those behind them
pub words_split : (l : List ℕ) (i k m : ℕ) → words_from l i (k + m) ≡ words_from l i k ++ words_from l (i + k) m
unfolding words_from
words_split l i zero m = ap (λ (n : ℕ). words_from l i n) (zero-add m) ∙ ap (λ (j : ℕ). words_from l j m) (sym (add-zero i))
words_split l i (suc k) m =
    ap (λ (n : ℕ). words_from l i n) more ∙
    ap (λ (ws : List ℕ). word_at l i ∷ ws) (words_split l (suc i) k m ∙ ap (λ (j : ℕ). words_from l (suc i) k ++ words_from l j m) next)
  where
    more : suc k + m ≡ suc (k + m)
    more = omega arith

    next : suc i + k ≡ i + suc k
    next = omega arith

-- the words of what is left of a listing after k of them
pub words_left : (l : List ℕ) (k i n : ℕ) → words_from (drop (4 * k) l) i n ≡ words_from l (k + i) n
unfolding words_from
words_left l k i zero = refl
words_left l k i (suc n) = λ j. word j ∷ (words_left l k (suc i) n ∙ ap (λ (j : ℕ). words_from l j n) next) j
  where
    next : k + suc i ≡ suc (k + i)
    next = omega arith

    word : word_at (drop (4 * k) l) i ≡ word_at l (k + i)
    word = ap (λ (b : ℕ → ℕ). number b 4) (fun_ext (λ m. get_or-drop (4 * k) l (4 * i + m) 0 ∙ ap (λ (j : ℕ). get_or l j 0) (omega arith)))

-- as many words as are allowed
pub take_words : (l : List ℕ) (i k n r : ℕ) → r ≡ min k n → take k (words_from l i n) ≡ words_from l i r
unfolding words_from
take_words l i zero n r e = ap (λ (m : ℕ). words_from l i m) (sym none)
  where
    none : r ≡ 0
    none = omega (arith, e)
take_words l i (suc k) zero r e = ap (λ (m : ℕ). words_from l i m) (sym none)
  where
    none : r ≡ 0
    none = omega (arith, e)
take_words l i (suc k) (suc n) zero e = absurd (omega (arith, e))
take_words l i (suc k) (suc n) (suc r) e = ap (λ (ws : List ℕ). word_at l i ∷ ws) (take_words l (suc i) k n r (omega (arith, e)))

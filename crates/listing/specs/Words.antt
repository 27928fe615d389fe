-- The words of a listing, which is a string of bytes. Renders request 5. To believe: four bytes are a word, the lowest first.
-- Assumes nothing.
use Rattle.std.specs.Prelude.{ℕ, zero, suc, ◌+◌, ◌*◌, ◌/◌, List, [], ◌∷◌, length, get_or}
use Rattle.general.specs.Number.{number}

-- word i: bytes 4 * i to 4 * i + 3 as one number
abbrev pub word_at : List ℕ → ℕ → ℕ
word_at l i = number (λ (k : ℕ). get_or l (4 * i + k) 0) 4

-- so many words, from word i on
unfoldable pub words_from : List ℕ → ℕ → ℕ → List ℕ
words_from l i zero = []
words_from l i (suc n) = word_at l i ∷ words_from l (suc i) n

-- all whole words
abbrev pub words_in : List ℕ → List ℕ
words_in l = words_from l 0 (length l / 4)

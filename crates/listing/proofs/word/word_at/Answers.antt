-- `listing::word::word_at` meets its contract: the library's number of four bytes is the definition's.
-- Assumes nothing.
use Rattle.std.proofs.Common.{◌≡◌, ℕ, ◌+◌, ◌*◌, ◌<◌, List, get_or, ap, ◌∙◌, arith}
use native.Mathlib.Nat.{add-zero}
use lib.Seq.{get_or-take, get_or-drop}
use Rattle.general.specs.Number.{number}
use Rattle.listing.proofs.word.word_at.Goals as goal

pub returns : goal.returns
unfolding number
returns c =
    let bytes = c.args.listing.now in
    let at : ℕ = 4 * c.args.i in
    let chunk = rw c.unwrap.ensures at c.first_chunk.ensures.cases in
    let byte : (k : ℕ) → k < 4 → get_or c.unwrap.result.now k 0 ≡ get_or bytes (at + k) 0 = λ k w.
    ap (λ (l : List ℕ). get_or l k 0) chunk.same ∙ get_or-take 4 _ k 0 w ∙ get_or-take _ _ k 0 (omega (arith, c.requires)) ∙ get_or-drop at bytes k 0 in
    c.from_le_bytes.ensures ∙ rw (byte 0 (omega arith), byte 1 (omega arith), byte 2 (omega arith), byte 3 (omega arith), add-zero) (omega arith)

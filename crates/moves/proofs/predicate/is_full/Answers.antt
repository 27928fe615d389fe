-- `moves::predicate::is_full` meets its contract: the eights that were tested have all bits that elements go by.
-- Assumes nothing.
use Prim.Native.Nat.{ℕ, ◌*◌, ◌/◌, ◌<◌}
use mathlib.Core.Path.{◌≡◌, ◌∙◌, subst}
use native.Mathlib.Nat.{zero-add}
use native.Mathlib.Omega.{arith}
use lib.Bits.{bit_and}
use lib.ListN.{length}
use borrow.Author.Tests.{tests}
use Rattle.std.specs.List.{AllWithin, range_with_len}
use Rattle.std.proofs.Common.{rules}
use Rattle.std.proofs.lemmas.Iterator.{cases_from_all, YieldsList-from_range}
use Rattle.std.proofs.lemmas.List.FromFn.{length-range_with_len, get_or-range_with_len}
use Rattle.moves.specs.Eights.{eight_at}
use Rattle.moves.proofs.EightLaws.{eights_active}
use Rattle.moves.proofs.predicate.is_full.Goals as goal

-- what holds of each number of a range
in_range : (P : ℕ → Type 0) (n : ℕ) → AllWithin P (range_with_len 0 n) 0 (length (range_with_len 0 n)) → (j : ℕ) → j < n → P j
in_range P n h j w = subst P (get_or-range_with_len 0 n j 0 w ∙ zero-add j) (h j 0 (omega arith) (rw length-range_with_len w))

pub returns-then-n-gt0 : goal.returns-then-n-gt0
returns-then-n-gt0 c e =
    let a = c.args in
    let n = length a.p.now / 8 in
    let bits = c.element_bits-bits.result in
    let has : ℕ → Type 0 = λ j. bit_and (eight_at a.p.now (j * 8)) bits ≡ bits in
    let all : AllWithin has (range_with_len 0 n) 0 (length (range_with_len 0 n)) = rw e at (cases_from_all _ _ _ has (λ j. Unit {0}) c.all.ensures.ran (YieldsList-from_range 0 n n (cc) (omega arith)) (λ x q k. search (rules, tests)) (λ x q k. tt)) in
    eights_active a.p.now (λ i. (c.type_inv.p i).fits) a.size (c.requires (omega arith)) (λ j w. rw c.element_bits-bits.ensures at (in_range has n all j w))

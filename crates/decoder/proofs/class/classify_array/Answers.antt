-- `decoder::class::classify_array` meets its contract: what the tests leave known finds the row or excludes every row.
-- Assumes nothing.
use native.Mathlib.Omega.{arith}
use mathlib.Core.Path.{refl}
use mathlib.Core.List.{[], ◌∷◌}
use Rattle.encoding.specs.Table.{table}
use Rattle.encoding.specs.declared.operation.RegisterCount.TheVariants.{Two, Four}
use Rattle.encoding.proofs.TableLaws.{is, isnt}
use Rattle.encoding.proofs.CodecLaws.{undecodable_as}
use Rattle.decoder.proofs.DecoderLaws.{array_too_low, array_classifies}
use Rattle.decoder.proofs.class.classify_array.Goals as goal

pub returns-then-word-ne1 : goal.returns-then-word-ne1
unfolding table
returns-then-word-ne1 c = undecodable_as 3 (isnt 11 2 1 ∷ is 16 6 6 ∷ is 24 8 0xC0 ∷ []) _ _ refl (omega arith) (omega arith) (omega arith)

pub returns-then-word-ne0 : goal.returns-then-word-ne0
unfolding table
returns-then-word-ne0 c = undecodable_as 3 (is 15 1 1 ∷ is 16 6 6 ∷ is 24 8 0xC0 ∷ []) _ _ refl (omega arith) (omega arith) (omega arith)

pub returns-then-word-ne0-2 : goal.returns-then-word-ne0-2
unfolding table
returns-then-word-ne0-2 c = undecodable_as 3 (is 8 1 1 ∷ is 16 6 6 ∷ is 24 8 0xC0 ∷ []) _ _ refl (omega arith) (omega arith) (omega arith)

pub returns-then-level-array_level : goal.returns-then-level-array_level
returns-then-level-array_level c = array_too_low _ _ _ (omega arith, refl) (rw (c.array_level.ensures, c.zeroes_in.ensures) at c.if-level-array_level.true) (omega arith)

pub returns-then-word-ne0-3 : goal.returns-then-word-ne0-3
unfolding table
returns-then-word-ne0-3 c = undecodable_as 3 (isnt 0 1 0 ∷ is 10 1 0 ∷ is 16 6 6 ∷ is 24 8 0xC0 ∷ []) _ _ refl (omega arith) (omega arith) (omega arith)

pub returns-then-word-eq0 : goal.returns-then-word-eq0
returns-then-word-eq0 c =
    array_classifies _ Two _ _ (omega arith, refl) (omega arith) (rw (c.array_level.ensures, c.zeroes_in.ensures) at c.if-level-array_level.false) (omega arith)

pub returns-then-word-ne0-4 : goal.returns-then-word-ne0-4
unfolding table
returns-then-word-ne0-4 c = undecodable_as 3 (isnt 0 2 0 ∷ is 10 1 1 ∷ is 16 6 6 ∷ is 24 8 0xC0 ∷ []) _ _ refl (omega arith) (omega arith) (omega arith)

pub returns : goal.returns
returns c =
    array_classifies _ Four _ _ (omega arith, refl) (omega arith) (rw (c.array_level.ensures, c.zeroes_in.ensures) at c.if-level-array_level.false) (omega arith)

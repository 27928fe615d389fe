-- `decoder::class::classify_from` meets its contract: what the tests leave known finds the row of the size or excludes every row.
-- Assumes nothing.
use native.Mathlib.Omega.{arith}
use mathlib.Core.Path.{refl}
use mathlib.Core.List.{[], ◌∷◌}
use Rattle.encoding.specs.Table.{table}
use Rattle.encoding.proofs.TableLaws.{is, isnt}
use Rattle.encoding.proofs.CodecLaws.{undecodable_as}
use Rattle.decoder.proofs.DecoderLaws.{from_tile_classifies, take_classifies}
use Rattle.decoder.proofs.class.classify_from.Goals as goal

pub returns-then-word-eq0 : goal.returns-then-word-eq0
returns-then-word-eq0 c = from_tile_classifies c.args.size _ (omega arith) _ c.requires.0 (omega arith)

pub returns-then-level-lt3 : goal.returns-then-level-lt3
unfolding table
returns-then-level-lt3 c = undecodable_as 2 (isnt 9 1 0 ∷ is 17 5 1 ∷ is 24 8 0xC0 ∷ []) _ _ refl (omega arith) (omega arith) (omega arith)

pub returns-then-word-ne0 : goal.returns-then-word-ne0
unfolding table
returns-then-word-ne0 c = undecodable_as 3 (isnt 10 3 0 ∷ isnt 9 1 0 ∷ is 17 5 1 ∷ is 24 8 0xC0 ∷ []) _ _ refl (omega arith) (omega arith) (omega arith)

pub returns : goal.returns
returns c = take_classifies c.args.size _ _ (omega arith) (omega arith) (omega arith)

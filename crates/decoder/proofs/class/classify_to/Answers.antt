-- `decoder::class::classify_to` meets its contract: what bit 4 leaves known finds the row of the size or excludes every row.
-- Assumes nothing.
use native.Mathlib.Omega.{arith}
use mathlib.Core.Path.{refl}
use mathlib.Core.List.{[], ◌∷◌}
use Rattle.encoding.specs.Table.{table}
use Rattle.encoding.proofs.TableLaws.{is}
use Rattle.encoding.proofs.CodecLaws.{undecodable_as}
use Rattle.decoder.proofs.DecoderLaws.{to_tile_classifies}
use Rattle.decoder.proofs.class.classify_to.Goals as goal

pub returns-then-word-ne0 : goal.returns-then-word-ne0
unfolding table
returns-then-word-ne0 c level l h = undecodable_as 3 (is 4 1 1 ∷ is 17 5 0 ∷ is 24 8 0xC0 ∷ []) _ level refl (omega arith) h h

pub returns : goal.returns
returns c = to_tile_classifies c.args.size _ (omega arith)

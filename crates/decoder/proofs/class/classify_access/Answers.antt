-- `decoder::class::classify_access` meets its contract: what the tests leave known finds the row of the size or excludes every row.
-- Assumes nothing.
use native.Mathlib.Omega.{arith}
use Rattle.std.specs.Prelude.{◌≢◌}
use mathlib.Core.Path.{◌≡◌, refl}
use mathlib.Core.List.{[], ◌∷◌}
use Rattle.encoding.specs.Table.{table}
use Rattle.encoding.specs.Word.{bits_at}
use Rattle.encoding.proofs.TableLaws.{is, isnt}
use Rattle.encoding.proofs.CodecLaws.{undecodable_as}
use Rattle.decoder.proofs.DecoderLaws.{access_classifies}
use Rattle.decoder.proofs.class.classify_access.Goals as goal

pub returns-then-level-lt1 : goal.returns-then-level-lt1
unfolding table
returns-then-level-lt1 c = undecodable_as 0 [] _ _ refl tt (omega arith) (omega arith)

pub returns-then-word-ne112 : goal.returns-then-word-ne112
unfolding table
returns-then-word-ne112 c = undecodable_as 3 (isnt 25 7 0x70 ∷ isnt 24 8 0xC0 ∷ []) _ _ refl ((tt, c.requires), c.if-word-ne112.true) (omega arith) (omega arith)

pub returns-then-word-ne0 : goal.returns-then-word-ne0
unfolding table
returns-then-word-ne0 c = undecodable_as 3 (is 4 1 1 ∷ is 25 7 0x70 ∷ []) _ _ refl (omega arith) (omega arith) (omega arith)

pub returns-in_err-size_in : goal.returns-in_err-size_in
unfolding table
returns-in_err-size_in c =
    let w = c.args.word in
    let wide : (bits_at 24 1 w ≡ 1) × (bits_at 22 2 w ≢ 3) = c.in_err-size_in.ensures.none refl in
    rw c.from_residual.ensures (undecodable_as 3 (isnt 22 2 3 ∷ is 24 1 1 ∷ is 25 7 0x70 ∷ []) _ _ refl (omega arith) (omega arith) (omega arith))

pub returns : goal.returns
returns c =
    let w = c.args.word in
    let size = c.in_ok-size_in.ensures.some in
    let seven : bits_at 25 7 w ≡ 0x70 = omega arith in
    let four : bits_at 4 1 w ≡ 0 = omega arith in
    access_classifies (bits_at 21 1 w) c.in_ok-size_in.field-0 w _ (((((tt, seven), four), size.0), size.1), refl) (omega arith) (omega arith)

-- `moves::run::merge_byte` meets its contract: all bits, some, or none.
-- Assumes nothing.
use mathlib.Core.Path.{sym, ap, ◌∙◌}
use Prim.Native.Nat.{ℕ}
use Rattle.general.proofs.ScatterLaws.{scatter_tests}
use Rattle.tiles.specs.Element.{bytes_of}
use Rattle.moves.specs.Paired.{set_in}
use Rattle.moves.proofs.MaskLaws.{bits_set, among_one}
use Rattle.moves.proofs.RunLaws.{none_written}
use Rattle.moves.proofs.GroupLaws.{set_in-zero}
use Rattle.moves.proofs.run.merge_byte.Goals as goal

pub returns-then-b-one : goal.returns-then-b-one
returns-then-b-one c =
    let a = c.args in
    let m = bytes_of a.bits.size in
    c.copy_vector.ensures
    ∙ scatter_tests _ _ _ _ 8 _ (λ i w. sym (ap (λ (x : ℕ). set_in x m i) (c.if-b-one.true ∙ c.one.ensures) ∙ bits_set a.bits.size i w))

pub returns-then-b-ne0 : goal.returns-then-b-ne0
returns-then-b-ne0 c = c.merge_mixed.ensures ∙ scatter_tests _ _ _ _ 8 _ (among_one c.args.b (bytes_of c.args.bits.size))

pub returns-else-b-ne0 : goal.returns-else-b-ne0
returns-else-b-ne0 c = none_written _ _ _ 8 _ (λ i w. set_in-zero _ (bytes_of c.args.bits.size) i c.if-b-ne0.false)

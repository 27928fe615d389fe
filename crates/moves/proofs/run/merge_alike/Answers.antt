-- `moves::run::merge_alike` meets its contract: no bit, all bits, or some; nothing is merged where it says no.
-- Assumes nothing.
use Rattle.moves.proofs.EightLaws.{eight_has, eight_lacks}
use Rattle.moves.proofs.RunLaws.{merged_clear, merged_full}
use Rattle.moves.proofs.run.merge_alike.Goals as goal

pub returns-then-v-eq0 : goal.returns-then-v-eq0
returns-then-v-eq0 c =
    let a = c.args in
    merged_clear a.p.now a.bits.size a.src.now a.first _ a.bits.few (eight_lacks a.p.now (λ i. (c.type_inv.p i).fits) a.bits.size a.first (rw (c.eight.ensures, a.bits.all) at c.if-v-eq0.true))

pub merge_eight-requires-clause-mixed : goal.merge_eight-requires-clause-mixed
merge_eight-requires-clause-mixed c = rw (c.eight.ensures, c.args.bits.all) at (c.are_mixed.ensures c.if-are_mixed.true)

pub returns-then-v-bits : goal.returns-then-v-bits
returns-then-v-bits c =
    let a = c.args in
    merged_full a.p.now a.bits.size a.src.now a.first _ a.bits.few (eight_has a.p.now (λ i. (c.type_inv.p i).fits) a.bits.size a.first (rw (c.eight.ensures, a.bits.all) at c.if-v-bits.true)) c.copy_vector.ensures

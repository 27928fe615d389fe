-- `access::predicate::first_active` meets its contract: no byte that was passed is active.
-- Assumes nothing.
use Rattle.std.proofs.Common.{◌+◌, ◌*◌, ◌/◌, ◌∙◌, arith}
use Rattle.tiles.specs.Element.{bytes_of}
use Rattle.tiles.specs.Predicate.{active}
use Rattle.access.proofs.PredicateLaws.{zero_inactive, passed_more, same_element, element_ends, bit_active, bit_inactive}
use Rattle.access.proofs.predicate.first_active.Goals as goal

pub loop-k-preserved-then-b-eq0 : goal.loop-k-preserved-then-b-eq0
loop-k-preserved-then-b-eq0 c =
    let l = c.loop-k in
    let a = c.args in
    (omega (arith, l.invariant.0), λ j w v d. passed_more (active a.governing.now 0 (bytes_of a.size)) a.from a.to l.k l.invariant.1 (l.k / 8 * 8 + 8) (λ i g h. zero_inactive a.governing.now a.size i l.k (omega arith) (rw (← c.element_start-i.ensures.0) c.if-b-eq0.true)) j w v d)

pub returns-then-b-i-eq1 : goal.returns-then-b-i-eq1
returns-then-b-i-eq1 c =
    let l = c.loop-k in
    let a = c.args in
    record { start = l.invariant.0; below = omega arith; holds = bit_active a.governing.now a.size l.k c.element_start-i.ensures.0 c.if-b-i-eq1.true; passed = λ k w v. l.invariant.1 k w v (omega arith) }

pub loop-k-preserved : goal.loop-k-preserved
loop-k-preserved c =
    let l = c.loop-k in
    let a = c.args in
    let start = c.element_start-i.ensures.0 in
    rw (start, c.bytes.ensures.0)
    (omega (arith, l.invariant.0, element_ends a.size l.k), λ j w v d. passed_more (active a.governing.now 0 (bytes_of a.size)) a.from a.to l.k l.invariant.1 _ (λ i g h. bit_inactive a.governing.now a.size i (start ∙ same_element a.size i l.k g h) c.if-b-i-eq1.false) j w v d)

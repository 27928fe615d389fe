-- `access::load_store::access` meets its contract: where it may go, the whole vector or a window of it is moved.
-- Assumes nothing.
use Rattle.std.proofs.Common.{Ok, length, refl, arith}
use Rattle.std.proofs.lemmas.Result.{err_from_is_err_and}
use Rattle.settings.proofs.SettingsLaws.{vector_valid}
use Rattle.tiles.specs.declared.element.ElementSize.TheVariants.{Bits8}
use Rattle.tiles.proofs.LengthLaws.{whole_elements}
use Rattle.access.specs.Promise.{Reaches}
use Rattle.access.proofs.TransferLaws.{Primed, part_serves, store_paired, load_paired, stores_whole, loads_whole, stores_parts, loads_parts, short, window_fits, access_refused}
use Rattle.access.proofs.load_store.access.Goals.{In_ok-reach, After-slice_span-slice}
use Rattle.access.proofs.load_store.access.Goals as goal

-- what every way goes by
primed : (c : After-slice_span-slice) → Primed c.args.settings c.args.x.now c.args.p.now c.args.za.now c.args.memory.now c.args.o c.slice_span-slice.result c.governing_bytes-governing.result.now
primed c = record { sized = c.requires.0; range = c.requires.1; slice_is = c.slice_span-slice.ensures; part_is = c.governing_bytes-governing.ensures }

pub find_reach-requires : goal.find_reach-requires
find_reach-requires c =
    let a = c.args in
    let h = c.requires in
    let w = whole_elements Bits8 _ (vector_valid a.settings h.0.vectors) in
    (omega (arith, h.0.x, h.1.base), omega (arith, h.0.x, h.1.addend), omega (arith, w.slices), w.longest, (part_serves a.settings a.p.now a.o h.0.vectors h.0.p h.1 c.governing_bytes-governing.ensures).bits, h.0.memory)

pub returns-in_err-reach : goal.returns-in_err-reach
returns-in_err-reach c z =
    let a = c.args in
    let h = c.requires in
    let refusal = err_from_is_err_and c.from_residual.result c.from_residual.ensures.1 in
    rw (refusal.1, refusal.2) (access_refused a.settings a.x.now z a.p.now a.za.now a.memory.now a.o a.stores _
    (rw c.in_err-reach.was at (c.find_reach.ensures a.p.now a.o (part_serves a.settings a.p.now a.o h.0.vectors h.0.p h.1 c.governing_bytes-governing.ensures) (refl, refl, refl))))

-- where it may go: the part of P that is lent governs, so that the answer of `find_reach` is that of this load or store
goes : (c : In_ok-reach) → let a = c.args in Reaches a.settings a.x.now a.p.now (length a.memory.now) a.o (Ok c.in_ok-reach.reach)
goes c =
    let a = c.args in
    let h = c.requires in
    rw c.in_ok-reach.was at (c.find_reach.ensures a.p.now a.o (part_serves a.settings a.p.now a.o h.0.vectors h.0.p h.1 c.governing_bytes-governing.ensures) (refl, refl, refl))

pub merge-requires : goal.merge-requires
merge-requires c =
    let reach = rw c.in-Whole.is at (goes (goal.at.merge-requires c).In_ok-reach) in
    store_paired (primed (goal.at.merge-requires c).After-slice_span-slice) _ _ reach.1 c.run_from-vector.ensures

pub replace-requires : goal.replace-requires
replace-requires c =
    let reach = rw c.in-Whole.is at (goes (goal.at.replace-requires c).In_ok-reach) in
    load_paired (primed (goal.at.replace-requires c).After-slice_span-slice) _ _ reach.1 c.run_from-vector.ensures

pub store_parts-requires : goal.store_parts-requires
store_parts-requires c =
    let reach = rw c.in-Parts.is at (goes (goal.at.store_parts-requires c).In_ok-reach) in
    let r = primed (goal.at.store_parts-requires c).After-slice_span-slice in
    let g = store_paired r 0 _ (short r) c.run_from-run.ensures in
    (g.0, g.1, window_fits r _ reach)

pub load_parts-requires : goal.load_parts-requires
load_parts-requires c =
    let reach = rw c.in-Parts.is at (goes (goal.at.load_parts-requires c).In_ok-reach) in
    let r = primed (goal.at.load_parts-requires c).After-slice_span-slice in
    let g = load_paired r 0 _ (short r) c.run_from-run.ensures in
    (g.0, g.1, window_fits r _ reach)

pub returns-then-stores : goal.returns-then-stores
returns-then-stores c z =
    let reach = rw c.in-Whole.is at (goes (goal.at.returns-then-stores c).In_ok-reach) in
    rw c.if-stores.true (stores_whole (primed (goal.at.returns-then-stores c).After-slice_span-slice) z _ reach c.run_from-vector.ensures c.merge.ensures)

pub returns-else-stores : goal.returns-else-stores
returns-else-stores c z =
    let reach = rw c.in-Whole.is at (goes (goal.at.returns-else-stores c).In_ok-reach) in
    rw c.if-stores.false (loads_whole (primed (goal.at.returns-else-stores c).After-slice_span-slice) z _ reach c.run_from-vector.ensures c.replace.ensures)

pub returns-then-stores-2 : goal.returns-then-stores-2
returns-then-stores-2 c z =
    let reach = rw c.in-Parts.is at (goes (goal.at.returns-then-stores-2 c).In_ok-reach) in
    rw c.if-stores-2.true (stores_parts (primed (goal.at.returns-then-stores-2 c).After-slice_span-slice) z _ reach c.run_from-run.ensures c.store_parts.ensures)

pub returns-else-stores-2 : goal.returns-else-stores-2
returns-else-stores-2 c z =
    let reach = rw c.in-Parts.is at (goes (goal.at.returns-else-stores-2 c).In_ok-reach) in
    rw c.if-stores-2.false (loads_parts (primed (goal.at.returns-else-stores-2 c).After-slice_span-slice) z _ reach c.run_from-run.ensures c.load_parts.ensures)

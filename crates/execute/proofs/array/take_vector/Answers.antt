-- `execute::array::take_vector` meets its contract: a vector is bytes one after another in both buffers.
-- Assumes nothing.
use native.Mathlib.Omega.{arith}
use Rattle.settings.proofs.SettingsLaws.{vector_length_small, vector_valid}
use Rattle.execute.proofs.MoveLaws.{vector_paired, vector_apart, vector_copied, vector_taken}
use Rattle.execute.proofs.array.take_vector.Goals as goal

pub vector_span-from-requires : goal.vector_span-from-requires
vector_span-from-requires c =
    let e = c.requires in
    (e.0.vectors, omega (arith, e.2, vector_length_small _ (vector_valid c.args.settings e.0.vectors)))

pub take-requires : goal.take-requires
take-requires c =
    let e = c.requires in
    let a = c.args in
    (vector_paired a.settings a.z.now a.za.now e.0 a.register a.vector e.1 e.2 c.vector_span-to.ensures c.vector_span-from.ensures, vector_apart a.settings a.z.now a.za.now e.0 a.register a.vector e.1 e.2 c.vector_span-to.ensures c.vector_span-from.ensures)

pub copy-requires : goal.copy-requires
copy-requires c =
    let e = c.requires in
    let a = c.args in
    vector_paired a.settings a.z.now a.za.now e.0 a.register a.vector e.1 e.2 c.vector_span-to.ensures c.vector_span-from.ensures

pub returns-then-zeroes : goal.returns-then-zeroes
returns-then-zeroes c =
    let e = c.requires in
    let a = c.args in
    rw c.if-zeroes.true (vector_taken a.settings a.z.now a.za.now e.0 a.register a.vector e.1 e.2 c.vector_span-to.ensures c.vector_span-from.ensures c.take.ensures.dst_after c.take.ensures.src_after)

pub returns-else-zeroes : goal.returns-else-zeroes
returns-else-zeroes c =
    let e = c.requires in
    let a = c.args in
    rw c.if-zeroes.false (vector_copied a.settings a.z.now a.za.now e.0 a.register a.vector e.1 e.2 c.vector_span-to.ensures c.vector_span-from.ensures c.copy.ensures)

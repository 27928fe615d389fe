-- `moves::copy` meets its contract: elements that touch are a run of bytes.
-- Assumes nothing.
use Rattle.tiles.specs.Element.{bytes_of}
use Rattle.general.specs.Scatter.{all}
use Rattle.moves.proofs.SpanLaws.{runs_steps, run_written}
use Rattle.moves.proofs.copy.Goals as goal

pub returns-then-are_runs : goal.returns-then-are_runs
returns-then-are_runs c =
    let runs = runs_steps c.args.to c.args.from (bytes_of c.args.size) c.are_runs.ensures c.if-are_runs.true in
    let a = c.args in
    run_written a.to a.from _ a.src.now runs.0 runs.1 all (λ k v. v) _ _ (rw c.bytes.ensures.0 at c.copy_vector.ensures)

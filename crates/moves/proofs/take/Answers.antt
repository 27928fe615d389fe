-- `moves::take` meets its contract: elements that touch are a run of bytes, which is copied and then cleared.
-- Assumes nothing.
use mathlib.Core.Path.{sym, ap, ◌∙◌}
use Prim.Native.Nat.{ℕ, ◌*◌}
use Rattle.general.specs.Scatter.{scatter, all, zeros}
use Rattle.tiles.specs.Element.{bytes_of}
use Rattle.moves.proofs.SpanLaws.{runs_steps, run_from_lem, run_written}
use Rattle.moves.proofs.take.Goals as goal

pub returns-then-are_runs : goal.returns-then-are_runs
returns-then-are_runs c =
    let runs = runs_steps c.args.to c.args.from (bytes_of c.args.size) c.are_runs.ensures c.if-are_runs.true in
    let a = c.args in
    record {
      dst_after = run_written a.to a.from _ a.src.now runs.0 runs.1 all (λ k v. v) _ _ (rw c.bytes.ensures.0 at c.copy_vector.ensures);
      src_after = (rw c.bytes.ensures.0 at c.clear_bytes.ensures) ∙ ap (λ (at : ℕ → ℕ). scatter at all zeros (a.to.count * bytes_of a.size) a.src.now) (sym (run_from_lem a.to a.from _ a.src.now runs.0 runs.1));
    }

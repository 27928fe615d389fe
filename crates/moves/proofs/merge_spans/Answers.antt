-- `moves::merge_spans` meets its contract: a run is cleared where that is asked for, and its active elements are then written.
-- Assumes nothing.
use mathlib.Core.Path.{sym, ap, ◌∙◌}
use mathlib.Core.Bool.{cond}
use Prim.Native.Nat.{ℕ, ◌+◌, ◌*◌}
use lib.ListN.{length, get_or}
use borrow.Author.Tests.{ne_eqb}
use Rattle.general.specs.Scatter.{scatter, all, onwards}
use Rattle.tiles.specs.Element.{bytes_of}
use Rattle.tiles.specs.Predicate.{active}
use Rattle.moves.proofs.PartLaws.{scatter_cleared}
use Rattle.moves.proofs.SpanLaws.{merged_run_steps, runs_governed, run_written, merged_active}
use Rattle.moves.proofs.merge_spans.Goals.{then-this-ne0, else-this-ne0}
use Rattle.moves.proofs.merge_spans.Goals as goal

pub merge_run-requires : goal.merge_run-requires
merge_run-requires g c =
    let runs = merged_run_steps c.args.to c.args.from c.args.size c.is_merged_run.ensures c.if-is_merged_run.true in
    let whole = runs_governed c.requires.0 runs.0 runs.1 c.requires.1 in
    (runs.2, c.requires.1.eights, whole.0, rw c.if-this-ne0.auto.dst whole.1, whole.2)

pub returns-after-this-ne0 : goal.returns-after-this-ne0
returns-after-this-ne0 g c =
    let runs = merged_run_steps c.args.to c.args.from c.args.size c.is_merged_run.ensures c.if-is_merged_run.true in
    let a = c.args in
    let n = 8 * length a.p.now in
    let on = active a.p.now 0 (bytes_of a.size) in
    let val : ℕ → ℕ = λ k. get_or a.src.now (a.from.start + k) 0 in
    elim c.if-this-ne0.branch [
      | then-this-ne0 w ↦
          let cleared =
          c.merge_run.ensures
          ∙ ap (scatter (onwards a.to.start) on val n) (w.dst-is ∙ w.clear_bytes.ensures)
          ∙ scatter_cleared a.to.start on val n a.dst.now (runs_governed c.requires.0 runs.0 runs.1 c.requires.1).1 in
          rw (ne_eqb _ _ w.if-this-ne0.true) (run_written a.to a.from _ a.src.now runs.0 runs.1 all (λ k v. cond (on k) v 0) _ _ (rw (← c.requires.1.bytes) at cleared))
      | else-this-ne0 w ↦
          let kept = c.merge_run.ensures ∙ ap (scatter (onwards a.to.start) on val n) w.dst-is in
          rw w.if-this-ne0.false (run_written a.to a.from _ a.src.now runs.0 runs.1 on (λ k v. v) _ _ (rw (← c.requires.1.bytes) at kept) ∙ sym (merged_active on a.to a.from _ a.src.now a.dst.now))
    ]

-- `execute::execute` meets its contract: the check comes first, then the word is performed.
-- Assumes nothing.
use mathlib.Core.Path.{sym, ◌∙◌}
use Rattle.std.proofs.lemmas.Result.{err_from_is_err_and}
use Rattle.execute.proofs.PerformLaws.{buffers_refuse}
use Rattle.execute.proofs.execute.Goals as goal

pub returns-in_err-check_buffers : goal.returns-in_err-check_buffers
returns-in_err-check_buffers c =
    let a = c.args in
    let refusal = err_from_is_err_and c.from_residual.result c.from_residual.ensures.1 in
    rw (refusal.1, refusal.2) (buffers_refuse a.settings a.word _ _ (sym c.check_buffers.ensures.equal ∙ c.in_err-check_buffers.was))

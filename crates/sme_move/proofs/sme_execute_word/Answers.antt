-- `sme_move::sme_execute_word` meets its contract.
-- Assumes nothing.
use Rattle.sme_move.proofs.ExportLaws.{numbered, faulted, fills, execute_exports}
use Rattle.sme_move.proofs.sme_execute_word.Goals as goal

pub returns : goal.returns
returns c =
    let answer = c.execute-answer.result in
    execute_exports c.from.ensures c.execute-answer.ensures (numbered answer _ c.answer_number-number.ensures)
    (fills c.args.results.now answer _ (faulted answer _ c.answer_fault-fault.ensures) c.put_result.ensures c.put_result-2.ensures)

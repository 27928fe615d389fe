-- `sme_listing::sme_run_listing` meets its contract.
-- Assumes nothing.
use Rattle.sme_listing.proofs.ExportLaws.{numbered, faulted, fills, listing_exports}
use Rattle.sme_listing.proofs.sme_run_listing.Goals as goal

pub returns : goal.returns
returns c =
    let answer = c.run-run.result.answer in
    listing_exports c.from.ensures c.run-run.ensures (numbered answer _ c.answer_number-number.ensures)
    (fills c.args.results.now c.run-run.result _ (faulted answer _ c.answer_fault-fault.ensures) c.put_result.ensures c.put_result-2.ensures c.put_result-3.ensures)

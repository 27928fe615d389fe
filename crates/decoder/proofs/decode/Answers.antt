-- `decoder::decode` meets its contract: a level above the highest is the only refusal that comes before the word is looked at.
-- Assumes nothing.
use Rattle.std.proofs.lemmas.Result.{err_from_is_err_and}
use Rattle.encoding.proofs.CodecLaws.{bad_level_lem}
use Rattle.decoder.proofs.decode.Goals as goal

pub returns-in_err-level : goal.returns-in_err-level
returns-in_err-level c =
    let refused = err_from_is_err_and c.from_residual.result c.from_residual.ensures.1 in
    rw (refused.1, refused.2, c.in_err-level.ensures.0) (bad_level_lem _ _ c.in_err-level.ensures.1)

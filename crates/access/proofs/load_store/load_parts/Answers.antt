-- `access::load_store::load_parts` meets its contract: the vector that is read first is as long as the longest.
-- Assumes nothing.
use Rattle.access.proofs.load_store.load_parts.Goals as goal

pub returns : goal.returns
returns c = rw (← c.read.ensures) c.replace_partly.ensures

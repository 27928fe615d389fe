-- `access::load_store::store_parts` meets its contract: the vector that is read first is as long as the longest.
-- Assumes nothing.
use Rattle.std.proofs.Common.{length, ap, ◌∙◌}
use Rattle.access.specs.Window.{blank}
use Rattle.access.proofs.WindowLaws.{length-read}
use Rattle.access.proofs.load_store.store_parts.Goals as goal

pub merge-requires : goal.merge-requires
merge-requires c = (rw (ap length c.read.ensures ∙ length-read c.args.w c.args.memory.now blank) c.requires.0, c.requires.1)

pub returns : goal.returns
returns c = rw (← c.read.ensures, ← c.merge.ensures) c.write.ensures

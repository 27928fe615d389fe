-- `access::window::Window::write` meets its contract: each part is copied to its place.
-- Assumes nothing.
use Rattle.std.proofs.Common.{arith}
use Rattle.general.proofs.ScatterLaws.{length-scatter}
use Rattle.access.proofs.WindowLaws.{copied_inside, copied_front}
use Rattle.access.proofs.window.Window.write.Goals as goal

pub returns : goal.returns
returns c =
    let a = c.args in
    let f = c.requires in
    let first = copied_inside a.self.at a.self.head a.vector.now a.memory.now (omega (arith, a.self.ordered, f.end)) f.first c.copy_part.ensures in
    rw first (copied_front a.self.skip a.self.tail a.vector.now _ f.end (rw (length-scatter _ _ _ a.self.head a.memory.now) f.second) c.copy_part-2.ensures)

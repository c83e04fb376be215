-- `drawing::parts::front`: a front that is no longer than the list has the length asked for (length-take-le).
use Rattle.std.proofs.Common.{sym, arith, length-take-le}
use Rattle.drawing.proofs.parts.front.Goals as goal

pub slice_bounds-result-end : goal.slice_bounds-result-end
slice_bounds-result-end c = sym (length-take-le c.args.n c.args.list.now (omega arith))

-- `lists::demand_each`: the check of each place is refused at the first that fails, and passes where there is none (each_stops, each_passes).
use Rattle.std.proofs.Common.{Err, sym, ap, ◌∙◌}
use Rattle.lists.proofs.Demands.{each_stops, each_passes}
use Rattle.lists.proofs.demand_each.Goals as goal

pub returns-then-k-n : goal.returns-then-k-n
returns-then-k-n g c q r told names =
    let k = c.first_not-k.result in
    ap Err (names k c.refusal.result c.if-k-n.true c.refusal.ensures) ∙ sym (each_stops q c.args.n k (c.first_not-k.ensures q told) r c.if-k-n.true)

pub returns : goal.returns
returns g c q r told names = sym (each_passes q c.args.n c.first_not-k.result (c.first_not-k.ensures q told) r c.if-k-n.false)

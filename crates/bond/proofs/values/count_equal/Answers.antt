-- `bond::values::count_equal`: the count along the list is the count by index (counted).
use Rattle.std.proofs.Common.{rules, ◌≡◌, take, count_by, ◌∙◌}
use lib.Ieee.{eq}
use Rattle.bond.proofs.Chosen.{counted}
use Rattle.lists.proofs.Counts.{count_most}
use Rattle.bond.proofs.values.count_equal.Goals as goal

pub returns : goal.returns
returns c =
    let h : c.count.result ≡ count_by (λ y. eq y c.args.x) (take c.args.n c.args.l.now) = search rules in
    let e = h ∙ counted (λ y. eq y c.args.x) c.args.l.now c.args.n c.requires in
    (e, rw e (count_most _ _))

-- `bond::values::count_above`: the count along the list is the count by index (counted).
use Rattle.std.proofs.Common.{rules, ◌≡◌, take, count_by, ◌∙◌}
use lib.Ieee.{lt}
use Rattle.bond.proofs.Chosen.{counted}
use Rattle.lists.proofs.Counts.{count_most}
use Rattle.bond.proofs.values.count_above.Goals as goal

pub returns : goal.returns
returns c =
    let h : c.count.result ≡ count_by (λ y. lt c.args.x y) (take c.args.n c.args.l.now) = search rules in
    let e = h ∙ counted (λ y. lt c.args.x y) c.args.l.now c.args.n c.requires in
    (e, rw e (count_most _ _))

-- `records::given::CAxes::lent_at`: before the count an axis is the record's (lent_at), and from it on a blank one (lent_past).
use Rattle.std.proofs.Common.{rules}
use Rattle.records.proofs.Lent.{lent_at, lent_past}
use Rattle.records.proofs.given.CAxes.lent_at.Goals as goal

pub returns-then-k-count : goal.returns-then-k-count
returns-then-k-count c = lent_at c.args.count c.args.self.now.axis c.args.k _ _ (search rules) (search rules) c.into.ensures

pub returns : goal.returns
returns c = lent_past c.args.count c.args.self.now.axis c.args.k (search rules)

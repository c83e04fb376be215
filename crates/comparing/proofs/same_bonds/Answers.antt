-- Two arrays are the same where each two bonds are (same_from_all). Assumes nothing.
use borrow.Author.Rules.{rules}
use Rattle.std.proofs.lemmas.Iterator.{YieldsList-from_slice, YieldsList-from_zip, same_from_all}
use Rattle.comparing.proofs.Equal.{decided, told_yes, told_no}
use Rattle.comparing.proofs.same_bonds.Goals as goal

pub returns : goal.returns
returns c = decided
    (same_from_all c.all.new.self _ _ _ _ c.all.ensures.ran
    (YieldsList-from_zip (YieldsList-from_slice c.args.a (cc)) (YieldsList-from_slice c.args.b (cc))) (search rules) (λ x q k. (search rules, told_yes (search rules))) (λ x q k. told_no (search rules)))

-- `run_checks::found::with_part`: a part that passes leaves the first place as it is (part_passes).
use borrow.Author.Rules.{rules}
use mathlib.Core.Path.{◌≡◌}
use mathlib.Core.Bool.{true}
use Rattle.run_checks.proofs.Guards.{part_passes}
use Rattle.run_checks.proofs.found.with_part.Goals as goal

pub returns-then-ok : goal.returns-then-ok
returns-then-ok c = let h : c.args.ok ≡ true = search rules in λ p d l e. part_passes c.args.z d l p c.args.first e c.args.ok h

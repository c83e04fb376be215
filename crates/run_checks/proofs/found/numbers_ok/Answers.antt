-- `run_checks::found::numbers_ok`: one law for each return (numbers_asked).
use borrow.Author.Rules.{rules}
use Rattle.run_checks.proofs.Guards.{numbers_asked}
use Rattle.run_checks.proofs.found.numbers_ok.Goals as goal

pub returns-then-not-lone : goal.returns-then-not-lone
returns-then-not-lone c = λ p q e f. search (rules, numbers_asked)

pub returns-then-number-d : goal.returns-then-number-d
returns-then-number-d c = λ p q e f. search (rules, numbers_asked)

pub returns-then-not-mild : goal.returns-then-not-mild
returns-then-not-mild c = λ p q e f. search (rules, numbers_asked)

pub returns-then-setting-d : goal.returns-then-setting-d
returns-then-setting-d c = λ p q e f. search (rules, numbers_asked)

pub returns : goal.returns
returns c = λ p q e f. search (rules, numbers_asked)

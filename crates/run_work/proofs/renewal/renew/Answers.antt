-- `run_work::renewal::renew`: `worked`, and then the scratch is cleared.
use mathlib.Core.Path.{ap, ◌∙◌}
use Rattle.lists.specs.Floats.{zeros}
use Rattle.run_work.proofs.renewal.renew.Goals as goal

pub returns : goal.returns
returns c = (c.worked-a.ensures, c.fill.ensures ∙ ap zeros c.worked-a.auto.scratch)

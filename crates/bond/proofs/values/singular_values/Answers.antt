use native.Mathlib.Numerals.{add-one}
use Rattle.lists.proofs.Tables.{fill_all}
use Rattle.cutform.specs.Values.{singulars}
use Rattle.bond.proofs.values.singular_values.Goals as goal

pub loop-i-preserved : goal.loop-i-preserved
unfolding singulars
loop-i-preserved c = rw (add-one, c.singular.ensures, c.loop-i.invariant)

pub returns : goal.returns
unfolding singulars
returns c = fill_all _ _ _ _ _ c.loop-i.invariant c.loop-i.auto.i-end c.loop-i-test.false c.requires.1

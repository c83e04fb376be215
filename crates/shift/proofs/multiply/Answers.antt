-- `shift::multiply`: a turn multiplies one more (maps_more).
use mathlib.Core.Path.{refl}
use lib.Ieee.{Float, nan}
use borrow.Author.Rules.{rules}
use Rattle.numbers.specs.Arithmetic.{times}
use Rattle.lists.proofs.Over.{maps_more}
use Rattle.shift.proofs.multiply.Goals as goal

pub loop-v-preserved : goal.loop-v-preserved
loop-v-preserved c = maps_more (λ (v : Float). times v c.args.factor) c.args.s.now nan c.loop-v.v-index c.loop-v.s _ c.loop-v.invariant (search rules) refl

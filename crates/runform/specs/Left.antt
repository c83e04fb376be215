-- What an accepted replacement leaves as it was. Definitions only.
use Rattle.std.specs.Prelude.{◌≡◌, ℕ, length}
use Rattle.lists.specs.Slots.{WrittenFrom}
use Rattle.shape.specs.declared.Shape.{Shape}
use Rattle.shape.specs.Limits.{most_axes}
use Rattle.shape.specs.Shapes.{core_size}
use Rattle.cutform.specs.Keeping.{Stepped, bond_size, carry_size}
use Rattle.sumform.specs.Sums.{sum_size}
use Rattle.runform.specs.Kept.{Kept}
use Rattle.runform.specs.Requests.{Request, new_core, new_axis, new_weights, zone_of, present}

-- of the step, where the cores from z on are made anew: all that stands before zone z and behind the last, unused room too
pub record StepFrom (s : Shape) (z : ℕ) (t t' : Stepped) : Type 0 where
  pub bonds : WrittenFrom (bond_size s) z s.d t.bonds t'.bonds
  pub chain : WrittenFrom (core_size s) z s.d t.chain t'.chain
  pub carries : WrittenFrom (carry_size s) z s.d t.carries t'.carries

-- a weights replacement leaves all of the step
abbrev pub StepLeft : Shape → Request → Stepped → Stepped → Type 0
StepLeft s (new_core z xs) t t' = StepFrom s z t t'
StepLeft s (new_axis z a) t t' = StepFrom s z t t'
StepLeft s (new_weights z ws) t t' = t' ≡ t

-- the inputs have the new part in; the sums before its zone are as they were
pub record Left (k k' : Kept) (q : Request) : Type 0 where
  pub inputs : k'.inputs ≡ present k.inputs q
  pub stepped : StepLeft k.inputs.shape q k.stepped k'.stepped
  pub sums : WrittenFrom (sum_size k.inputs.shape) (zone_of q) k.inputs.shape.d k.summed.sums k'.summed.sums

-- the arrays of a run's record have 16 places, as their types say
pub record Arrays (k : Kept) : Type 0 where
  pub axes : length k.inputs.axes ≡ most_axes
  pub bonds : length k.stepped.bonds ≡ most_axes

-- What the checks of an accepted replacement say, on any run, also one that others wrote to. Assumes nothing of the rules.
use Rattle.std.specs.Prelude.{Ok}
use mathlib.Core.Path.{◌≡◌}
use Rattle.answers.specs.declared.Refusal.TheVariants.{Zone, Length}
use Rattle.answers.specs.Outcome.{Check}
use Rattle.answers.proofs.Checks.{demand_is, then_is}
use Rattle.lists.proofs.Tests.{ltb_is}
use Rattle.shape.specs.Shapes.{shape_ok}
use Rattle.stepform.specs.Zones.{Rules}
use Rattle.runform.specs.Slices.{slice_count}
use Rattle.runform.specs.Kept.{Kept, running, lengths_of}
use Rattle.runform.specs.Checks.{rank_ok, slices_lent}
use Rattle.runform.specs.Requests.{Request, zone_of, present, part_fits, InOrder, found_ok, numbers_ok, replace_ok, redo, replace}

pub record Accepted (R : Rules) (room : Check) (k : Kept) (q : Request) : Type 0 where
  pub shape : shape_ok k.inputs.shape (rank_ok k.inputs.shape k.stepped.bonds) ≡ Ok tt
  pub order : InOrder k.inputs.shape q
  pub slices : slices_lent k.inputs.shape (lengths_of k) ≡ Ok tt
  pub scratch : room ≡ Ok tt
  pub numbers : numbers_ok R k q ≡ Ok tt

pub checks_say : (R : Rules) (room : Check) (k : Kept) (q : Request) → replace_ok R room k q ≡ Ok tt → Accepted R room k q
unfolding replace_ok found_ok
checks_say R room k q e =
    let s = k.inputs.shape in
    let c = then_is _ _ tt e in
    let a = then_is _ _ tt c.0 in
    let b = then_is _ _ tt a.1 in
    let f = then_is _ _ tt c.1 in
    let g = then_is _ _ tt f.1 in
    record {
      shape = a.0;
      order = record { inside = ltb_is (zone_of q) s.d (demand_is _ Zone b.0); fits = demand_is (part_fits s q) (Length slice_count) f.0 };
      slices = b.1;
      scratch = g.0;
      numbers = g.1;
    }

-- and its work was done
pub accepted : (R : Rules) (room : Check) (k k' : Kept) (q : Request) → replace R room k q ≡ Ok k'
    → Accepted R room k q × (redo R q (running (present k.inputs q) k.stepped k.summed) ≡ Ok k')
unfolding replace
accepted R room k k' q e = let A = then_is (replace_ok R room k q) (redo R q (running (present k.inputs q) k.stepped k.summed)) k' e in (checks_say R room k q A.0, A.1)

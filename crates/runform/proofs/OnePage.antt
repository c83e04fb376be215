-- DEMAND 3 of the public calls, whole: the record `Holds` (specs/OnePage.antt) of every run that a fresh run and any replacements leave.
use mathlib.Core.Path.{◌≡◌, ap, subst, ◌∙◌}
use native.Mathlib.Nat.{zero-add}
use native.Mathlib.Omega.{arith}
use mathlib.Core.List.{List}
use lib.ListN.{length, length-replicate}
use lib.Ieee.{Float}
use Rattle.std.specs.Prelude.{Ok}
use Rattle.answers.specs.Outcome.{Check}
use Rattle.answers.specs.Table.{told_of}
use Rattle.lists.proofs.Written.{written_from}
use Rattle.shape.specs.declared.Shape.{Shape}
use Rattle.shape.specs.Limits.{most_axes}
use Rattle.stepform.specs.declared.Axis.{Axis}
use Rattle.cutform.specs.Bonds.{no_bond}
use Rattle.cutform.specs.Rounding.{Carry, Cut}
use Rattle.stepform.specs.declared.Settings.{Settings}
use Rattle.stepform.specs.Zones.{rules}
use Rattle.cutform.specs.Keeping.{bond_size, keep_step}
use Rattle.runform.specs.Slices.{Slices}
use Rattle.runform.specs.Kept.{Inputs, Kept, inputs_of, blank, bare}
use Rattle.runform.specs.Call.{fresh_call}
use Rattle.runform.specs.Left.{Arrays}
use Rattle.runform.specs.Sequence.{kept_after, AsFresh, Asked, kept_after_all, present_after_all, AllLend}
use Rattle.runform.specs.OnePage.{Alike, Holds}
use Rattle.runform.proofs.Rules.{rules_sound}
use Rattle.runform.proofs.Trace.{Trace, traced, kept_by}
use Rattle.runform.proofs.Held.{cuts_length, sizes}
use Rattle.runform.proofs.Before.{bond_count}
use Rattle.runform.proofs.Untouched.{untouched}
use Rattle.runform.proofs.StaysFresh.{ran_fresh}
use Rattle.runform.proofs.Lending.{refused_call}
use Rattle.runform.proofs.Demand3.{demand3_calls, refused_same}
use Rattle.runform.proofs.NotInOrder.{no_such_zone, slice_misfits}

-- the arrays of a fresh run's record have 16 places
trace_arrays : (i : Inputs) (T : Trace rules i) → length i.axes ≡ most_axes → Arrays (kept_by T)
unfolding keep_step blank bare
trace_arrays i T all =
    let s = i.shape in
    let Z = sizes rules rules_sound i T.step in
    let b = bond_count s Z.least in
    let m = Z.most in
    let r0 = length-replicate most_axes no_bond in
    let e = zero-add (length T.step.cuts) ∙ cuts_length rules rules_sound i T.step in
    record {
      axes = all;
      bonds = (written_from (bond_size s) no_bond s.d (λ (r : Carry × Cut). r.1.bonds) 0 T.step.cuts _ e (omega arith)).long ∙ r0;
    }

fresh_arrays : (i : Inputs) (k : Kept) → AsFresh rules i k → Arrays k
fresh_arrays i k F = let T = traced rules i k (ran_fresh rules i k F) in subst Arrays T.1 (trace_arrays i T.0 F.array)

alike_by : (v w : Check) → v ≡ w → Alike v w
alike_by v w e = record { same = e; told = ap told_of e }

holds : (i : Inputs) (k : Kept) → AsFresh rules i k → Holds i k
holds i k F = record {
  fresh = F;
  before = λ q scratch e. untouched rules k q scratch (fresh_arrays i k F) e;
  alike = λ q O scratch long m room. alike_by _ _ (refused_same rules rules_sound i k F q O scratch long m room);
  left = λ c r e. refused_call rules k c r e;
  wrong = λ c j W lt. slice_misfits rules rules_sound i k F c.request c.scratch c.slices j W lt;
  outside = λ c out. no_such_zone rules rules_sound i k F c.request c.scratch c.slices out;
}

-- THE THEOREM. After an accepted `fresh_run` and any replacements, in any order, some refused, some lent slices of wrong lengths
pub one_page : (s : Shape) (axes : List Axis) (t : Settings) (m : Slices (List Float)) (scratch : List Float) → length axes ≡ most_axes
    → (fresh_call s axes t m scratch).result.verdict ≡ Ok tt → (cs : List Asked)
    → let i = inputs_of s axes t m in
    let k = kept_after (fresh_call s axes t m scratch) in
    AllLend rules k cs → Holds (present_after_all rules i k cs) (kept_after_all rules k cs)
one_page s axes t m scratch all e cs L = holds _ _ (demand3_calls s axes t m scratch all e cs L)

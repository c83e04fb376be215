-- The work from zone z on refuses late: no refusal of it leaves scratch unwritten. Assumes nothing.
use Prim.Native.Nat.{ℕ}
use mathlib.Core.List.{List}
use lib.Ieee.{Float}
use Rattle.answers.specs.declared.Part.TheVariants.{Sum}
use Rattle.answers.specs.Table.{Late}
use Rattle.answers.proofs.Late.{late_ok, late_making, late_bind}
use Rattle.lists.specs.Walks.{walk}
use Rattle.lists.specs.Floats.{stored}
use Rattle.lists.proofs.Late.{late_walk}
use Rattle.shape.specs.Cores.{Core}
use Rattle.sumform.specs.Contract.{contract}
use Rattle.sumform.specs.Product.{contract_at}
use Rattle.cutform.specs.Keeping.{keep_step}
use Rattle.stepform.specs.Zones.{rules}
use Rattle.stepform.specs.Steps.{step_from}
use Rattle.stepform.proofs.Late.{late_from}
use Rattle.runform.specs.Kept.{Kept, running, zones_from, carry_at, sums_at, weighed_from}
use Rattle.runform.specs.Work.{keep_sums, sum_zone, restep, resum, sum_from, work_from}

late_axis : (k : ℕ) (e : List Float) (p : Core × List Float) → Late (sum_zone rules k e p)
unfolding sum_zone rules contract_at
late_axis k e p = late_bind _ _ (late_making Sum k (stored (contract p.0 p.1 e))) (λ x. late_ok (x, tt))

pub late_sums : (k : Kept) (z : ℕ) → Late (sum_from rules k z)
unfolding sum_from resum
late_sums k z =
    let i = k.inputs in
    let t = k.stepped in
    let u = k.summed in
    late_bind (resum rules i t u z) _
    (late_bind (walk (sum_zone rules) z (sums_at i.shape t u z) (weighed_from i t z)) _ (late_walk (sum_zone rules) late_axis z (sums_at i.shape t u z) (weighed_from i t z)) (λ e. late_ok (keep_sums i.shape z e u)))
    (λ v. late_ok (running i t v))

pub late_work : (k : Kept) (z : ℕ) → Late (work_from rules k z)
unfolding work_from restep
late_work k z =
    let i = k.inputs in
    let t = k.stepped in
    late_bind (restep rules i t z) _
    (late_bind (step_from rules i.set i.shape.d z (carry_at i.shape t z) (zones_from i z)) _ (late_from i.set i.shape.d z (carry_at i.shape t z) (zones_from i z)) (λ tr. late_ok (keep_step i.shape z tr t)))
    (λ t'. late_sums (running i t' k.summed) z)

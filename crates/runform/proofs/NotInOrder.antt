-- What a replacement answers whose zone number or a length that it is lent is not in order, on a run that is as fresh: the refusals that a fresh run cannot give. Of the rules only `Sound` is used.
use mathlib.Core.Path.{◌≡◌, refl, sym, ap, ◌∙◌, subst}
use Prim.Native.Nat.{ℕ, ◌≤◌, ◌<◌}
use mathlib.Core.Bool.{Bool, false}
use mathlib.Core.List.{List}
use lib.ListN.{length}
use lib.Ieee.{Float}
use Rattle.answers.specs.declared.Refusal.{Refusal}
use Rattle.answers.specs.declared.Refusal.TheVariants.{Zone, Length}
use Rattle.std.specs.Prelude.{Err, Ok}
use Rattle.answers.specs.Outcome.{Check, demand, verdict_of}
use Rattle.lists.proofs.Tests.{ltb_yes, ltb_no, eqb_no}
use Rattle.shape.specs.Limits.{scratch_for}
use Rattle.shape.specs.Shapes.{shape_ok, entries_of}
use Rattle.stepform.specs.Zones.{Rules}
use Rattle.runform.specs.Slices.{Slices, slice_count}
use Rattle.runform.specs.Kept.{Inputs, Kept, lengths_for, lengths_of}
use Rattle.runform.specs.Checks.{rank_ok, scratch_lent}
use Rattle.runform.specs.Requests.{Request, zone_of, part_fits, InOrder, found_ok, replace_ok, replace}
use Rattle.runform.specs.Call.{scratch_place, run_end, replace_by}
use Rattle.runform.specs.Sequence.{AsFresh, Slice, own_slices, found}
use Rattle.runform.specs.OnePage.{FirstWrong}
use Rattle.runform.proofs.Sound.{Sound}
use Rattle.runform.proofs.Trace.{Trace, traced, kept_by}
use Rattle.runform.proofs.Found.{shape_passes, run_passes}
use Rattle.runform.proofs.StaysFresh.{ran_fresh}
use Rattle.runform.proofs.Lending.{wrong_length}

module _ (R : Rules) (S : Sound R) (i : Inputs) (T : Trace R i) (q : Request) where
  -- whatever is lent for the run's slices
  module _ (m : Slices Slice) (room : Check) where
    found_shape : shape_ok i.shape (rank_ok i.shape (found (kept_by T) m).stepped.bonds) ≡ Ok tt
    unfolding rank_ok
    found_shape = shape_passes R S i T

    found_zone : i.shape.d ≤ zone_of q → replace R room (found (kept_by T) m) q ≡ Err Zone
    unfolding replace replace_ok found_ok demand
    found_zone out = rw found_shape (rw (ltb_no (zone_of q) i.shape.d out) refl)

    found_wrong : (j : ℕ) → FirstWrong j (lengths_of (found (kept_by T) m)) (lengths_for i.shape) → zone_of q < i.shape.d
        → replace R room (found (kept_by T) m) q ≡ Err (Length j)
    unfolding replace replace_ok found_ok demand
    found_wrong j W lt = rw found_shape (rw (ltb_yes (zone_of q) i.shape.d lt) (rw (wrong_length (found (kept_by T) m) j W) refl))

  found_length : (room : Check) → zone_of q < i.shape.d → part_fits i.shape q ≡ false → replace R room (kept_by T) q ≡ Err (Length slice_count)
  unfolding replace replace_ok demand
  found_length room lt ne = rw (run_passes R S i T (zone_of q) lt) (rw ne refl)

  found_room : (r : Refusal) → InOrder i.shape q → replace R (Err r) (kept_by T) q ≡ Err r
  unfolding replace replace_ok demand
  found_room r O = rw (run_passes R S i T (zone_of q) O.inside) (rw O.fits refl)

module _ (R : Rules) (S : Sound R) (i : Inputs) (k : Kept) (F : AsFresh R i k) (q : Request) (scratch : List Float) where
  taken_apart : (T : Trace R i) × (kept_by T ≡ k)
  taken_apart = traced R i k (ran_fresh R i k F)

  answered_by : (m : Slices Slice) (r : Refusal) → replace R (scratch_lent i.shape (scratch_place q) (length scratch)) (found (kept_by taken_apart.0) m) q ≡ Err r
      → (replace_by R (found k m) q scratch).result.verdict ≡ Err r
  unfolding replace_by run_end
  answered_by m r e = ap (λ (x : Kept). verdict_of (replace R (scratch_lent x.inputs.shape (scratch_place q) (length scratch)) (found x m) q)) (sym taken_apart.1) ∙ ap verdict_of e

  pub no_such_zone : (m : Slices Slice) → i.shape.d ≤ zone_of q → (replace_by R (found k m) q scratch).result.verdict ≡ Err Zone
  no_such_zone m out = answered_by m Zone (found_zone R S i taken_apart.0 q m _ out)

  pub slice_misfits : (m : Slices Slice) (j : ℕ) → FirstWrong j (lengths_of (found k m)) (lengths_for i.shape) → zone_of q < i.shape.d → (replace_by R (found k m) q scratch).result.verdict ≡ Err (Length j)
  slice_misfits m j W lt =
      let W' : FirstWrong j (lengths_of (found (kept_by taken_apart.0) m)) (lengths_for i.shape) = subst (λ (x : Kept). FirstWrong j (lengths_of (found x m)) (lengths_for i.shape)) (sym taken_apart.1) W in
      answered_by m (Length j) (found_wrong R S i taken_apart.0 q m _ j W' lt)

  pub part_misfits : zone_of q < i.shape.d → part_fits i.shape q ≡ false → (replace_by R k q scratch).result.verdict ≡ Err (Length slice_count)
  part_misfits lt ne = answered_by own_slices (Length slice_count) (found_length R S i taken_apart.0 q _ lt ne)

  pub scratch_misfits : InOrder i.shape q → ¬ (length scratch ≡ scratch_for (entries_of i.shape)) → (replace_by R k q scratch).result.verdict ≡ Err (Length (scratch_place q))
  unfolding scratch_lent demand
  scratch_misfits O ne =
      let r = Length (scratch_place q) in
      let no : scratch_lent i.shape (scratch_place q) (length scratch) ≡ Err r = ap (λ (b : Bool). demand b r) (eqb_no (length scratch) (scratch_for (entries_of i.shape)) ne) in
      answered_by own_slices r (ap (λ (c : Check). replace R c (kept_by taken_apart.0) q) no ∙ found_room R S i taken_apart.0 q r O)

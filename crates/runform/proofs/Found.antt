-- A run that a fresh start made passes every check that a replacement makes of what it finds: what is left is asked of the new part. Of the rules only `Sound` is used.
use Rattle.std.specs.Prelude.{Ok}
use mathlib.Core.Path.{◌≡◌, refl, ap, ◌∙◌}
use Prim.Native.Nat.{ℕ, suc, ◌<◌}
use native.Mathlib.Omega.{arith}
use mathlib.Core.Bool.{Bool, true, false, cond, ◌&&◌}
use mathlib.Core.List.{List}
use lib.Dec.{ltb, eqb}
use lib.ListN.{length}
use lib.Ieee.{Float}
use Rattle.numbers.specs.Arithmetic.{zero64}
use Rattle.numbers.specs.Finite.{finite}
use Rattle.answers.specs.declared.Refusal.TheVariants.{Zone, Length, Number, Setting}
use Rattle.answers.specs.Outcome.{Check, ◌then◌, demand_each}
use Rattle.answers.proofs.Checks.{demand_yes, then_skip, then_on, each_same}
use Rattle.lists.specs.Lists.{pick}
use Rattle.lists.specs.Floats.{all_finite}
use Rattle.lists.proofs.Tests.{ltb_yes, ltb_is, leb_yes, and_yes}
use Rattle.lists.proofs.Written.{written_length}
use Rattle.shape.specs.declared.Shape.{Shape}
use Rattle.shape.specs.Limits.{within}
use Rattle.shape.specs.Shapes.{right_of, shape_ok, core_size, entries_of}
use Rattle.shape.proofs.Shaped.{shape_same}
use Rattle.stepform.specs.Axes.{axis_ok, axis_at}
use Rattle.cutform.specs.Rounding.{Carry, Cut, numbers_in}
use Rattle.stepform.specs.Zones.{Rules}
use Rattle.sumform.specs.Sums.{sum_size}
use Rattle.runform.specs.Slices.{slice_count}
use Rattle.runform.specs.Kept.{Inputs, Summed, all_carries, all_sums, lengths_for, lengths_of, bare, blank, kept_carry}
use Rattle.cutform.specs.Keeping.{Stepped, carry_size, dropped_among, rank_at, keep_step}
use Rattle.runform.specs.Work.{keep_sums}
use Rattle.stepform.specs.Lone.{lone_finite, lone_ok}
use Rattle.runform.specs.Checks.{rank_ok, slices_lent, zone_finite, core_held, carry_held, sums_held, dropped_held, held_finite, kept_finite}
use Rattle.runform.specs.Requests.{Request, zone_of, present, part_fits, InOrder, new_finite, new_ok, found_ok, found_numbers, shifts_ok, numbers_ok, replace_ok}
use Rattle.runform.proofs.Sound.{Sound}
use Rattle.runform.proofs.InRow.{lent_passes}
use Rattle.runform.proofs.Trace.{inputs_are, Trace, stepped_by, summed_by, kept_by}
use Rattle.runform.proofs.Held.{cuts_length, sums_length, rank_fits, dropped_finite, carry_finite, core_finite_lem, sum_finite, figure_finite}

-- 6 and 7 of the new part at its zone, and 8 of the shifts that are made
abbrev pub part_finite : Request → ℕ → Bool
part_finite q k = pick (eqb k (zone_of q)) (new_finite q) true

abbrev pub part_ok : Request → ℕ → Bool
part_ok q k = pick (eqb k (zone_of q)) (new_ok q) true

unfoldable pub part_passes : Rules → Inputs → Request → Check
part_passes R i q = (demand_each Number (part_finite q) i.shape.d 0 then demand_each Setting (part_ok q) i.shape.d 0) then shifts_ok R (present i q) q

-- what holds of each bond passes where there is none too
at_bond_lem : (s : Shape) (k : ℕ) (x : Bool) → (suc k < s.d → x ≡ true) → (b : Bool) → ltb (suc k) s.d ≡ b → cond b x true ≡ true
at_bond_lem s k x h true e = h (ltb_is (suc k) s.d e)
at_bond_lem s k x h false e = refl

module _ (R : Rules) (S : Sound R) (i : Inputs) (T : Trace R i) where
  abbrev s : Shape
  s = i.shape

  abbrev t : Stepped
  t = stepped_by i T.step.cuts

  abbrev u : Summed
  u = summed_by i T.sums

  ranks_pass : (k : ℕ) → k < i.shape.d → rank_ok s t.bonds k ≡ true
  unfolding rank_ok
  ranks_pass k lt = at_bond_lem s k (within (right_of s k) (rank_at t k)) (λ l. let f = rank_fits R S i T.step k l in and_yes _ _ (leb_yes 1 (rank_at t k) f.0) (leb_yes (rank_at t k) (right_of s k) f.1)) (ltb (suc k) s.d) refl

  kept_finite_lem : (k : ℕ) → k < i.shape.d → kept_finite s t u k ≡ true
  unfolding held_finite core_held carry_held sums_held dropped_held
  kept_finite_lem k lt =
      and_yes _ _ (core_finite_lem R S i T.step k lt)
      (and_yes _ _ (at_bond_lem s k (all_finite (kept_carry s t k)) (carry_finite R S i T.step k) (ltb (suc k) s.d) refl)
      (and_yes _ _ (sum_finite R S i T k lt)
      (at_bond_lem s k (finite (dropped_among t.bonds k)) (dropped_finite R S i T.step k) (ltb (suc k) s.d) refl)))

  slices_pass : slices_lent s (lengths_of (kept_by T)) ≡ Ok tt
  unfolding keep_step keep_sums blank bare
  slices_pass =
      let I = inputs_are i T.step.ok.lent in
      let L = cuts_length R S i T.step in
      let chain : length t.chain ≡ entries_of s = written_length (core_size s) zero64 s.d (λ (r : Carry × Cut). r.1.core.entries) T.step.cuts L in
      let carries : length t.carries ≡ all_carries s = written_length (carry_size s) zero64 s.d (λ (r : Carry × Cut). numbers_in r.0) T.step.cuts L in
      let sums : length u.sums ≡ all_sums s = written_length (sum_size s) zero64 s.d (λ (r : List Float × Unit {0}). r.0) T.sums (sums_length R S i T) in
      lent_passes 0 (lengths_of (kept_by T)) (lengths_for s) cc

  pub shape_passes : shape_ok s (rank_ok s t.bonds) ≡ Ok tt
  shape_passes = shape_same s (rank_ok s t.bonds) (λ (k : ℕ). true) ranks_pass ∙ T.step.ok.shape

  -- 1 to 5
  pub run_passes : (z : ℕ) → z < i.shape.d → found_ok (kept_by T) z ≡ Ok tt
  unfolding found_ok
  run_passes z lt = then_skip _ _ _ shape_passes (then_skip _ _ _ (demand_yes (ltb z s.d) Zone (ltb_yes z s.d lt)) slices_pass)

  pub found_passes : (q : Request) → InOrder i.shape q → replace_ok R (Ok tt) (kept_by T) q ≡ part_passes R i q
  unfolding replace_ok numbers_ok found_numbers part_passes
  found_passes q O =
      let P = T.step.ok in
      let d = s.d in
      then_skip _ _ _ (run_passes (zone_of q) O.inside)
      (then_skip _ _ _ (demand_yes (part_fits s q) (Length slice_count) O.fits)
      (then_on _ _ _ _
      (then_skip _ _ _ (demand_yes (lone_finite i.set && finite u.figure) (Number 0) (and_yes _ _ P.lone (figure_finite R S i T)))
      (then_on _ _ _ _
      (each_same Number (λ (k : ℕ). (zone_finite i k && kept_finite s t u k) && part_finite q k) (part_finite q) d 0
      (λ k a b. ap (λ (x : Bool). x && part_finite q k) (and_yes _ _ (P.fine k (omega arith)) (kept_finite_lem k (omega arith)))))
      (then_skip _ _ _ (demand_yes (lone_ok i.set) (Setting 0) P.mild)
      (each_same Setting (λ (k : ℕ). axis_ok (axis_at i.axes k) && part_ok q k) (part_ok q) d 0 (λ k a b. ap (λ (x : Bool). x && part_ok q k) (P.axes k (omega arith)))))))
      refl))

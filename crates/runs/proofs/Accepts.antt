-- What accepted calls let their work ask. Assumes nothing.
use mathlib.Core.Path.{◌≡◌, refl, sym, subst}
use Prim.Native.Nat.{ℕ, ◌-◌, ◌≤◌, ◌<◌}
use native.Mathlib.Omega.{arith}
use mathlib.Core.Bool.{true}
use mathlib.Core.List.{List}
use lib.ListN.{length, set}
use lib.Ieee.{Float}
use Rattle.answers.specs.declared.Refusal.TheVariants.{Length, Reach}
use Rattle.std.specs.Prelude.{Ok}
use Rattle.answers.specs.Outcome.{Check}
use Rattle.answers.proofs.Checks.{demand_is, then_is, each_is, verdict_passed}
use Rattle.lists.proofs.Tests.{eqb_is}
use Rattle.shape.specs.declared.Shape.{Shape}
use Rattle.shape.specs.Limits.{most_axes, scratch_for}
use Rattle.shape.specs.Shapes.{shape_ok, core_size, entries_of}
use Rattle.shape.specs.Sizes.{SizesWithin}
use Rattle.shape.proofs.Shaped.{shaped, chain_passes}
use Rattle.runform.proofs.KeptRanks.{rank_within}
use Rattle.cutform.specs.declared.Bond.{Bond}
use Rattle.stepform.specs.declared.Axis.{Axis}
use Rattle.stepform.specs.declared.Settings.{Settings}
use Rattle.stepform.specs.Zones.{rules}
use Rattle.stepform.specs.Call.{axis_reaches}
use Rattle.runform.specs.declared.Run.{Run}
use Rattle.runform.specs.Slices.{Slices, each_output, slice_count, behind_part}
use Rattle.runform.specs.Kept.{Inputs, Kept, inputs_of, kept_of, room_for, blank_run}
use Rattle.runform.specs.Checks.{rank_ok, scratch_lent, in_reach_at, fresh_ok}
use Rattle.runform.specs.Call.{room_lent}
use Rattle.runform.specs.Requests.{Request, new_core, new_axis, zone_of, present, new_finite, new_ok, found_numbers, shifts_ok, numbers_ok, replace_ok}
use Rattle.runform.proofs.InRow.{lent_is}
use Rattle.runform.proofs.Trace.{inputs_are, passed}
use Rattle.runform.proofs.Accepted.{Accepted, checks_say}
use Rattle.runform.proofs.Untouched.{slices_are}
use Rattle.run_work.specs.InPlace.{RanksWithin}
use Rattle.run_work.specs.Renewed.{RenewAsks}
use Rattle.runs.specs.Ended.{axis_run}

ranks_pass : (s : Shape) (bonds : List Bond) → shape_ok s (rank_ok s bonds) ≡ Ok tt → (m : ℕ) → RanksWithin s bonds m
ranks_pass s bonds ok m k a b = rank_within s bonds ok k (omega arith)

scratch_is : (s : Shape) (j n : ℕ) → scratch_lent s j n ≡ Ok tt → entries_of s ≤ n
unfolding scratch_lent
scratch_is s j n e = omega (arith, eqb_is n (scratch_for (entries_of s)) (demand_is _ (Length j) e))

-- ---- a replacement
module _ (r : Run) (m : Slices (List Float)) where
  abbrev run : Kept
  run = kept_of r m

  abbrev s : Shape
  s = r.shape

  shifts_pass : (q : Request) → numbers_ok rules run q ≡ Ok tt → shifts_ok rules (present run.inputs q) q ≡ Ok tt
  unfolding numbers_ok
  shifts_pass q e = (then_is (found_numbers run (zone_of q) (new_finite q) (new_ok q)) (shifts_ok rules (present run.inputs q) q) tt e).1

  module _ (j n : ℕ) (q : Request) (v : Check) (e : v ≡ replace_ok rules (scratch_lent r.shape j n) run q) (h : v ≡ Ok tt) where
    say : Accepted rules (scratch_lent r.shape j n) run q
    say = checks_say rules (scratch_lent s j n) run q (verdict_passed _ v e h)

    sizes : SizesWithin r.shape
    sizes = (shaped s (rank_ok s r.bonds) say.shape).sizes

    source_long : length m.source ≡ entries_of r.shape
    source_long = (slices_are run say.slices).source

    room : length m.source ≤ n
    room = omega (arith, source_long, scratch_is s j n say.scratch)

    asked : (xs : List Axis) → ((k : ℕ) → zone_of q ≤ k → k < r.shape.d → axis_reaches r.set r.shape xs k ≡ true) → (scratch : List Float) → length scratch ≡ n
        → RenewAsks (record { shape = r.shape; axes = xs; set = r.set; bonds = r.bonds; figure = r.figure }) (zone_of q) m.weights m.outputs scratch
    asked xs reach scratch l =
        let L = slices_are run say.slices in
        let w = L.weights in
        record {
          ok = chain_passes s (rank_ok s r.bonds) say.shape;
          zone = say.order.inside;
          reach = reach;
          ranks = ranks_pass s r.bonds say.shape (zone_of q);
          points = omega (arith, w);
          long = cc (L.chain, L.carries, L.sums);
          room = omega (arith, room, source_long);
        }

  -- a new core
  module _ (z : ℕ) (part : List Float) (n : ℕ) (v : Check) (e : v ≡ replace_ok rules (scratch_lent r.shape behind_part n) run (new_core z part)) (h : v ≡ Ok tt) where
    pub core_asks : SizesWithin r.shape × ((z < r.shape.d) × (length m.source ≡ entries_of r.shape) × (length part ≡ core_size r.shape z) × (length m.source ≤ n))
    core_asks =
        let q = new_core z part in
        (sizes behind_part n q v e h, ((say behind_part n q v e h).order.inside, source_long behind_part n q v e h, eqb_is (length part) (core_size s z) (say behind_part n q v e h).order.fits, room behind_part n q v e h))

    pub core_asked : (scratch : List Float) → length scratch ≡ n → RenewAsks r z m.weights m.outputs scratch
    core_asked scratch l =
        let q = new_core z part in
        let S = shifts_pass q (say behind_part n q v e h).numbers in
        let i = present run.inputs q in
        asked behind_part n q v e h r.axes (λ k a b. each_is Reach (in_reach_at rules i) (s.d - z) z S k a (omega arith)) scratch l

  -- a new axis record
  module _ (z : ℕ) (x : Axis) (n : ℕ) (v : Check) (e : v ≡ replace_ok rules (scratch_lent r.shape slice_count n) run (new_axis z x)) (h : v ≡ Ok tt) where
    pub axis_asks : SizesWithin r.shape × ((z ≤ r.shape.d) × (length m.source ≡ entries_of r.shape) × (length m.source ≤ n))
    axis_asks = let q = new_axis z x in (sizes slice_count n q v e h, (omega (arith, (say slice_count n q v e h).order.inside), source_long slice_count n q v e h, room slice_count n q v e h))

    pub axis_few : z < most_axes
    axis_few = let q = new_axis z x in omega (arith, (say slice_count n q v e h).order.inside, (sizes slice_count n q v e h).axes.most)

    pub axis_asked : (y : Run) → y ≡ axis_run r z x → (scratch : List Float) → length scratch ≡ n → RenewAsks y z m.weights m.outputs scratch
    axis_asked y p scratch l =
        let q = new_axis z x in
        let S = shifts_pass q (say slice_count n q v e h).numbers in
        let i = present run.inputs q in
        subst (λ (t : Run). RenewAsks t z m.weights m.outputs scratch) (sym p)
        (asked slice_count n q v e h (set r.axes z x) (λ k a b. each_is Reach (in_reach_at rules i) (s.d - z) z S k a (omega arith)) scratch l)

-- ---- a fresh run
module _ (s : Shape) (xs : List Axis) (set : Settings) (m : Slices (List Float)) (n : ℕ) where
  abbrev i : Inputs
  i = inputs_of s xs set m

  module _ (v : Check) (e : v ≡ fresh_ok rules (room_lent s (each_output length m.outputs) n) i) (h : v ≡ Ok tt) where
    lengths : (each_output length m.outputs ≡ room_for s) × (entries_of s ≤ n)
    unfolding room_lent
    lengths =
        let P = (passed rules (room_lent s (each_output length m.outputs) n) i (verdict_passed _ v e h)).1 in
        let o = then_is _ _ tt P in
        let l = lent_is 2 _ _ refl o.0 in
        (cc, scratch_is s slice_count n o.1)

    pub fresh_asks : SizesWithin s × ((0 ≤ s.d) × (length m.source ≡ entries_of s) × (length m.source ≤ n))
    fresh_asks =
        let P = (passed rules (room_lent s (each_output length m.outputs) n) i (verdict_passed _ v e h)).0 in
        let l = (inputs_are i P.lent).source in
        ((shaped s (λ (k : ℕ). true) P.shape).sizes, (omega arith, l, omega (arith, lengths.1)))

    pub fresh_asked : (r : Run) → r ≡ blank_run s xs set → (scratch : List Float) → length scratch ≡ n → RenewAsks r 0 m.weights m.outputs scratch
    fresh_asked r j scratch l =
        let P = (passed rules (room_lent s (each_output length m.outputs) n) i (verdict_passed _ v e h)).0 in
        let w = (inputs_are i P.lent).weights in
        subst (λ (t : Run). RenewAsks t 0 m.weights m.outputs scratch) (sym j) (record {
          ok = P.shape;
          zone = (shaped s (λ (k : ℕ). true) P.shape).least;
          reach = λ k a b. P.reach k b;
          ranks = λ k a b. let y : ⊥ = omega arith in absurd y;
          points = omega (arith, w);
          long = lengths.0;
          room = omega (arith, lengths.1);
        })

-- The step from zone z on of sources that stand in the work is the run's own, and the ranks that it leaves lie in 1 to their source's. Assumes nothing.
use mathlib.Core.Path.{◌≡◌, refl, sym, ap, ◌∙◌}
use Prim.Native.Nat.{ℕ, zero, suc, ◌-◌, ◌*◌, ◌≤◌, ◌<◌}
use native.Mathlib.Nat.{le_refl}
use native.Mathlib.Omega.{arith}
use mathlib.Core.Bool.{true}
use mathlib.Core.List.{List, [], map}
use lib.ListN.{length, take, drop, length-map}
use lib.Seq.{take-take}
use lib.Ieee.{Float}
use Rattle.std.specs.Prelude.{Ok, Err}
use Rattle.answers.specs.Outcome.{Answer, bind, outcome_of}
use Rattle.answers.proofs.Outcomes.{bind_assoc}
use Rattle.lists.specs.Lists.{listed}
use Rattle.lists.specs.Slots.{offset, slot}
use Rattle.lists.proofs.Tables.{listed_same}
use Rattle.shape.specs.declared.Shape.{Shape}
use Rattle.shape.specs.Limits.{most_axes}
use Rattle.shape.specs.Shapes.{left_of, right_of, core_size}
use Rattle.shape.specs.Cores.{core_with, core_at, standing, reshaped}
use Rattle.shape.proofs.Shaped.{Shaped, shaped}
use Rattle.shape.proofs.Insides.{inside_itself}
use Rattle.stepform.specs.declared.Axis.{Axis}
use Rattle.stepform.specs.Axes.{axis_at}
use Rattle.cutform.specs.Rounding.{Carry, some, Cut, cores_in}
use Rattle.std.specs.Result.{IfOk}
use Rattle.cuts.specs.declared.Walked.{Walked}
use Rattle.cutform.specs.Keeping.{Stepped, carry_size, rank_at, keep_step, carry_left}
use Rattle.cuts.specs.Slots.{AtZone, held_by, rank_left}
use Rattle.stepform.specs.declared.Settings.{Settings}
use Rattle.stepform.specs.Zones.{Zone, zone, rules}
use Rattle.stepform.specs.Steps.{step_from}
use Rattle.stepform.specs.Call.{axis_reaches}
use Rattle.checks.specs.Over.{zone_in, Stands, Rooms}
use Rattle.steps.specs.Held.{step_held}
use Rattle.runform.specs.Kept.{Inputs, zone_at, zones_from, carry_at}
use Rattle.runform.specs.Work.{restep}
use Rattle.runform.proofs.Before.{bond_count, Roomy}
use Rattle.run_work.specs.InPlace.{in_place, RanksWithin, Steps}
use Rattle.run_work.proofs.Ranks.{ranks_after}

-- ---- the bridge from the run's step to the one in place
module _ (s : Shape) (shp : Shaped s) where
  core_stands : (l : List Float) (k : ℕ) → standing s s l k ≡ core_at s l k
  unfolding standing core_at slot
  core_stands l k = ap (core_with (left_of s k) _ (right_of s k)) (take-take (core_size s k) (core_size s k) (drop (offset (core_size s) k) l) (le_refl (core_size s k)))

  carry_left_lem : (h : Stepped) (z : ℕ) → z < s.d → carry_left s s h z ≡ carry_at s h z
  unfolding carry_left carry_at
  carry_left_lem h zero l = refl
  carry_left_lem h (suc k) l = ap (λ (n : ℕ). some (rank_at h k) (take (rank_at h k * n) (slot (carry_size s) k h.carries))) (sym (shp.joins k l))

  module _ (xs : List Axis) (set : Settings) (weights : List Float) (h : Stepped) (z : ℕ) (l : z < s.d) where
    abbrev i : Inputs
    i = in_place s xs set h.chain weights

    zones_stand : listed (s.d - z) z (zone_in s s xs h.chain) ≡ zones_from i z
    unfolding zone_at
    zones_stand = listed_same (s.d - z) z (zone_in s s xs h.chain) (zone_at i) (λ j a b. ap (λ c. zone c (axis_at xs j)) (core_stands h.chain j))

    held_restep : bind (step_held set s z xs s h) (λ x. Ok x.1) ≡ restep rules i h z
    unfolding step_held restep
    held_restep =
        let T : Carry → List Zone → Answer (List (Carry × Cut)) = λ c zs. step_from rules set s.d z c zs in
        bind_assoc (T (carry_left s s h z) (listed (s.d - z) z (zone_in s s xs h.chain))) (λ tr. Ok (reshaped z s (cores_in tr), keep_step s z tr h)) (λ x. Ok x.1)
        ∙ ap (λ (c : Carry). bind (T c (listed (s.d - z) z (zone_in s s xs h.chain))) (λ tr. Ok (keep_step s z tr h))) (carry_left_lem h z l)
        ∙ ap (λ (zs : List Zone). bind (T (carry_at s h z) zs) (λ tr. Ok (keep_step s z tr h))) zones_stand

    second : {D : Type 0} (o : Answer D) (f : D → Shape × Stepped) → bind (outcome_of o f) (λ x. Ok x.1) ≡ outcome_of o (λ x. (f x).1)
    unfolding outcome_of
    second (Ok x) f = refl
    second (Err q) f = refl

    pub restep_is : {D : Type 0} (o : Answer D) (f : D → Shape × Stepped) → step_held set s z xs s h ≡ outcome_of o f → restep rules i h z ≡ outcome_of o (λ x. (f x).1)
    restep_is o f e = sym held_restep ∙ ap (λ (y : Answer (Shape × Stepped)). bind y (λ x. Ok x.1)) e ∙ second o f

-- a list has as many places as what is made of it place by place: so an array of records has those of its memory
pub mapped_long : (X Y : Type 0) (f : X → Y) (l : List X) (n : ℕ) → length (map f l) ≡ n → length l ≡ n
mapped_long X Y f l n e = sym (length-map l f) ∙ e

-- ---- what it asks, and what it leaves
module _ (z : ℕ) (w : Walked) (set : Settings) (xs : List Axis) (work carries : List Float) (S : Steps z w set xs work carries)
    (lefts : length w.shape.left ≡ most_axes) (rights : length w.shape.right ≡ most_axes) (bonds : length w.bonds ≡ most_axes) where
  shp : Shaped w.shape
  shp = shaped w.shape (λ (k : ℕ). true) S.ok

  abbrev held : Stepped
  held = held_by w work carries

  left_rank_lem : (y : ℕ) → y ≡ z → (1 ≤ rank_left y w.shape w.bonds) × (rank_left y w.shape w.bonds ≤ left_of w.shape y)
  unfolding rank_left
  left_rank_lem zero e = (omega (arith, shp.first), le_refl (left_of w.shape 0))
  left_rank_lem (suc k) e = let b : suc k < w.shape.d = omega (arith, S.zone) in let r = S.ranks k (omega arith) b in (r.0, omega (arith, r.1, shp.joins k b))

  at_zone : AtZone w.shape z z w.shape held
  at_zone = record {
    source = shp.joins;
    sizes = shp.sizes;
    axes = refl;
    points = refl;
    left = λ j l. le_refl (left_of w.shape j);
    right = λ j l. le_refl (right_of w.shape j);
    joins = λ j a l. shp.joins j l;
    first = shp.first;
    last = shp.last;
    rank = λ l. left_rank_lem z refl;
    behind = λ o j l. let n : ⊥ = omega arith in absurd n;
    seam = λ o j l m. let n : ⊥ = omega arith in absurd n;
    lefts = lefts;
    rights = rights;
    bonds = bonds;
    chain = S.cores;
    carries = S.carried;
  }

  pub step_asks : (room block : List Float) → Rooms room block
      → ((Stands w.shape w.shape work) × (Rooms room block)) × (((z ≤ w.shape.d) × ((k : ℕ) → z ≤ k → k < w.shape.d → axis_reaches set w.shape xs k ≡ true)) × (AtZone w.shape z z w.shape held))
  step_asks room block R = ((record { inside = inside_itself w.shape shp; within = shp.sizes; long = S.cores }, R), ((omega (arith, S.zone), S.reach), at_zone))

  roomy : Roomy w.shape held
  roomy = let b = bond_count w.shape shp.least in let m = shp.most in record { bonds = omega arith; chain = S.cores; carries = S.carried }

  pub step_made : (o : Answer Walked) (work' carries' : List Float) → step_held set w.shape z xs w.shape held ≡ outcome_of o (λ (x : Walked). (x.shape, held_by x work' carries'))
      → ((weights : List Float) → restep rules (in_place w.shape xs set work weights) held z ≡ outcome_of o (λ (x : Walked). held_by x work' carries')) × IfOk o (λ (x : Walked). RanksWithin w.shape x.bonds w.shape.d)
  unfolding outcome_of
  step_made o work' carries' e = (R, go o refl)
    where
      R : (weights : List Float) → restep rules (in_place w.shape xs set work weights) held z ≡ outcome_of o (λ (x : Walked). held_by x work' carries')
      R weights = restep_is w.shape shp xs set weights held z S.zone o (λ (x : Walked). (x.shape, held_by x work' carries')) e

      go : (u : Answer Walked) → o ≡ u → IfOk u (λ (x : Walked). RanksWithin w.shape x.bonds w.shape.d)
      go (Ok x) h = ranks_after (in_place w.shape xs set work []) shp held (held_by x work' carries') roomy z S.zone S.ranks (R [] ∙ rw h)
      go (Err q) h = tt

-- The work of a run from zone z on is that of any memory which holds its ranks, the sources from z on, and the carry and the sum left of z: what that leaves from z on, put over the run's own slots. Assumes nothing.
use mathlib.Core.Path.{◌≡◌, refl, sym, ap, ◌∙◌}
use Prim.Native.Nat.{ℕ, zero, suc, ◌+◌, ◌-◌, ◌*◌, ◌≤◌, ◌<◌}
use native.Mathlib.Nat.{add-zero}
use native.Mathlib.Omega.{arith}
use mathlib.Core.List.{List, map}
use lib.ListN.{length, take, length-map}
use lib.Ieee.{Float, nan}
use Rattle.numbers.specs.Arithmetic.{zero64}
use Rattle.std.specs.Prelude.{Ok, Err}
use Rattle.answers.specs.Outcome.{Answer, bind, answered, Check}
use Rattle.answers.proofs.Outcomes.{bind_assoc, bind_cong, bind_ok, ok_inj, err_inj, ok_err}
use Rattle.lists.specs.Slots.{offset, slot, write}
use Rattle.lists.specs.Walks.{walk}
use Rattle.lists.specs.Floats.{at}
use Rattle.lists.proofs.Tables.{listed_length, listed_same}
use Rattle.lists.proofs.Slots.{write_alike}
use Rattle.lists.proofs.Walks.{walk_length}
use Rattle.lists.proofs.Written.{get_or_slot_lem}
use Rattle.shape.specs.declared.Shape.{Shape}
use Rattle.shape.specs.Shapes.{left_of, points_of, right_of, core_size, entries_of}
use Rattle.shape.specs.Cores.{Core, core_with, core_at, points_at}
use Rattle.shape.proofs.Shaped.{Shaped}
use Rattle.cutform.specs.declared.Bond.{Bond}
use Rattle.cutform.specs.Rounding.{Carry, some, Cut, numbers_in}
use Rattle.cutform.specs.Keeping.{Stepped, carry_size, rank_at, keep_step}
use Rattle.sumform.specs.Sums.{sum_size}
use Rattle.stepform.specs.Axes.{axis_at}
use Rattle.stepform.specs.Zones.{zone, rules}
use Rattle.stepform.specs.Steps.{step_from}
use Rattle.stepform.proofs.Restart.{step_length}
use Rattle.run_slices.proofs.Committed.{committed_from}
use Rattle.runform.specs.Kept.{Inputs, Summed, Kept, running, all_carries, all_sums, zone_at, zones_from, left_rank, right_rank, held_core, kept_core, carry_at, sums_at, weighed_at, weighed_from}
use Rattle.runform.specs.Work.{keep_sums, sum_zone, restep, resum, sum_from, work_from}
use Rattle.run_slices.specs.Passing.{Beside, over_from}
use Rattle.run_work.specs.InPlace.{in_place, summed_in, Memory, stepped_over, summed_over}

abbrev Traces : Type 0
Traces = List (Carry × Cut) × List (List Float × Unit {0})

-- what the two walks of the work left
traces : Inputs → Stepped → Summed → ℕ → Answer Traces
traces i h u z =
    bind (step_from rules i.set i.shape.d z (carry_at i.shape h z) (zones_from i z)) (λ tr.
    bind (walk (sum_zone rules) z (sums_at i.shape (keep_step i.shape z tr h) u z) (weighed_from i (keep_step i.shape z tr h) z)) (λ e.
    Ok (tr, e)))

abbrev kept : Inputs → Stepped → Summed → ℕ → Traces → Kept
kept i h u z x = running i (keep_step i.shape z x.0 h) (keep_sums i.shape z x.1 u)

by_traces : (i : Inputs) (h : Stepped) (u : Summed) (z : ℕ) → work_from rules (running i h u) z ≡ bind (traces i h u z) (λ x. Ok (kept i h u z x))
unfolding traces work_from restep sum_from resum
by_traces i h u z =
    let T = step_from rules i.set i.shape.d z (carry_at i.shape h z) (zones_from i z) in
    let H : List (Carry × Cut) → Stepped = λ tr. keep_step i.shape z tr h in
    let W : List (Carry × Cut) → Answer (List (List Float × Unit {0})) = λ tr. walk (sum_zone rules) z (sums_at i.shape (H tr) u z) (weighed_from i (H tr) z) in
    bind_assoc T (λ tr. Ok (H tr)) (λ t. sum_from rules (running i t u) z)
    ∙ bind_cong T (λ tr. sum_from rules (running i (H tr) u) z) (λ tr. bind (bind (W tr) (λ e. Ok (tr, e))) (λ x. Ok (kept i h u z x))) (λ tr _.
    bind_assoc (W tr) (λ e. Ok (keep_sums i.shape z e u)) (λ v. Ok (running i (H tr) v))
    ∙ sym (bind_assoc (W tr) (λ e. Ok (tr, e)) (λ x. Ok (kept i h u z x))))
    ∙ sym (bind_assoc T (λ tr. bind (W tr) (λ e. Ok (tr, e))) (λ x. Ok (kept i h u z x)))

-- what code says of one reading of an answer it says of another
answered_by : {A B C : Type 0} (o : Answer A) (g : A → B) (f : A → C) (v : Check) (y : B) (z : C) → bind o (λ x. Ok (g x)) ≡ answered v y → ((x : A) → o ≡ Ok x → g x ≡ y → f x ≡ z) → bind o (λ x. Ok (f x)) ≡ answered v z
unfolding answered
answered_by (Ok x) g f (Ok _) y z e h = ap Ok (h x refl (ok_inj e))
answered_by (Ok x) g f (Err q) y z e h = absurd (ok_err e)
answered_by (Err r) g f (Ok _) y z e h = absurd (ok_err (sym e))
answered_by (Err r) g f (Err q) y z e h = ap Err (err_inj e)

-- a run by its parts
run_same : {i : Inputs} {a a' : List Bond} {d d' e e' f f' : List Float} {g g' : Float} → a ≡ a' → d ≡ d' → e ≡ e' → f ≡ f' → g ≡ g'
    → running i (record { bonds = a; chain = d; carries = e }) (record { sums = f; figure = g })
    ≡ running i (record { bonds = a'; chain = d'; carries = e' }) (record { sums = f'; figure = g' })
run_same p s t u v = cc

-- ---- the run that a call works for, and the memory that it works in
module _ (i : Inputs) (shp : Shaped i.shape) (h : Stepped) (u : Summed) (z : ℕ) (inside : z < i.shape.d) (work carries sums : List Float) (M : Memory i h u z work carries sums) where
  abbrev s : Shape
  s = i.shape

  abbrev i' : Inputs
  i' = in_place i.shape i.axes i.set work i.weights

  abbrev h' : Stepped
  h' = record { bonds = h.bonds; chain = work; carries = carries }

  abbrev u' : Summed
  u' = summed_in i.shape sums

  -- ---- the same walks
  zones_same : zones_from i z ≡ zones_from i' z
  unfolding zone_at core_at
  zones_same = listed_same (s.d - z) z (zone_at i) (zone_at i') (λ j a b. ap (λ (l : List Float). zone (core_with (left_of s j) (points_of s j) (right_of s j) l) (axis_at i.axes j)) (sym (M.sources j a (omega arith))))

  carry_same : (y : ℕ) → Beside (carry_size i.shape) y h.carries carries → carry_at i.shape h y ≡ carry_at i.shape h' y
  unfolding carry_at
  carry_same zero b = refl
  carry_same (suc k) b = ap (λ (l : List Float). some (rank_at h k) (take (rank_at h k * right_of s k) l)) (sym b)

  step_same : step_from rules i.set i.shape.d z (carry_at i.shape h z) (zones_from i z) ≡ step_from rules i.set i.shape.d z (carry_at i.shape h' z) (zones_from i' z)
  step_same = ap (λ (c : Carry). step_from rules i.set s.d z c (zones_from i z)) (carry_same z M.carry) ∙ ap (step_from rules i.set s.d z (carry_at s h' z)) zones_same

  module _ (tr : List (Carry × Cut)) (whole : z + length tr ≡ i.shape.d) where
    abbrev new : Stepped
    new = keep_step i.shape z tr h

    abbrev new' : Stepped
    new' = keep_step i.shape z tr h'

    sums_start : (y : ℕ) → Beside (sum_size i.shape) y u.sums sums → sums_at i.shape new u y ≡ sums_at i.shape new' u' y
    unfolding sums_at keep_step
    sums_start zero b = refl
    sums_start (suc k) b = ap (take (right_rank s new k)) (sym b)

    left_same : (k : ℕ) → left_rank new k ≡ left_rank new' k
    unfolding keep_step
    left_same zero = refl
    left_same (suc k) = refl

    core_same : (k : ℕ) → z ≤ k → k < i.shape.d → kept_core i.shape new k ≡ kept_core i.shape new' k
    unfolding held_core keep_step
    core_same k ge lt =
        let f : Carry × Cut → List Float = λ x. x.1.core.entries in
        let n = points_of s k in
        let r = right_rank s new k in
        let c = M.chain_long in
        ap (λ (l : ℕ). core_with l n r (take (l * n * r) (slot (core_size s) k new.chain))) (left_same k)
        ∙ ap (λ (l : List Float). core_with (left_rank new' k) n r (take (left_rank new' k * n * r) l))
        (write_alike (core_size s) zero64 s.d z (map f tr) (ap (λ (m : ℕ). z + m) (length-map tr f) ∙ whole) h.chain work (omega arith) M.cores k ge lt)

    pairs_same : weighed_from i new z ≡ weighed_from i' new' z
    unfolding weighed_at
    pairs_same = listed_same (s.d - z) z (weighed_at i new) (weighed_at i' new') (λ j a b. ap (λ (c : Core). (c, points_at s i.weights j)) (core_same j a (omega arith)))

  traced : (tr : List (Carry × Cut)) → step_from rules i.set i.shape.d z (carry_at i.shape h z) (zones_from i z) ≡ Ok tr → z + length tr ≡ i.shape.d
  traced tr e = let n : length tr ≡ s.d - z = step_length rules i.set s.d z (carry_at s h z) (zones_from i z) tr e ∙ listed_length (s.d - z) z (zone_at i) in omega arith

  traces_same : traces i h u z ≡ traces i' h' u' z
  unfolding traces
  traces_same =
      let W : Inputs → Stepped → Summed → List (Carry × Cut) → Answer Traces = λ j t v tr. bind (walk (sum_zone rules) z (sums_at s t v z) (weighed_from j t z)) (λ e. Ok (tr, e)) in
      bind_cong (step_from rules i.set s.d z (carry_at s h z) (zones_from i z)) (λ tr. W i (keep_step s z tr h) u tr) (λ tr. W i' (keep_step s z tr h') u' tr) (λ tr o.
      let n = traced tr o in
      ap (λ (e : List Float). bind (walk (sum_zone rules) z e (weighed_from i (keep_step s z tr h) z)) (λ e. Ok (tr, e))) (sums_start tr n z M.sum)
      ∙ ap (λ (ps : List (Core × List Float)). bind (walk (sum_zone rules) z (sums_at s (keep_step s z tr h') u' z) ps) (λ e. Ok (tr, e))) (pairs_same tr n))
      ∙ ap (λ (o : Answer (List (Carry × Cut))). bind o (λ tr. W i' (keep_step s z tr h') u' tr)) step_same

  -- ---- what they leave
  lengths : (x : Traces) → traces i h u z ≡ Ok x → (z + length x.0 ≡ i.shape.d) × (z + length x.1 ≡ i.shape.d)
  unfolding traces
  lengths x e =
      let T = step_from rules i.set s.d z (carry_at s h z) (zones_from i z) in
      let W : List (Carry × Cut) → Answer (List (List Float × Unit {0})) = λ tr. walk (sum_zone rules) z (sums_at s (keep_step s z tr h) u z) (weighed_from i (keep_step s z tr h) z) in
      let A = bind_ok T (λ tr. bind (W tr) (λ e. Ok (tr, e))) x e in
      let B = bind_ok (W A.0) (λ e. Ok (A.0, e)) x A.2 in
      let n : length B.0 ≡ s.d - z = walk_length (sum_zone rules) z (sums_at s (keep_step s z A.0 h) u z) (weighed_from i (keep_step s z A.0 h) z) B.0 B.1 ∙ listed_length (s.d - z) z (weighed_at i (keep_step s z A.0 h)) in
      let p = ok_inj B.2 in
      (ap (λ (y : Traces). z + length y.0) (sym p) ∙ traced A.0 A.1, ap (λ (y : Traces). z + length y.1) (sym p) ∙ omega arith)

  -- the figure stands first in the last slot
  figure_in : (l : List Float) → at l (offset (sum_size i.shape) (i.shape.d - 1)) ≡ at (slot (sum_size i.shape) (i.shape.d - 1) l) 0
  unfolding sum_size
  figure_in l =
      let one = shp.least in
      ap (at l) (sym (add-zero (offset (sum_size s) (s.d - 1)))) ∙ sym (get_or_slot_lem (sum_size s) (s.d - 1) l 0 nan (shp.right (s.d - 1) (omega arith)))

  figure_same : (q : List (List Float))
      → z + length q ≡ i.shape.d
      → at (write (sum_size i.shape) zero64 i.shape.d z q u.sums) (offset (sum_size i.shape) (i.shape.d - 1))
      ≡ at (write (sum_size i.shape) zero64 i.shape.d z q sums) (offset (sum_size i.shape) (i.shape.d - 1))
  figure_same q n =
      let one = shp.least in
      let l = M.sums_long in
      figure_in (write (sum_size s) zero64 s.d z q u.sums)
      ∙ ap (λ (x : List Float). at x 0) (write_alike (sum_size s) zero64 s.d z q n u.sums sums (omega arith) M.summed (s.d - 1) (omega arith) (omega arith))
      ∙ sym (figure_in (write (sum_size s) zero64 s.d z q sums))

  -- THE WORK OF THE RUN, by what the memory holds at the end
  module _ (t : Stepped) (sums' : List Float) (a b c : ℕ) (core_at_lem : a ≡ offset (core_size i.shape) z) (carry-at : b ≡ offset (carry_size i.shape) z) (sum_at : c ≡ offset (sum_size i.shape) z) where
    abbrev end : Kept
    end = running i (stepped_over a b h t) (summed_over i.shape c u.sums sums')

    ends : (x : Traces) → traces i' h' u' z ≡ Ok x → kept i' h' u' z x ≡ running i' t (summed_in i.shape sums') → kept i h u z x ≡ end
    unfolding keep_step keep_sums
    ends x o g =
        let n = lengths x (traces_same ∙ o) in
        let p : keep_step s z x.0 h' ≡ t = ap (λ (k : Kept). k.stepped) g in
        let q : (keep_sums s z x.1 u').sums ≡ sums' = ap (λ (k : Kept). k.summed.sums) g in
        let f : Carry × Cut → List Float = λ r. r.1.core.entries in
        let m : Carry × Cut → List Float = λ r. numbers_in r.0 in
        let e : List Float × Unit {0} → List Float = λ r. r.0 in
        let nf : z + length (map f x.0) ≡ s.d = ap (λ (j : ℕ). z + j) (length-map x.0 f) ∙ n.0 in
        let nm : z + length (map m x.0) ≡ s.d = ap (λ (j : ℕ). z + j) (length-map x.0 m) ∙ n.0 in
        let ne : z + length (map e x.1) ≡ s.d = ap (λ (j : ℕ). z + j) (length-map x.1 e) ∙ n.1 in
        let bonds : (new x.0 n.0).bonds ≡ t.bonds = ap (λ (y : Stepped). y.bonds) p in
        let chain : (new x.0 n.0).chain ≡ over_from a h.chain t.chain =
        sym (committed_from (core_size s) z a core_at_lem zero64 s.d (map f x.0) nf h.chain work t.chain M.chain_long M.cores (ap (λ (y : Stepped). take (entries_of s) y.chain) (sym p))) in
        let held : (new x.0 n.0).carries ≡ over_from b h.carries t.carries =
        sym (committed_from (carry_size s) z b carry-at zero64 s.d (map m x.0) nm h.carries carries t.carries M.carries_long M.carried (ap (λ (y : Stepped). take (all_carries s) y.carries) (sym p))) in
        let summed : (keep_sums s z x.1 u).sums ≡ over_from c u.sums sums' =
        sym (committed_from (sum_size s) z c sum_at zero64 s.d (map e x.1) ne u.sums sums sums' M.sums_long M.summed (ap (take (all_sums s)) (sym q))) in
        let figure : (keep_sums s z x.1 u).figure ≡ at sums' (offset (sum_size s) (s.d - 1)) = figure_same (map e x.1) ne ∙ ap (λ (l : List Float). at l (offset (sum_size s) (s.d - 1))) q in
        run_same bonds chain held summed figure

    pub work_over : (v : Check) → work_from rules (running i' h' u') z ≡ answered v (running i' t (summed_in i.shape sums')) → work_from rules (running i h u) z ≡ answered v end
    work_over v e =
        by_traces i h u z
        ∙ ap (λ (o : Answer Traces). bind o (λ x. Ok (kept i h u z x))) traces_same
        ∙ answered_by (traces i' h' u' z) (kept i' h' u' z) (kept i h u z) v (running i' t (summed_in i.shape sums')) end (sym (by_traces i' h' u' z) ∙ e) ends

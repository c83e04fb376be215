-- The end of new weights by what the sums from their zone on came to. Assumes nothing.
use mathlib.Core.Path.{◌≡◌, sym, ap, ◌∙◌}
use Prim.Native.Nat.{ℕ, ◌-◌, ◌≤◌, ◌<◌}
use native.Mathlib.Omega.{arith}
use mathlib.Core.Bool.{Bool}
use mathlib.Core.List.{List, ◌++◌, map}
use lib.ListN.{length, take, drop, take-append-drop}
use lib.Ieee.{Float}
use Rattle.numbers.specs.Arithmetic.{zero64}
use Rattle.answers.specs.declared.Refusal.{Refusal}
use Rattle.std.specs.Prelude.{Ok, Err}
use Rattle.answers.specs.Outcome.{Answer, bind, answered, Check}
use Rattle.answers.proofs.Outcomes.{bind_assoc, bind_ok, ok_inj}
use Rattle.lists.specs.Lists.{pick, listed}
use Rattle.lists.specs.Slots.{offset, put}
use Rattle.lists.specs.Walks.{walk}
use Rattle.lists.specs.Floats.{at, zeros}
use Rattle.lists.proofs.Slots.{offset_mono, write_before}
use Rattle.shape.specs.declared.Shape.{Shape}
use Rattle.shape.specs.Shapes.{left_of, point_size}
use Rattle.sumform.specs.Product.{sum_axis}
use Rattle.cutform.specs.Call.{scratch_after}
use Rattle.sumform.specs.Sums.{sum_size, sums_left, weighed_in, sums_from}
use Rattle.stepform.specs.Zones.{rules}
use Rattle.run_work.specs.Ranked.{Ranked}
use Rattle.runform.specs.declared.Run.{Run}
use Rattle.runform.specs.declared.Ran.{Ran}
use Rattle.runform.specs.Slices.{slices}
use Rattle.runform.specs.Kept.{Summed, Kept, running, kept_of}
use Rattle.runform.specs.Work.{sum_from}
use Rattle.runform.specs.Requests.{new_weights, present}
use Rattle.runform.specs.Call.{RunEnd, run_end}
use Rattle.runform.proofs.Late.{late_sums}
use Rattle.run_work.proofs.Resums.{resum_is}
use Rattle.run_work.specs.Weights.{weights_end}

module _ (s t : Shape) (work weights : List Float) (z : ℕ) (sums : List Float) where
  -- what stands before zone z is as it was
  pub sums_before : (p : List Float) → sums_from s t work weights z sums ≡ Ok p → z ≤ s.d → offset (sum_size s) s.d ≤ length sums → take (offset (sum_size s) z) p ≡ take (offset (sum_size s) z) sums
  unfolding sums_from
  sums_before p e l h =
      let b = bind_ok (walk sum_axis z (sums_left s (left_of t z) sums z) (listed (s.d - z) z (weighed_in s t work weights))) _ p e in
      let rows = map (λ (r : List Float × Unit {0}). r.0) b.0 in
      ap (take (offset (sum_size s) z)) (sym (ok_inj b.2))
      ∙ write_before (sum_size s) zero64 s.d z rows sums (omega (arith, offset_mono (sum_size s) z s.d l))

-- ---- the sums that a run has at its end
abbrev summed_as : Shape → List Float → Summed
summed_as s l = record { sums = l; figure = at l (offset (sum_size s) (s.d - 1)) }

sum_from_is : (k : Kept) (t : Shape) → Ranked k.inputs.shape k.stepped.bonds t k.inputs.shape.d → (z : ℕ) → z < k.inputs.shape.d
    → sum_from rules k z ≡ bind (sums_from k.inputs.shape t k.stepped.chain k.inputs.weights z k.summed.sums) (λ l. Ok (running k.inputs k.stepped (summed_as k.inputs.shape l)))
unfolding sum_from
sum_from_is k t R z lt =
    let S = sums_from k.inputs.shape t k.stepped.chain k.inputs.weights z k.summed.sums in
    ap (λ (o : Answer Summed). bind o (λ u. Ok (running k.inputs k.stepped u))) (resum_is k.inputs k.stepped t R k.summed z lt)
    ∙ bind_assoc S (λ l. Ok (summed_as k.inputs.shape l)) (λ u. Ok (running k.inputs k.stepped u))

module _ (r : Run) (z : ℕ) (weights chain sums part : List Float) (t : Shape) (R : Ranked r.shape r.bonds t r.shape.d) (lt : z < r.shape.d) (v : Check) (p : List Float)
    (e : sums_from r.shape t chain (put (point_size r.shape) z part weights) z sums ≡ answered v p) (source carries scratch : List Float) where
  abbrev before : Kept
  before = kept_of r (slices source weights chain carries sums)

  abbrev anew : Kept
  anew = running (present before.inputs (new_weights z part)) before.stepped before.summed

  abbrev end : RunEnd
  end = weights_end r z (slices source weights chain carries sums) part scratch

  summed : sum_from rules anew z ≡ bind (answered v p) (λ l. Ok (running anew.inputs anew.stepped (summed_as r.shape l)))
  summed = sum_from_is anew t R z lt ∙ ap (λ (o : Answer (List Float)). bind o (λ l. Ok (running anew.inputs anew.stepped (summed_as r.shape l)))) e

  opened : end ≡ run_end before scratch (bind (answered v p) (λ l. Ok (running anew.inputs anew.stepped (summed_as r.shape l))))
  unfolding weights_end
  opened = ap (run_end before scratch) summed

  pub resum_stops : (q : Refusal) → v ≡ Err q → (a : Ran) → a ≡ record { verdict = Err q; run = r }
      → record { result = a; slices = slices source weights chain carries sums; scratch = zeros (length scratch) } ≡ end
  unfolding run_end scratch_after answered pick
  resum_stops q h a f =
      let o : sum_from rules anew z ≡ Err q = summed ∙ ap (λ (w : Check). bind (answered w p) (λ l. Ok (running anew.inputs anew.stepped (summed_as r.shape l)))) h in
      let b = late_sums anew z q o in
      ap (λ (x : Ran). record { result = x; slices = slices source weights chain carries sums; scratch = zeros (length scratch) }) f
      ∙ sym
      (opened
      ∙ ap (λ (w : Check). run_end before scratch (bind (answered w p) (λ l. Ok (running anew.inputs anew.stepped (summed_as r.shape l))))) h
      ∙ ap (λ (y : Bool). record { result = record { verdict = Err q; run = r }; slices = slices source weights chain carries sums; scratch = pick y scratch (zeros (length scratch)) }) b)

  -- x and y are the weights and the sums at the end, and f is the figure
  pub resum_ends : v ≡ Ok tt → offset (sum_size r.shape) r.shape.d ≤ length sums → (x y : List Float) (f : Float) (a : Ran)
      → x ≡ put (point_size r.shape) z part weights → y ≡ take (offset (sum_size r.shape) z) sums ++ drop (offset (sum_size r.shape) z) p → f ≡ at y (offset (sum_size r.shape) (r.shape.d - 1))
      → a ≡ record { verdict = Ok tt; run = record { shape = r.shape; axes = r.axes; set = r.set; bonds = r.bonds; figure = f } }
      → record { result = a; slices = slices source x chain carries y; scratch = zeros (length scratch) } ≡ end
  unfolding run_end scratch_after answered
  resum_ends h held x y f a g i j l =
      let o : sums_from r.shape t chain (put (point_size r.shape) z part weights) z sums ≡ Ok p = e ∙ ap (λ (w : Check). answered w p) h in
      let n = offset (sum_size r.shape) z in
      let b : y ≡ p = i ∙ ap (λ (u : List Float). u ++ drop n p) (sym (sums_before r.shape t chain (put (point_size r.shape) z part weights) z sums p o (omega arith) held)) ∙ take-append-drop n p in
      rw (l, j, g, b) (sym (opened ∙ ap (λ (w : Check). run_end before scratch (bind (answered w p) (λ l. Ok (running anew.inputs anew.stepped (summed_as r.shape l))))) h))

-- Calls that are lent other slices than a run's own. Err, they leave the run; of wrong lengths, they are refused. Assumes nothing of the rules.
use mathlib.Core.Path.{◌≡◌, refl, ap, ◌∙◌}
use Prim.Native.Nat.{ℕ, ◌+◌}
use native.Mathlib.Omega.{arith}
use mathlib.Core.List.{List}
use lib.Ieee.{Float}
use Rattle.answers.specs.declared.Refusal.{Refusal}
use Rattle.answers.specs.declared.Refusal.TheVariants.{Length}
use Rattle.std.specs.Prelude.{Err}
use Rattle.answers.specs.Outcome.{Check}
use Rattle.stepform.specs.Zones.{Rules}
use Rattle.runform.specs.Slices.{Slices}
use Rattle.runform.specs.Kept.{Kept, lengths_for, lengths_of}
use Rattle.runform.specs.Checks.{slices_lent}
use Rattle.runform.specs.Requests.{Request}
use Rattle.runform.specs.Sequence.{kept_after, Slice, own, other, Asked, lent_for, held_after, found, returned, end_of, kept_after_call}
use Rattle.runform.specs.OnePage.{FirstWrong}
use Rattle.runform.proofs.Accepted.{Accepted}
use Rattle.runform.proofs.InRow.{lent_is, lent_wrong}
use Rattle.runform.proofs.Untouched.{refused_leaves}

-- ---- what is not written
held_same : (l : List Float) (m : Slice) → held_after l m (lent_for l m) ≡ l
held_same l own = refl
held_same l (other x) = refl

pub returned_same : (k : Kept) (m : Slices Slice) → returned k m (found k m) ≡ k
returned_same k m =
    let o = m.outputs in
    rw (held_same k.inputs.source m.source, held_same k.inputs.weights m.weights, held_same k.stepped.chain o.chain, held_same k.stepped.carries o.carries, held_same k.summed.sums o.sums)

-- a refused call leaves what it was lent, and the run
pub refused_call : (R : Rules) (k : Kept) (c : Asked) (r : Refusal) → (end_of R k c).result.verdict ≡ Err r
    → (kept_after (end_of R k c) ≡ found k c.slices) × (kept_after_call R k c ≡ k)
refused_call R k c r e =
    let left = refused_leaves R (found k c.slices) c.request c.scratch r e in
    (left, ap (returned k c.slices) left ∙ returned_same k c.slices)

-- ---- lengths
-- an accepted call was lent the right ones
pub accepted_lengths : (R : Rules) (room : Check) (k : Kept) (q : Request) → Accepted R room k q → lengths_of k ≡ lengths_for k.inputs.shape
accepted_lengths R room k q A = lent_is 0 _ _ refl A.slices

-- 5 at the first wrong one
pub wrong_length : (k : Kept) (j : ℕ) → FirstWrong j (lengths_of k) (lengths_for k.inputs.shape) → slices_lent k.inputs.shape (lengths_of k) ≡ Err (Length j)
wrong_length k j F = let e : 0 + j ≡ j = omega arith in lent_wrong 0 j _ _ refl F.before F.wrong ∙ ap (λ (m : ℕ). Err (Length m)) e

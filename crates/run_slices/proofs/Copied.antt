-- A part of a list that was lent to a copy and came back as p, and a copy up to the end. Assumes nothing.
use mathlib.Core.Path.{◌≡◌, ap, ◌∙◌}
use Prim.Native.Nat.{ℕ, ◌+◌, ◌-◌, ◌≤◌}
use native.Mathlib.Nat.{le_refl}
use native.Mathlib.Omega.{arith}
use mathlib.Core.List.{List, ◌++◌, append-nil}
use lib.ListN.{length, take, drop, drop_of_length-le}
use lib.Seq.{drop-drop}
use lib.Ieee.{Float}
use Rattle.lists.proofs.Slots.{take_drop}
use Rattle.run_slices.specs.Passing.{over_from, over_between}

module _ (at : ℕ) (to p : List Float) where
  -- the part from at up to n, with x for what it was
  put_up_to : (n : ℕ) (x : List Float) → at ≤ n → p ≡ x → take at to ++ (p ++ drop (n - at) (drop at to)) ≡ take at to ++ (x ++ drop n to)
  put_up_to n x h e =
      let a : at + (n - at) ≡ n = omega arith in
      ap (λ (y : List Float). take at to ++ (y ++ drop (n - at) (drop at to))) e
      ∙ ap (λ (y : List Float). take at to ++ (x ++ y)) (drop-drop (n - at) at to ∙ ap (λ (m : ℕ). drop m to) a)

  pub copied_between : (end : ℕ) (from : List Float) → at ≤ end → p ≡ take (end - at) (drop at from) → take at to ++ (p ++ drop (end - at) (drop at to)) ≡ over_between at end to from
  copied_between end from h e = put_up_to end (take (end - at) (drop at from)) h e

  pub put_part : (part : List Float) → p ≡ part → take at to ++ (p ++ drop (at + length part - at) (drop at to)) ≡ take at to ++ (part ++ drop (at + length part) to)
  put_part part e = put_up_to (at + length part) part (omega arith) e

pub copied_from : (at : ℕ) (to from to' : List Float) → at ≤ length to → to' ≡ over_between at (length to) to from → to' ≡ over_from at to from
copied_from at to from to' h e =
    let a : at + (length to - at) ≡ length to = omega arith in
    let x = take (length to - at) (drop at from) in
    e
    ∙ ap (λ (y : List Float). take at to ++ (x ++ y)) (drop_of_length-le to {i = length to} (le_refl (length to)))
    ∙ ap (λ (y : List Float). take at to ++ y) (append-nil x ∙ take_drop at (length to - at) from ∙ ap (λ (n : ℕ). drop at (take n from)) a)

-- The chain taken into scratch, where its steps are made. Assumes nothing.
use Rattle.std.specs.Prelude.{Ok}
use mathlib.Core.Path.{◌≡◌, sym, ap, ◌∙◌, subst}
use Prim.Native.Nat.{ℕ}
use native.Mathlib.Omega.{arith}
use mathlib.Core.Bool.{true}
use mathlib.Core.List.{List, ◌++◌}
use lib.ListN.{length, take, drop, length-append}
use lib.Seq.{take_at, take-take, take-length}
use lib.Ieee.{Float}
use Rattle.answers.specs.Outcome.{Answer}
use Rattle.lists.specs.Lists.{tab}
use Rattle.lists.specs.Slots.{offset, slot}
use Rattle.lists.proofs.Tables.{listed_same}
use Rattle.lists.proofs.Slots.{slot_before}
use Rattle.shape.specs.declared.Shape.{Shape}
use Rattle.shape.specs.Limits.{most_axes}
use Rattle.shape.specs.Shapes.{left_of, points_of, right_of, chain_ok, core_size, entries_of}
use Rattle.shape.specs.Cores.{Core, core_with, core_at, cores_of, standing}
use Rattle.cutform.specs.Rounding.{After}
use Rattle.cuts.specs.declared.Walked.{Walked}
use Rattle.steps.specs.Held.{Came, Placed}
use Rattle.shape.proofs.Shaped.{shaped}
use Rattle.shape.proofs.Insides.{inside_itself}

-- a chain stands in its own room
stand_own : (s : Shape) (w : List Float) (k : ℕ) → standing s s w k ≡ core_at s w k
unfolding standing core_at slot
stand_own s w k = ap (core_with (left_of s k) (points_of s k) (right_of s k)) (take-take (core_size s k) (core_size s k) (drop (offset (core_size s) k) w) (omega arith))

-- x is the chain l, copied to the front
pub taken_over : (s : Shape) (l x r : List Float) → x ≡ l → length l ≡ entries_of s → tab s.d (standing s s (x ++ r)) ≡ cores_of s l
unfolding cores_of core_at
taken_over s l x r e n =
    listed_same s.d 0 (standing s s (x ++ r)) (core_at s l) (λ k a b.
    stand_own s (x ++ r) k
    ∙ ap (core_with (left_of s k) (points_of s k) (right_of s k))
    (slot_before (core_size s) k s.d (x ++ r) l (omega arith)
    (ap (λ (y : List Float). take (entries_of s) (y ++ r)) e ∙ take_at l r (entries_of s) n ∙ sym (take_all l (entries_of s) n))))
  where
    take_all : (l : List Float) (m : ℕ) → length l ≡ m → take m l ≡ l
    take_all l m n = ap (λ (i : ℕ). take i l) (sym n) ∙ take-length l

-- ---- the steps over the chain in scratch
pub placed_own : (s : Shape) (l x r : List Float) → chain_ok s ≡ Ok tt → x ≡ l → length l ≡ entries_of s → length s.left ≡ most_axes → length s.right ≡ most_axes → Placed s s (x ++ r)
placed_own s l x r ok e n a b = record { inside = inside_itself s (shaped s (λ (k : ℕ). true) ok); lefts = a; rights = b; long = omega (arith, length-append x r, ap length e) }

pub came_own : (T : List Core → Answer After) (s : Shape) (l x r : List Float) → x ≡ l → length l ≡ entries_of s → (o : Answer Walked) (w : List Float)
    → Came (T (tab s.d (standing s s (x ++ r)))) s s o w → Came (T (cores_of s l)) s s o w
came_own T s l x r e n o w C = subst (λ (cs : List Core). Came (T cs) s s o w) (taken_over s l x r e n) C

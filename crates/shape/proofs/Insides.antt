-- A chain that stands in the room of another: each core fits where it stands. Assumes nothing.
use mathlib.Core.Path.{◌≡◌, refl, ap}
use Prim.Native.Nat.{ℕ, ◌*◌, ◌≤◌, ◌<◌}
use native.Mathlib.Nat.{le_refl, le_of_eq, mul-le-mul_left, mul-le-mul_right}
use native.Mathlib.Omega.{arith}
use Rattle.shape.specs.declared.Shape.{Shape}
use Rattle.shape.specs.Shapes.{left_of, points_of, right_of, core_size}
use Rattle.shape.specs.Sizes.{Inside}
use Rattle.shape.proofs.Shaped.{Shaped}
use lib.ListN.{get_or}
use mathlib.Core.List.{List}

pub inside_itself : (s : Shape) → Shaped s → Inside s s
inside_itself s h = record {
  sizes = h.sizes;
  axes = refl;
  points = refl;
  left = λ k l. le_refl _;
  right = λ k l. le_refl _;
  joins = h.joins;
  first = h.first;
  last = h.last;
}

pub inside_size : (s t : Shape) → Inside s t → (k : ℕ) → k < s.d → core_size t k ≤ core_size s k
unfolding core_size
inside_size s t h k l =
    let n : points_of t k ≡ points_of s k = ap (λ (x : List ℕ). get_or x k 0) h.points in
    let a = mul-le-mul_right (points_of t k) (h.left k l) in
    let b = mul-le-mul_left (left_of s k) (le_of_eq n) in
    let m : left_of t k * points_of t k ≤ left_of s k * points_of s k = omega (arith, a, b) in
    let c = mul-le-mul_right (right_of t k) m in
    let e = mul-le-mul_left (left_of s k * points_of s k) (h.right k l) in
    omega (arith, c, e)

-- A core, cores cut out of one list of numbers, and packed again. Definitions only.
use Rattle.std.specs.Prelude.{ℕ, suc, ◌+◌, ◌*◌, List, [], ◌∷◌, map, length, set, take, Float}
use Rattle.numbers.specs.Arithmetic.{zero64}
use Rattle.lists.specs.Lists.{tab, flat, joined, grid}
use Rattle.lists.specs.Slots.{slot, fit}
use Rattle.lists.specs.Floats.{at}
use Rattle.shape.specs.declared.Shape.{Shape}
use Rattle.shape.specs.Shapes.{left_of, points_of, right_of, core_size, point_size}

pub record Core : Type 0 where
  pub rl : ℕ
  pub n : ℕ
  pub rr : ℕ
  pub entries : List Float

-- where entry (il, im, ir) stands among a core's numbers
unfoldable pub place : ℕ → ℕ → ℕ → ℕ → ℕ → ℕ
place n rr il im ir = il * n * rr + im * rr + ir

unfoldable pub entry : Core → ℕ → ℕ → ℕ → Float
entry c il im ir = at c.entries (place c.n c.rr il im ir)

-- the numbers of the core whose entry (il, im, ir) is f il im ir
unfoldable pub block : ℕ → ℕ → ℕ → (ℕ → ℕ → ℕ → Float) → List Float
block rl n rr f = joined rl (λ (il : ℕ). grid n rr (f il))

abbrev pub core_with : ℕ → ℕ → ℕ → List Float → Core
core_with rl n rr l = record { rl = rl; n = n; rr = rr; entries = l }

-- ---- a chain in one list of numbers
unfoldable pub core_at : Shape → List Float → ℕ → Core
core_at s l k = core_with (left_of s k) (points_of s k) (right_of s k) (slot (core_size s) k l)

unfoldable pub cores_of : Shape → List Float → List Core
cores_of s l = tab s.d (core_at s l)

-- core k of shape t, at the front of the room that core k of shape s has: work keeps every core where it began, however small it gets
unfoldable pub standing : Shape → Shape → List Float → ℕ → Core
standing s t l k = core_with (left_of t k) (points_of t k) (right_of t k) (take (core_size t k) (slot (core_size s) k l))

-- the weights, or the vector, of axis k
unfoldable pub points_at : Shape → List Float → ℕ → List Float
points_at s l k = slot (point_size s) k l

abbrev pub packed : List Core → List Float
packed cs = flat (map (λ (c : Core). c.entries) cs)

-- an altered chain: packed at the front of its slice, the rest +0
abbrev pub chain_after : List Float → List Core → List Float
chain_after l cs = fit zero64 (length l) (packed cs)

-- the shape with the ranks of core c at k, and of the cores from k on
abbrev pub with_core : Shape → ℕ → Core → Shape
with_core s k c = record { d = s.d; left = set s.left k c.rl; n = s.n; right = set s.right k c.rr }

unfoldable pub reshaped : ℕ → Shape → List Core → Shape
reshaped k s [] = s
reshaped k s (c ∷ cs) = reshaped (suc k) (with_core s k c) cs

-- A shape: its sizes, where its cores stand in one list of numbers, and refusals 1 to 3. Definitions only.
use Rattle.std.specs.Prelude.{ℕ, suc, ◌*◌, Bool, true, cond, ◌&&◌, ltb, eqb, get_or}
use Rattle.answers.specs.declared.Refusal.TheVariants.{Axes, Size, Ranks}
use Rattle.answers.specs.Outcome.{Check, ◌then◌, demand, demand_each}
use Rattle.lists.specs.Slots.{offset}
use Rattle.shape.specs.declared.Shape.{Shape}
use Rattle.shape.specs.Limits.{most_axes, most_points, most_rank, within}

abbrev pub left_of : Shape → ℕ → ℕ
left_of s k = get_or s.left k 0

abbrev pub points_of : Shape → ℕ → ℕ
points_of s k = get_or s.n k 0

abbrev pub right_of : Shape → ℕ → ℕ
right_of s k = get_or s.right k 0

-- a bond stands right of each core but the last: x there, y at the last
abbrev pub at_bond : {A : Type 0} → Shape → ℕ → A → A → A
at_bond s k x y = cond (ltb (suc k) s.d) x y

-- ---- refusals 1 to 3
unfoldable pub size_ok : Shape → ℕ → Bool
size_ok s k = within most_rank (left_of s k) && (within most_points (points_of s k) && within most_rank (right_of s k))

-- core k's right rank is the next core's left rank; the last core's is 1
unfoldable pub bond_ok : Shape → ℕ → Bool
bond_ok s k = at_bond s k (eqb (right_of s k) (left_of s (suc k))) (eqb (right_of s k) 1)

-- `kept k` is what else is asked of core k's right rank: a kept run asks that of its own
unfoldable pub shape_ok : Shape → (ℕ → Bool) → Check
shape_ok s kept =
    demand (within most_axes s.d) Axes
    then demand_each Size (size_ok s) s.d 0
    then demand (eqb (left_of s 0) 1) (Ranks 0)
    then demand_each Ranks (λ (k : ℕ). bond_ok s k && kept k) s.d 0

abbrev pub chain_ok : Shape → Check
chain_ok s = shape_ok s (λ (k : ℕ). true)

-- ---- how many numbers stand for core k: entries, and points for weights or vectors
unfoldable pub core_size : Shape → ℕ → ℕ
core_size s k = left_of s k * points_of s k * right_of s k

unfoldable pub point_size : Shape → ℕ → ℕ
point_size s k = points_of s k

-- N, and the sum of the n
abbrev pub entries_of : Shape → ℕ
entries_of s = offset (core_size s) s.d

abbrev pub all_points : Shape → ℕ
all_points s = offset (point_size s) s.d

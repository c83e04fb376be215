-- The call of a pair: slices are the left core, the right core, the left output, the right output, scratch. Definitions only.
use Rattle.std.specs.Prelude.{ℕ, ◌*◌, Bool, ◌&&◌, List, leb, eqb, length, Float, Ok, Err}
use Rattle.numbers.specs.Arithmetic.{zero64}
use Rattle.numbers.specs.Finite.{finite}
use Rattle.answers.specs.declared.Refusal.TheVariants.{Size, Ranks, Length, Number, Setting}
use Rattle.answers.specs.Outcome.{Answer, Check, ◌then◌, demand}
use Rattle.lists.specs.Slots.{fit}
use Rattle.lists.specs.Floats.{all_finite}
use Rattle.shape.specs.Limits.{most_points, most_rank, within, most_lines, pair_scratch}
use Rattle.shape.specs.Cores.{Core, core_with}
use Rattle.cutform.specs.Call.{not_below_zero, scratch_after}
use Rattle.pairform.specs.declared.Sizes.{Sizes}
use Rattle.pairform.specs.declared.Paired.{Paired}
use Rattle.pairform.specs.Splits.{Halves, pair_of}

-- a core of these sizes
abbrev pub core_of : Sizes → List Float → Core
core_of s l = core_with s.rl s.n s.rr l

-- the outer ranks needn't be 1
unfoldable pub sizes_ok : Core → Bool
sizes_ok c = within most_rank c.rl && (within most_points c.n && within most_rank c.rr)

unfoldable pub core_numbers : Core → ℕ
core_numbers c = c.rl * c.n * c.rr

-- room for a core of the highest rank
unfoldable pub left_room : Core → ℕ
left_room l = l.rl * l.n * most_rank

unfoldable pub right_room : Core → ℕ
right_room r = most_rank * r.n * r.rr

-- 2 and 3: a slab's rows, its columns, the middle ranks
unfoldable pub pair_sized : Core → Core → Check
pair_sized l r =
    demand (sizes_ok l && leb (l.rl * l.n) most_lines) (Size 0)
    then demand (sizes_ok r && leb (r.n * r.rr) most_lines) (Size 1)
    then demand (eqb l.rr r.rl) (Ranks 0)

-- 5; the outputs and scratch by their lengths alone
unfoldable pub pair_lent : Core → Core → ℕ → ℕ → ℕ → Check
pair_lent l r left_out right_out scratch =
    demand (eqb (length l.entries) (core_numbers l)) (Length 0)
    then demand (eqb (length r.entries) (core_numbers r)) (Length 1)
    then demand (eqb left_out (left_room l)) (Length 2)
    then demand (eqb right_out (right_room r)) (Length 3)
    then demand (eqb scratch pair_scratch) (Length 4)

-- 6 and 7, of both cores' numbers
unfoldable pub pair_finite : Float → List Float → List Float → Check
pair_finite eps left right =
    demand (finite eps && all_finite left) (Number 0)
    then demand (all_finite right) (Number 1)
    then demand (not_below_zero eps) (Setting 0)

unfoldable pub pair_ok : Core → Core → Float → ℕ → ℕ → ℕ → Check
pair_ok l r eps left_out right_out scratch = pair_sized l r then pair_lent l r left_out right_out scratch then pair_finite eps l.entries r.entries

-- what the call answers and leaves: each core packed at the front of its output, the rest +0
pub record PairEnded : Type 0 where
  pub result : Answer Paired
  pub left : List Float
  pub right : List Float
  pub scratch : List Float

unfoldable pub pair_by : List Float → List Float → List Float → Answer Halves → PairEnded
pair_by left_out right_out scratch (Ok h) = record {
  result = Ok (record { rank = h.left.rr; passes = h.passes });
  left = fit zero64 (length left_out) h.left.entries;
  right = fit zero64 (length right_out) h.right.entries;
  scratch = scratch_after scratch (Ok h);
}
pair_by left_out right_out scratch (Err r) = record {
  result = Err r;
  left = left_out;
  right = right_out;
  scratch = scratch_after {A = Halves} scratch (Err r);
}

unfoldable pub pair_call : Core → Core → Float → List Float → List Float → List Float → PairEnded
pair_call l r eps left_out right_out scratch =
    pair_by left_out right_out scratch (pair_ok l r eps (length left_out) (length right_out) (length scratch) then pair_of eps l r)

-- The work from zone z on as memory has it: the sources of the zones from z on stand in the slots that take what is made of them. Definitions for code only.
use Rattle.std.specs.Prelude.{◌≡◌, ℕ, suc, ◌-◌, ◌≤◌, ◌<◌, true, List, length, Float, Ok}
use Rattle.lists.specs.Slots.{offset, slot}
use Rattle.cutform.specs.declared.Bond.{Bond}
use Rattle.run_slices.specs.Passing.{Beside, over_from}
use Rattle.lists.specs.Floats.{at}
use Rattle.shape.specs.declared.Shape.{Shape}
use Rattle.shape.specs.Shapes.{right_of, chain_ok, core_size, entries_of, all_points}
use Rattle.stepform.specs.declared.Axis.{Axis}
use Rattle.cuts.specs.declared.Walked.{Walked}
use Rattle.cutform.specs.Keeping.{rank_among, Stepped, carry_size}
use Rattle.cuts.specs.Slots.{held_by}
use Rattle.sumform.specs.Sums.{sum_size}
use Rattle.stepform.specs.declared.Settings.{Settings}
use Rattle.stepform.specs.Call.{axis_reaches}
use Rattle.runform.specs.Kept.{Inputs, Summed, Kept, running, all_carries, all_sums}

-- what the work is made from: the sources as they stand in it
abbrev pub in_place : Shape → List Axis → Settings → List Float → List Float → Inputs
in_place s xs set work weights = record { shape = s; axes = xs; set = set; source = work; weights = weights }

-- sums in their slots, with the figure that they give
abbrev pub summed_in : Shape → List Float → Summed
summed_in s sums = record { sums = sums; figure = at sums (offset (sum_size s) (s.d - 1)) }

-- the run that code holds: w has its bonds
abbrev pub held_in : Inputs → Walked → List Float → List Float → List Float → Kept
held_in i w work carries sums = running i (held_by w work carries) (summed_in i.shape sums)

-- a kept rank of each of the first m bonds is at least 1 and at most its source's
abbrev pub RanksWithin : Shape → List Bond → ℕ → Type 0
RanksWithin s bonds m = (k : ℕ) → k < m → suc k < s.d → (1 ≤ rank_among bonds k) × (rank_among bonds k ≤ right_of s k)

-- what the step from zone z on asks
pub record Steps (z : ℕ) (w : Walked) (set : Settings) (xs : List Axis) (work carries : List Float) : Type 0 where
  pub ok : chain_ok w.shape ≡ Ok tt
  pub zone : z < w.shape.d
  pub reach : (k : ℕ) → z ≤ k → k < w.shape.d → axis_reaches set w.shape xs k ≡ true
  pub ranks : RanksWithin w.shape w.bonds z
  pub cores : entries_of w.shape ≤ length work
  pub carried : all_carries w.shape ≤ length carries

-- and the sums
pub record Sums (s : Shape) (weights sums : List Float) : Type 0 where
  pub points : all_points s ≤ length weights
  pub summed : all_sums s ≤ length sums

-- ---- the memory that a call works in, for a run with inputs i that keeps h and u
pub record Memory (i : Inputs) (h : Stepped) (u : Summed) (z : ℕ) (work carries sums : List Float) : Type 0 where
  pub sources : (k : ℕ) → z ≤ k → k < i.shape.d → slot (core_size i.shape) k work ≡ slot (core_size i.shape) k i.source
  pub carry : Beside (carry_size i.shape) z h.carries carries
  pub sum : Beside (sum_size i.shape) z u.sums sums
  pub cores : entries_of i.shape ≤ length work
  pub carried : all_carries i.shape ≤ length carries
  pub summed : all_sums i.shape ≤ length sums
  pub chain_long : length h.chain ≡ entries_of i.shape
  pub carries_long : length h.carries ≡ all_carries i.shape
  pub sums_long : length u.sums ≡ all_sums i.shape

-- ---- what is committed
-- what a run kept, with what the work t left of each zone from one on: its core stands at a, its carry at b; its sums at c
abbrev pub stepped_over : ℕ → ℕ → Stepped → Stepped → Stepped
stepped_over a b h t = record { bonds = t.bonds; chain = over_from a h.chain t.chain; carries = over_from b h.carries t.carries }

abbrev pub summed_over : Shape → ℕ → List Float → List Float → Summed
summed_over s c sums sums' = record { sums = over_from c sums sums'; figure = at sums' (offset (sum_size s) (s.d - 1)) }

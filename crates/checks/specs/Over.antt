-- What the inner functions cite: work in place, where core k stands in the room of core k of the source. Definitions for code only.
use Rattle.std.specs.Prelude.{◌≡◌, ℕ, ◌-◌, ◌≤◌, ◌<◌, List, length, take, drop, Float}
use Rattle.lists.specs.Lists.{listed}
use Rattle.lists.specs.Slots.{offset, slot}
use Rattle.shape.specs.declared.Shape.{Shape}
use Rattle.shape.specs.Limits.{most_core, most_block}
use Rattle.shape.specs.Shapes.{core_size, entries_of}
use Rattle.shape.specs.Sizes.{SizesWithin, Inside}
use Rattle.shape.specs.Cores.{Core, standing}
use Rattle.stepform.specs.declared.Axis.{Axis}
use Rattle.stepform.specs.Axes.{axis_at}
use Rattle.stepform.specs.Zones.{Zone, zone}

-- v is w but for the slots from z on
pub record Onward (s : Shape) (z : ℕ) (w v : List Float) : Type 0 where
  pub front : take (offset (core_size s) z) v ≡ take (offset (core_size s) z) w
  pub behind : drop (entries_of s) v ≡ drop (entries_of s) w

-- v is w but for slot k
pub record Elsewhere (s : Shape) (k : ℕ) (w v : List Float) : Type 0 where
  pub onward : Onward s k w v
  pub others : (j : ℕ) → j < s.d → ¬ (j ≡ k) → slot (core_size s) j v ≡ slot (core_size s) j w

-- ---- the zones from z on, in place
-- core k where it stands, with the record of its axis
abbrev pub zone_in : Shape → Shape → List Axis → List Float → ℕ → Zone
zone_in s t xs w k = zone (standing s t w k) (axis_at xs k)

abbrev pub stand_from : Shape → Shape → ℕ → List Float → List Core
stand_from s t z w = listed (s.d - z) z (standing s t w)

-- what work in place asks: core k of t stands where core k of s begins
pub record Stands (s t : Shape) (w : List Float) : Type 0 where
  pub inside : Inside s t
  pub within : SizesWithin s
  pub long : entries_of s ≤ length w

-- and a shift: room for one core, and for one of its blocks three times
pub record Rooms (room block : List Float) : Type 0 where
  pub core : most_core ≤ length room
  pub thrice : most_block ≤ length block

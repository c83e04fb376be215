-- A loop over the slots of one list, start after start: where a slot ends, and what a test of its numbers says. Assumes nothing.
use mathlib.Core.Path.{◌≡◌, ap, ◌∙◌}
use Prim.Native.Nat.{ℕ, suc, ◌+◌, ◌-◌, ◌*◌, ◌≤◌, ◌<◌, ◌^◌}
use native.Mathlib.Omega.{arith}
use mathlib.Core.Bool.{Bool}
use mathlib.Core.List.{List}
use lib.ListN.{length, take, drop}
use lib.Ieee.{Float}
use mir.Syntax.{w64}
use mir.Val.{Fits}
use Rattle.lists.specs.Slots.{offset, slot}
use Rattle.lists.specs.Floats.{all_finite}
use Rattle.lists.proofs.Slots.{offset_suc, offset_mono}
use Rattle.lists.proofs.Demands.{passing}
use Rattle.shape.proofs.Offsets.{offsets}

-- slot k starts at t and has x places; the d slots lie within l
module _ (size : ℕ → ℕ) (d : ℕ) (l : List Float) (k t x : ℕ) where
  pub slot_end : offset size d ≤ length l → k < d → t ≡ offset size k → x ≡ size k → t + x ≤ length l
  slot_end room lt e f = omega (arith, offset_mono size (suc k) d lt, offset_suc size k)

  pub slot_end_fits : offset size d ≤ length l → length l * 8 < 2 ^ 63 → k < d → t ≡ offset size k → x ≡ size k → Fits w64 (t + x)
  slot_end_fits room small lt e f = record { fits = omega (arith, slot_end room lt e f) }

  pub slot_start_fits : offset size d ≤ length l → length l * 8 < 2 ^ 63 → k < d → t ≡ offset size k → Fits w64 (t * 8)
  slot_start_fits room small lt e = record { fits = omega (arith, offset_mono size k d (omega arith)) }

  pub slot_finite : (b : Bool) → t ≡ offset size k → x ≡ size k → b ≡ all_finite (take (t + x - t) (drop t l)) → b ≡ all_finite (slot size k l)
  unfolding slot
  slot_finite b e f h =
      let g : t + x - t ≡ size k = omega arith in
      h ∙ ap (λ (n : ℕ). all_finite (take n (drop t l))) g ∙ ap (λ (n : ℕ). all_finite (take (size k) (drop n l))) e

pub ruleset slotwise = (slot_end, slot_end_fits, slot_start_fits, slot_finite)

-- the whole loop: it stops at the first slot that fails
pub ruleset slot_by_slot = (offsets, slotwise, passing)

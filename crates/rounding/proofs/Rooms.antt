-- What the packing of a chain asks, room for the numbers that each core has now, and what it leaves. Assumes nothing.
use mathlib.Core.Path.{◌≡◌, sym, subst}
use Prim.Native.Nat.{ℕ, zero, suc, ◌≤◌, ◌<◌}
use native.Mathlib.Nat.{le_refl}
use native.Mathlib.Omega.{arith}
use mathlib.Core.List.{List}
use lib.ListN.{length}
use lib.Ieee.{Float}
use Rattle.lists.specs.Slots.{offset}
use Rattle.lists.proofs.Slots.{offset_suc}
use Rattle.lists.proofs.Packs.{PackRoom}
use Rattle.shape.specs.declared.Shape.{Shape}
use Rattle.shape.specs.Shapes.{core_size, entries_of}
use Rattle.shape.specs.Sizes.{Inside}
use Rattle.shape.proofs.Insides.{inside_size}
use Rattle.shape.proofs.Offsets.{offset_none}

module _ (s t : Shape) (work l : List Float) where
  pub room_of : t.d ≡ s.d → ((k : ℕ) → k < s.d → core_size t k ≤ core_size s k) → entries_of s ≤ length work → entries_of t ≤ length l → PackRoom (core_size s) (core_size t) s.d work l
  room_of same fits long wide = record { fits = fits; long = long; wide = subst (λ (n : ℕ). offset (core_size t) n ≤ length l) same wide }

pub inside_entries : (s t : Shape) → Inside s t → entries_of t ≤ entries_of s
inside_entries s t I = subst (λ (n : ℕ). offset (core_size t) n ≤ entries_of s) (sym I.axes) (go s.d (le_refl s.d))
  where
    go : (k : ℕ) → k ≤ s.d → offset (core_size t) k ≤ offset (core_size s) k
    go zero l = omega (arith, offset_none (core_size t), offset_none (core_size s))
    go (suc k) l = omega (arith, go k (omega arith), inside_size s t I k l, offset_suc (core_size t) k, offset_suc (core_size s) k)

-- the room that packing asks where t stands inside s
module _ (s t : Shape) (I : Inside s t) where
  pub inside_each : (k : ℕ) → k < s.d → core_size t k ≤ core_size s k
  inside_each k l = inside_size s t I k l

  pub inside_room : (chain : List Float) → entries_of s ≤ length chain → entries_of t ≤ length chain
  inside_room chain h = omega (arith, inside_entries s t I)

pub ruleset inside_rooms = (inside_each, inside_room)

-- Zone after zone in their slots. Definitions for loops only.
use Rattle.std.specs.Prelude.{◌≡◌, ℕ, zero, suc, ◌+◌, ◌-◌, ◌≤◌, ◌<◌, List, ltb, length, get_or, replicate, Float, Ok}
use Rattle.numbers.specs.Arithmetic.{zero64}
use Rattle.answers.specs.Outcome.{Answer, bind, outcome_of}
use Rattle.lists.specs.Slots.{offset, slot, put, fit}
use Rattle.shape.specs.declared.Shape.{Shape}
use Rattle.shape.specs.Limits.{most_axes}
use Rattle.shape.specs.Shapes.{left_of, right_of, core_size, entries_of}
use Rattle.shape.specs.Sizes.{SizesWithin}
use Rattle.shape.specs.Cores.{standing, with_core}
use Rattle.cuts.specs.declared.Walked.{Walked}
use Rattle.cuts.specs.declared.Places.{Places}
use Rattle.cuts.specs.ZoneSlots.{laid_cut, laid_as}
use Rattle.cutform.specs.declared.Bond.{Bond}
use Rattle.cutform.specs.declared.Cutting.{Cutting}
use Rattle.cutform.specs.Bonds.{no_bond, past_bond}
use Rattle.cutform.specs.Rounding.{Carry, Cut, round_core, numbers_in}
use Rattle.cutform.specs.Keeping.{bond_size, carry_size, Stepped, rank_at, carry_left}

-- a chain before any of its bonds is cut
abbrev pub unrounded : Shape → Walked
unrounded s = record { shape = s; bonds = replicate most_axes no_bond }

-- ---- zone after zone
-- what zone k leaves, in its slots
unfoldable pub zone_turned : Shape → ℕ → Carry × Cut → Stepped → Stepped
zone_turned s k r h = record {
  bonds = put (bond_size s) k (fit no_bond (bond_size s k) r.1.bonds) h.bonds;
  chain = put (core_size s) k (fit zero64 (core_size s k) r.1.core.entries) h.chain;
  carries = put (carry_size s) k (fit zero64 (carry_size s k) (numbers_in r.0)) h.carries;
}

unfoldable pub zone_turn : Cutting → Shape → ℕ → Shape × Stepped → Answer (Shape × Stepped)
zone_turn cutting s k x =
    bind (round_core cutting (ltb (suc k) s.d) k (carry_left s x.0 x.1 k) (standing s x.0 x.1.chain k))
    (λ r. Ok (with_core x.0 k r.1.core, zone_turned s k r x.1))

-- the rank on the left of zone k
unfoldable pub rank_left : ℕ → Shape → List Bond → ℕ
rank_left zero t bonds = left_of t 0
rank_left (suc k) t bonds = (get_or bonds k past_bond).rank

-- a rounding that began at zone z stands at zone k: t is the chain's shape by now, h what is held
pub record AtZone (s : Shape) (z k : ℕ) (t : Shape) (h : Stepped) : Type 0 where
  pub source : (j : ℕ) → suc j < s.d → right_of s j ≡ left_of s (suc j)
  pub sizes : SizesWithin t
  pub axes : t.d ≡ s.d
  pub points : t.n ≡ s.n
  pub left : (j : ℕ) → j < s.d → left_of t j ≤ left_of s j
  pub right : (j : ℕ) → j < s.d → right_of t j ≤ right_of s j
  pub joins : (j : ℕ) → k ≤ j → suc j < s.d → right_of t j ≡ left_of t (suc j)
  pub first : left_of t 0 ≡ 1
  pub last : (j : ℕ) → suc j ≡ s.d → right_of t j ≡ 1
  pub rank : k < s.d → (1 ≤ rank_left k t h.bonds) × (rank_left k t h.bonds ≤ left_of t k)
  -- from zone 0 on, the ranks behind meet too
  pub behind : z ≡ 0 → (j : ℕ) → suc j < k → right_of t j ≡ left_of t (suc j)
  pub seam : z ≡ 0 → (j : ℕ) → suc j ≡ k → k < s.d → right_of t j ≡ rank_at h j
  pub lefts : length t.left ≡ most_axes
  pub rights : length t.right ≡ most_axes
  pub bonds : length h.bonds ≡ most_axes
  pub chain : entries_of s ≤ length h.chain
  pub carries : offset (carry_size s) s.d ≤ length h.carries

-- ---- what code holds
abbrev pub held : List Bond → List Float → List Float → Stepped
held bonds chain carries = record { bonds = bonds; chain = chain; carries = carries }

abbrev pub held_by : Walked → List Float → List Float → Stepped
held_by w = held w.bonds

-- zone k may be rounded, with rank r on its left, whatever bonds are held behind it
pub record Ready (s : Shape) (k : ℕ) (t : Shape) (r : ℕ) (chain carries : List Float) : Type 0 where
  pub bonds : List Bond
  pub left : r ≡ rank_left k t bonds
  pub zone : AtZone s 1 k t (held bonds chain carries)

abbrev pub places_of : Shape → ℕ → Places
places_of s k = record {
  at = offset (core_size s) k;
  end = offset (core_size s) k + core_size s k;
  from = offset (carry_size s) (k - 1);
  mid = offset (carry_size s) k;
  to = offset (carry_size s) k + carry_size s k;
}

-- zone k as its code answers it: only its own slots are written
pub record ZoneCut (cutting : Cutting) (s : Shape) (k : ℕ) (t : Shape) (h : Stepped) (o : Answer Bond) (work carries : List Float) : Type 0 where
  pub laid : bind (round_core cutting (ltb (suc k) s.d) k (carry_left s t h k) (standing s t h.chain k))
      (λ x. Ok (laid_cut (core_size s k) (carry_size s k) x))
      ≡ outcome_of o (λ (b : Bond). laid_as (ltb (suc k) s.d) (rank_left k t h.bonds) b (slot (core_size s) k work) (slot (carry_size s) k carries))
  pub chain : work ≡ put (core_size s) k (slot (core_size s) k work) h.chain
  pub carried : carries ≡ put (carry_size s) k (slot (carry_size s) k carries) h.carries

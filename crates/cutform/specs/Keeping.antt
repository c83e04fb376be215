-- A rounding from zone z on, as memory has it: every core in the room where its source begins, the carry of each bond in a slot of its own,
-- and an array with what is said of bond k at k. Definitions only.
use Rattle.std.specs.Prelude.{ℕ, zero, suc, ◌-◌, ◌*◌, List, map, ltb, get_or, take, Float, Ok}
use Rattle.numbers.specs.Arithmetic.{zero64}
use Rattle.answers.specs.Outcome.{Answer, bind}
use Rattle.lists.specs.Lists.{listed}
use Rattle.lists.specs.Slots.{slot, write}
use Rattle.lists.specs.Walks.{walk}
use Rattle.shape.specs.declared.Shape.{Shape}
use Rattle.shape.specs.Shapes.{left_of, right_of, at_bond, core_size}
use Rattle.shape.specs.Cores.{standing, reshaped}
use Rattle.cutform.specs.declared.Bond.{Bond}
use Rattle.cutform.specs.declared.Cutting.{Cutting}
use Rattle.cutform.specs.Bonds.{no_bond, past_bond}
use Rattle.cutform.specs.Rounding.{Carry, none, some, Cut, round_core, cores_in, numbers_in}

-- ---- the slots: how many places zone k has. A bond has one place in the array; its carry has r_right*r_right
unfoldable pub bond_size : Shape → ℕ → ℕ
bond_size s k = at_bond s k 1 0

unfoldable pub carry_size : Shape → ℕ → ℕ
carry_size s k = at_bond s k (right_of s k * right_of s k) 0

pub record Stepped : Type 0 where
  pub bonds : List Bond
  pub chain : List Float
  pub carries : List Float

-- what these bonds say of bond k; its kept rank, and the largest value that was not kept
abbrev pub bond_among : List Bond → ℕ → Bond
bond_among bonds k = get_or bonds k past_bond

abbrev pub rank_among : List Bond → ℕ → ℕ
rank_among bonds k = (bond_among bonds k).rank

abbrev pub dropped_among : List Bond → ℕ → Float
dropped_among bonds k = (bond_among bonds k).dropped

-- the kept rank of what is held
abbrev pub rank_at : Stepped → ℕ → ℕ
rank_at t k = rank_among t.bonds k

-- ---- what a walk leaves, into the slots from z on; unused room of a slot is +0
unfoldable pub keep_step : Shape → ℕ → List (Carry × Cut) → Stepped → Stepped
keep_step s z tr t = record {
  bonds = write (bond_size s) no_bond s.d z (map (λ (r : Carry × Cut). r.1.bonds) tr) t.bonds;
  chain = write (core_size s) zero64 s.d z (map (λ (r : Carry × Cut). r.1.core.entries) tr) t.chain;
  carries = write (carry_size s) zero64 s.d z (map (λ (r : Carry × Cut). numbers_in r.0) tr) t.carries;
}

-- the carry that is held left of zone k, of a chain of shape t that stands in the room of s
unfoldable pub carry_left : Shape → Shape → Stepped → ℕ → Carry
carry_left s t h zero = none
carry_left s t h (suc k) = some (rank_at h k) (take (rank_at h k * left_of t (suc k)) (slot (carry_size s) k h.carries))

-- the rounding of the zones from z on, of the chain of shape t that stands in the room of s: its shape at the end, and what is held then
unfoldable pub round_from : Cutting → Shape → ℕ → Shape → Stepped → Answer (Shape × Stepped)
round_from cutting s z t h =
    bind (walk (λ (k : ℕ). round_core cutting (ltb (suc k) s.d) k) z (carry_left s t h z) (listed (s.d - z) z (standing s t h.chain)))
    (λ tr. Ok (reshaped z t (cores_in tr), keep_step s z tr h))

-- The loops of a contraction: indices, what a strip of sums holds, and that its entries are the definition's. Assumes nothing.
use mathlib.Core.Path.{◌≡◌, refl, sym, ap, ◌∙◌}
use mathlib.Core.List.{List, ◌++◌}
use Prim.Native.Nat.{ℕ, zero, suc, ◌+◌, ◌*◌, ◌<◌, ◌≤◌, ◌^◌}
use native.Mathlib.Nat.{mul-le-mul_right, suc-mul, one-mul, mul_assoc, add_assoc, le_antisymm}
use native.Mathlib.Omega.{arith}
use lib.ListN.{length, take, drop, replicate, get_or-replicate}
use lib.Seq.{length-take-le, take_at}
use lib.Ieee.{Float, nan}
use mir.Syntax.{w64}
use mir.Val.{Fits}
use Rattle.answers.specs.Outcome.{stage_of, staged, Stage}
use Rattle.numbers.specs.Arithmetic.{plus, times, zero64}
use Rattle.lists.specs.Lists.{iter, tab}
use Rattle.lists.specs.Floats.{at, sum_on, sum_rows, stored}
use Rattle.lists.specs.Strips.{strip_width, added_in, stored_from}
use Rattle.lists.proofs.Loops.{iter_same}
use Rattle.lists.proofs.Tables.{iter_keeps, listed_same, length_tab}
use Rattle.lists.proofs.Stages.{stored_staged}
use Rattle.lists.proofs.Strips.{added_length, added_at, stored_same, stored_tab, row_to, row_whole}
use Rattle.shape.specs.Cores.{core_with, place, entry}
use Rattle.sumform.specs.Contract.{contract}
use Rattle.product.specs.ContractLoops.{points_in, new_sum}

-- ---- indices
-- h numbers of point i of n, whose rows are r wide, from p on
module _ (i n r p h l : ℕ) (q : i < n) (g : p + n * r + h ≤ l + r) where
  pub point_end : p + i * r + h ≤ l
  point_end = omega (arith, mul-le-mul_right r q, suc-mul i r)

  pub point_row : l < 2 ^ 64 → Fits w64 (i * r)
  point_row s = record { fits = omega (arith, point_end) }

  pub point_fits : l < 2 ^ 64 → Fits w64 (p + i * r)
  point_fits s = record { fits = omega (arith, point_end) }

pub ruleset points = (point_end, point_row, point_fits)

-- block a of m, each of n rows of r numbers, and h columns of it from j on
module _ (m n r l : ℕ) (g : m * (n * r) ≤ l) where
  pub width_fits : 1 ≤ m → l < 2 ^ 64 → Fits w64 (n * r)
  width_fits o s = record { fits = omega (arith, mul-le-mul_right (n * r) o, one-mul (n * r)) }

  module _ (a : ℕ) (q : a < m) where
    pub block_row : l < 2 ^ 64 → Fits w64 (a * (n * r))
    block_row s = record { fits = omega (arith, mul-le-mul_right (n * r) q, suc-mul a (n * r)) }

    pub block_end : (j h : ℕ) → j + h ≤ r → a * (n * r) + j + n * r + h ≤ l + r
    block_end j h b = omega (arith, mul-le-mul_right (n * r) q, suc-mul a (n * r))

    pub block_fits : (j h : ℕ) → j + h ≤ r → 1 ≤ n → l < 2 ^ 64 → Fits w64 (a * (n * r) + j)
    block_fits j h b o s = record { fits = omega (arith, mul-le-mul_right (n * r) q, suc-mul a (n * r), mul-le-mul_right r o, one-mul r) }

pub ruleset blocks = (width_fits, block_row, block_end, block_fits)

-- ---- a strip number by number
module _ (h : ℕ) (x : Float) (core : List Float) (p rr : ℕ) (f s : List Float) (g : h ≤ length s) where
  pub points_length : (m : ℕ) → length (points_in h x core p rr f m s) ≡ length s
  unfolding points_in
  points_length m = iter_keeps (λ (l : List Float). length l ≡ length s) (λ (i : ℕ). added_in h (λ (t : ℕ). times (times x (at core (p + i * rr + t))) (at f i))) s refl (λ k t e. added_length _ t h ∙ e) m

  points_at_lem : (m t : ℕ) → t < h → at (points_in h x core p rr f m s) t ≡ sum_on (at s t) m (λ (i : ℕ). times (times x (at core (p + i * rr + t))) (at f i))
  unfolding points_in sum_on
  points_at_lem zero t l = refl
  points_at_lem (suc m) t l =
      added_at (λ (k : ℕ). times (times x (at core (p + m * rr + k))) (at f m)) (points_in h x core p rr f m s) h t l (omega (arith, points_length m))
      ∙ ap (λ (y : Float). plus y (times (times x (at core (p + m * rr + t))) (at f m))) (points_at_lem m t l)

-- the sums after the first k left indices
abbrev pub sums_to : ℕ → List Float → ℕ → List Float → List Float → ℕ → ℕ → List Float → List Float
sums_to h core rr f eta j k s = iter k (λ (a : ℕ). points_in h (at eta a) core (a * (length f * rr) + j) rr f (length f)) s

module _ (h : ℕ) (core : List Float) (rr : ℕ) (f eta : List Float) (j : ℕ) (s : List Float) (g : h ≤ length s) where
  sums_length : (k : ℕ) → length (sums_to h core rr f eta j k s) ≡ length s
  sums_length zero = refl
  sums_length (suc k) = points_length h (at eta k) core (k * (length f * rr) + j) rr f (sums_to h core rr f eta j k s) (omega (arith, sums_length k)) (length f) ∙ sums_length k

  abbrev term : ℕ → ℕ → ℕ → Float
  term t a i = times (times (at eta a) (at core (a * (length f * rr) + (i * rr + (j + t))))) (at f i)

  sums_at : (k t : ℕ) → t < h → at s t ≡ zero64 → at (sums_to h core rr f eta j k s) t ≡ iter k (λ (a : ℕ) (y : Float). sum_on y (length f) (term t a)) zero64
  unfolding sum_on
  sums_at zero t l z = z
  sums_at (suc k) t l z =
      points_at_lem h (at eta k) core (k * (length f * rr) + j) rr f (sums_to h core rr f eta j k s) (omega (arith, sums_length k)) (length f) t l
      ∙ iter_same (length f) (λ (i : ℕ) (y : Float). plus y (times (times (at eta k) (at core (k * (length f * rr) + j + i * rr + t))) (at f i))) (λ (i : ℕ) (y : Float). plus y (term t k i)) (at (sums_to h core rr f eta j k s) t)
      (λ i y q. let e : k * (length f * rr) + j + i * rr + t ≡ k * (length f * rr) + (i * rr + (j + t)) = omega arith in rw e)
      ∙ ap (λ (y : Float). sum_on y (length f) (term t k)) (sums_at k t l z)

-- from sums that start as zeros, stored
pub strip_end : (h : ℕ) (core : List Float) (rr : ℕ) (f eta : List Float) (j k : ℕ) (s o u : List Float)
    → s ≡ sums_to h core rr f eta j k (replicate strip_width zero64) → u ≡ stored_from j h (at s) o → k ≤ length eta → length eta ≤ k → h ≤ strip_width
    → u ≡ stored_from j h (λ (t : ℕ). new_sum core rr f eta (j + t)) o
unfolding new_sum sum_rows
strip_end h core rr f eta j k s o u d e m n g =
    e ∙ stored_same j h (at s) (λ (t : ℕ). new_sum core rr f eta (j + t)) o
    (λ t l. rw (d, le_antisymm n m) (sums_at h core rr f eta j (replicate strip_width zero64) g k t l (get_or-replicate strip_width t zero64 nan (omega arith))))

-- ---- the definition, by flat indices
pub contract_flat : (core : List Float) (rr : ℕ) (f eta : List Float) → contract (core_with (length eta) (length f) rr core) f eta ≡ tab rr (new_sum core rr f eta)
unfolding contract new_sum entry place sum_rows sum_on
contract_flat core rr f eta =
    listed_same rr 0 _ (new_sum core rr f eta) (λ j p q.
    iter_same (length eta) _ _ zero64 (λ a y l.
    iter_same (length f) _ _ y (λ i z m.
    let e : a * length f * rr + i * rr + j ≡ a * (length f * rr) + (i * rr + j) = ap (λ (x : ℕ). x + i * rr + j) (mul_assoc a (length f) rr) ∙ add_assoc (a * (length f * rr)) (i * rr) j in
    rw e)))

pub contract_end : (core : List Float) (rr : ℕ) (f eta : List Float) (j : ℕ) (o u : List Float) → u ≡ row_to 0 (new_sum core rr f eta) 0 j o → j ≤ rr → rr ≤ j → rr ≤ length o
    → u ≡ contract (core_with (length eta) (length f) rr core) f eta ++ drop rr o
contract_end core rr f eta j o u d g h l = row_whole 0 (new_sum core rr f eta) j rr o u d g h ∙ stored_tab rr (new_sum core rr f eta) o l ∙ ap (λ (x : List Float). x ++ drop rr o) (sym (contract_flat core rr f eta))

-- ---- one axis: the new sums, all finite, stand where the old ones stood
contract_length : (core : List Float) (rl n rr : ℕ) (f eta : List Float) → length (contract (core_with rl n rr core) f eta) ≡ rr
unfolding contract
contract_length core rl n rr f eta = length_tab rr _

pub axis_end_lem : (core : List Float) (rl rr : ℕ) (f eta next after back rest : List Float) (r : Stage) → rl ≤ length eta
    → after ≡ contract (core_with (length (take rl eta)) (length f) rr core) f (take rl eta) ++ drop rr next
    → r ≡ stage_of (stored (take rr after)) → back ≡ take rr after
    → stored (contract (core_with rl (length f) rr core) f (take rl eta)) ≡ staged r (take rr (back ++ rest))
axis_end_lem core rl rr f eta next after back rest r h e s b =
    let x = contract (core_with rl (length f) rr core) f (take rl eta) in
    let n : length (take rl eta) ≡ rl = length-take-le rl eta h in
    let a : after ≡ x ++ drop rr next = e ∙ ap (λ (m : ℕ). contract (core_with m (length f) rr core) f (take rl eta) ++ drop rr next) n in
    let t : take rr after ≡ x = ap (take rr) a ∙ take_at x (drop rr next) rr (contract_length core rl (length f) rr f (take rl eta)) in
    let w : take rr (back ++ rest) ≡ x = ap (λ (l : List Float). take rr (l ++ rest)) (b ∙ t) ∙ take_at x rest rr (contract_length core rl (length f) rr f (take rl eta)) in
    stored_staged x r (s ∙ ap (λ (l : List Float). stage_of (stored l)) t) ∙ ap (staged r) (sym w)

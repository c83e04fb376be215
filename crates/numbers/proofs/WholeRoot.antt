-- `whole_root` is the whole root, and only one number is. Assumes nothing.
use mathlib.Core.Path.{◌≡◌, ap, ◌∙◌}
use Prim.Native.Nat.{ℕ, zero, suc, ◌+◌, ◌*◌, ◌/◌, ◌^◌, ◌≤◌, ◌<◌}
use native.Mathlib.Nat.{le_trans, lt_of_lt_of_le, lt_of_not-le, not-le_of_lt, le_antisymm, le_of_suc-le-suc, mul_comm, mul-le-mul, pow-succ', pow-le-pow_left}
use native.Mathlib.Omega.{arith}
use mathlib.Core.Bool.{Bool, true, false, not, cond}
use lib.Dec.{T, leb, leb→le, nleb→lt}
use lib.Ieee.{size}
use lib.Ieee.Digits.{size-lt}
use Rattle.numbers.specs.Root.{root_in, whole_root}
use Rattle.numbers.proofs.Squares.{sq_even, sq_suc}

abbrev pub IsRoot : ℕ → ℕ → Type 0
IsRoot n q = (q * q ≤ n) × (n < (q + 1) * (q + 1))

one_more : (n q : ℕ) → IsRoot (n / 4) q → IsRoot n (cond (leb ((2 * q + 1) * (2 * q + 1)) n) (2 * q + 1) (2 * q))
one_more n q r = go (leb ((2 * q + 1) * (2 * q + 1)) n) (leb→le ((2 * q + 1) * (2 * q + 1)) n) (nleb→lt ((2 * q + 1) * (2 * q + 1)) n)
  where
    go : (b : Bool) → (T b → (2 * q + 1) * (2 * q + 1) ≤ n) → (T (not b) → n < (2 * q + 1) * (2 * q + 1)) → IsRoot n (cond b (2 * q + 1) (2 * q))
    go true h k =
        let s = sq_suc (2 * q + 1) in
        let t = sq_suc (2 * q) in
        let u = sq_suc q in
        let v : 2 * q * (2 * q) ≡ 4 * (q * q) = ap (λ (x : ℕ). x * x) (mul_comm 2 q) ∙ sq_even q in
        (h tt, omega (arith, r.1))
    go false h k =
        let v : 2 * q * (2 * q) ≡ 4 * (q * q) = ap (λ (x : ℕ). x * x) (mul_comm 2 q) ∙ sq_even q in
        (omega (arith, r.0), k tt)

small : (n : ℕ) → n < 1 → n < (0 + 1) * (0 + 1)
small n h = h

quarter : (n p w : ℕ) → n < w → w ≡ 4 * p → n / 4 < p
quarter n p w h e = omega arith

pub root_in_ok_lem : (k n : ℕ) → n < 4 ^ k → IsRoot n (root_in k n)
unfolding root_in
root_in_ok_lem zero n h = (omega arith, small n h)
root_in_ok_lem (suc k) n h = one_more n (root_in k (n / 4)) (root_in_ok_lem k (n / 4) (quarter n (4 ^ k) (4 ^ suc k) h (pow-succ' 4 k)))

pub whole_root_ok : (n : ℕ) → IsRoot n (whole_root n)
unfolding whole_root
whole_root_ok n = root_in_ok_lem (size n) n (lt_of_lt_of_le (size-lt n) (pow-le-pow_left (omega arith) (size n)))

below : (n a b : ℕ) → a * a ≤ n → n < (b + 1) * (b + 1) → a ≤ b
below n a b h k = le_of_suc-le-suc (lt_of_not-le (λ (g : suc b ≤ a). not-le_of_lt k (le_trans (mul-le-mul {n₁ = b + 1} {m₁ = b + 1} {n₂ = a} {m₂ = a} (omega arith) (omega arith)) h)))

pub unique : (n a b : ℕ) → IsRoot n a → IsRoot n b → a ≡ b
unique n a b p q = le_antisymm (below n a b p.0 q.1) (below n b a q.0 p.1)

pub at_least : (n a q : ℕ) → a * a ≤ n → IsRoot n q → a ≤ q
at_least n a q h r = below n a q h r.1

pub less_than : (n a q : ℕ) → n < a * a → IsRoot n q → q < a
less_than n a q h r = lt_of_not-le (λ (g : a ≤ q). not-le_of_lt h (le_trans (mul-le-mul g g) r.0))

-- From 14 digits to 28, 54 and 108: what `root` hands to `refine`, and what it has from it. Assumes nothing.
use mathlib.Core.Path.{◌≡◌, sym, ap, ◌∙◌, subst}
use Prim.Native.Nat.{ℕ, ◌+◌, ◌*◌, ◌^◌, ◌≤◌, ◌<◌}
use native.Mathlib.Nat.{le_trans, lt_of_lt_of_le, mul-le-mul_left, mul_assoc, add-mul}
use native.Mathlib.Omega.{arith}
use Rattle.numbers.specs.Steps.{Leaves, Refinable}
use Rattle.numbers.proofs.Squares.{sq_suc}
use Rattle.numbers.proofs.WholeRoot.{IsRoot, at_least, less_than}

is_root : (n q rem : ℕ) → Leaves n q rem → IsRoot n q
is_root n q rem l =
    let e = l.is in
    let s = l.small in
    let f = sq_suc q in
    (omega arith, omega arith)

-- the root's size, by two numbers whose squares are written out
module _ (lo hi n q rem : ℕ) (l : Leaves n q rem) (a : lo * lo ≤ n) (b : n < hi * hi) where
  pub ask : (k high low : ℕ) → 2 ^ k ≤ 2 * lo → hi ≤ 2 ^ 27 → k ≤ 27 → high < 2 ^ k → low < 2 ^ k → Refinable q rem high low k
  ask k high low w h base d_1 d_2 = record {
    small = l.small;
    digit_1 = d_1;
    digit_2 = d_2;
    wide = le_trans w (mul-le-mul_left 2 (at_least n lo q a (is_root n q rem l)));
    root = lt_of_lt_of_le (less_than n hi q b (is_root n q rem l)) h;
    base = base;
  }

-- the number with one more digit, n₁, and with two, n₂
pub get : (k n n₁ n₂ high low q rem s t : ℕ) → n * 2 ^ k + high ≡ n₁ → n₁ * 2 ^ k + low ≡ n₂ → Leaves n q rem
    → Leaves ((q * q + rem) * (2 ^ k * 2 ^ k) + high * 2 ^ k + low) s t → Leaves n₂ s t
get k n n₁ n₂ high low q rem s t e f l r =
    subst (λ (x : ℕ). Leaves x s t)
    (ap (λ (x : ℕ). x * (2 ^ k * 2 ^ k) + high * 2 ^ k + low) l.is
    ∙ ap (λ (x : ℕ). x + high * 2 ^ k + low) (sym (mul_assoc n (2 ^ k) (2 ^ k)))
    ∙ ap (λ (x : ℕ). x + low) (sym (add-mul (n * 2 ^ k) high (2 ^ k)) ∙ ap (λ (x : ℕ). x * 2 ^ k) e)
    ∙ f)
    r

pub last : (m q rem s t : ℕ) → m < 2 ^ 54 → Leaves m q rem → Leaves ((q * q + rem) * (2 ^ 27 * 2 ^ 27) + 0 * 2 ^ 27 + 0) s t → (s * s ≤ m * 2 ^ 54) × (m * 2 ^ 54 < (s + 1) * (s + 1)) × (s < 2 ^ 54)
last m q rem s t high l k =
    let e = l.is in
    let n : (q * q + rem) * (2 ^ 27 * 2 ^ 27) + 0 * 2 ^ 27 + 0 ≡ m * 2 ^ 54 = omega arith in
    let r = is_root (m * 2 ^ 54) s t (subst (λ (x : ℕ). Leaves x s t) n k) in
    (r.0, r.1, less_than (m * 2 ^ 54) (2 ^ 54) s (omega arith) r)

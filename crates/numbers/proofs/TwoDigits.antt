-- A number of two digits of 26 bits and its square, and the root that such a number is. Assumes nothing.
use mathlib.Core.Path.{◌≡◌, refl, sym, ap, ◌∙◌}
use Prim.Native.Nat.{ℕ, zero, suc, ◌+◌, ◌*◌, ◌/◌, ◌%◌, ◌^◌, ◌≤◌, ◌<◌}
use native.Mathlib.Nat.{mul_assoc, mul_comm, mul-add, add-mul, mul-mul-mul_comm, mul-le-mul, not-suc-le-zero}
use native.Mathlib.Numerals.{add-one}
use lib.Dec.{T, leb, leb→le, nleb→lt}
use native.Mathlib.Omega.{arith}
use mathlib.Core.Bool.{Bool, true, false, not}
use Rattle.numbers.specs.Steps.{Halved}
use Rattle.numbers.proofs.Squares.{sq_even, sq_suc, sq_odd}

-- (h * k + l) * (h * k + l)
sq_digits : (h l k : ℕ) → (h * k + l) * (h * k + l) ≡ h * h * (k * k) + 2 * (h * l * k) + l * l
sq_digits h l k =
    let a : (h * k + l) * (h * k + l) ≡ h * k * (h * k + l) + l * (h * k + l) = add-mul (h * k) l (h * k + l) in
    let b : h * k * (h * k + l) ≡ h * k * (h * k) + h * k * l = mul-add (h * k) (h * k) l in
    let d : l * (h * k + l) ≡ l * (h * k) + l * l = mul-add l (h * k) l in
    let e : h * k * (h * k) ≡ h * h * (k * k) = mul-mul-mul_comm h k h k in
    let f : h * k * l ≡ h * l * k = mul_assoc h k l ∙ ap (λ (x : ℕ). h * x) (mul_comm k l) ∙ sym (mul_assoc h l k) in
    let g : l * (h * k) ≡ h * l * k = mul_comm l (h * k) ∙ f in
    omega arith

module _ (g : ℕ) (hi : g < 2 ^ 53) where
  abbrev h : ℕ
  h = g / 2 ^ 26

  abbrev l : ℕ
  l = g % 2 ^ 26

  pub high_square : h * h ≤ 2 ^ 54
  high_square = mul-le-mul {n₁ = h} {m₁ = h} {n₂ = 2 ^ 27} {m₂ = 2 ^ 27} (omega arith) (omega arith)

  pub cross : h * l ≤ 2 ^ 53
  cross = mul-le-mul {n₁ = h} {m₁ = l} {n₂ = 2 ^ 27} {m₂ = 2 ^ 26} (omega arith) (omega arith)

  pub low_square : l * l ≤ 2 ^ 52
  low_square = mul-le-mul {n₁ = l} {m₁ = l} {n₂ = 2 ^ 26} {m₂ = 2 ^ 26} (omega arith) (omega arith)

  pub square : g * g ≡ h * h * 2 ^ 52 + h * l * 2 * 2 ^ 26 + l * l
  square =
      let e : g ≡ h * 2 ^ 26 + l = omega arith in
      let d = sq_digits h l (2 ^ 26) in
      let f : g * g ≡ (h * 2 ^ 26 + l) * (h * 2 ^ 26 + l) = ap (λ (x : ℕ). x * x) e in
      omega (arith, d, f)

-- twice g, or one less
pub halved : (m g : ℕ) → 2 ^ 52 ≤ g → g < 2 ^ 53 → g * g < m * 2 ^ 52 + g → m * 2 ^ 52 ≤ g * g + g → Halved m g
halved m zero lo hi a b = absurd (not-suc-le-zero {n = 0} (omega arith))
halved m (suc k) lo hi a b = go (leb (suc k * suc k) (m * 2 ^ 52)) (leb→le (suc k * suc k) (m * 2 ^ 52)) (nleb→lt (suc k * suc k) (m * 2 ^ 52))
  where
    up : suc k * suc k ≤ m * 2 ^ 52 → Halved m (suc k)
    up d =
        let e = sq_even (suc k) in
        let f = sq_odd (suc k) in
        record { q = suc k * 2; under = omega (arith, e); over = omega (arith, sq_suc (suc k * 2), e); small = omega arith; half = omega arith }

    down : m * 2 ^ 52 < suc k * suc k → Halved m (suc k)
    down d =
        let e = sq_even (suc k) in
        let f = sq_odd k in
        let g = sq_suc k in
        let w : suc k * suc k ≡ (k + 1) * (k + 1) = rw (add-one) refl in
        let t : (k * 2 + 1 + 1) * (k * 2 + 1 + 1) ≡ suc k * 2 * (suc k * 2) = ap (λ (x : ℕ). x * x) (omega arith) in
        record { q = k * 2 + 1; under = omega (arith, f, g, w); over = omega (arith, e, t); small = omega arith; half = omega arith }

    go : (t : Bool) → (T t → suc k * suc k ≤ m * 2 ^ 52) → (T (not t) → m * 2 ^ 52 < suc k * suc k) → Halved m (suc k)
    go true y n = up (y tt)
    go false y n = down (n tt)

-- The kit's digits are those of the definition. Assumes nothing.
use mathlib.Core.Path.{◌≡◌, ap}
use Prim.Native.Nat.{ℕ, zero, suc, ◌+◌, ◌-◌, ◌/◌, ◌%◌, ◌^◌, ◌≤◌, ◌<◌}
use native.Mathlib.Nat.{pow-le-pow_right}
use native.Mathlib.Omega.{arith}
use mathlib.Core.List.{List, [], ◌∷◌, ◌++◌}
use borrow.Author.Tests.{lt-ltb, le-ltb}
use Rattle.io.specs.Digits.{hex_digit_ascii, last_digits, IsDigitCount}
use Rattle.lists.specs.Lists.{pick}
use Rattle.lists.proofs.Tests.{below_or_not}
use Rattle.fileform.specs.Text.{digits_in, digits_of}

glyph_small : (d : ℕ) → d < 10 → hex_digit_ascii d ≡ 48 + d
glyph_small d h = rw (lt-ltb d 10 h)

-- without its last digit
fewer : (i n : ℕ) → 10 ≤ n → IsDigitCount 10 1 n (suc i) → IsDigitCount 10 1 (n / 10) i
fewer zero n l g = let z : ⊥ = omega (arith, g.1) in absurd z
fewer (suc i) n l g =
    let a : suc (suc i) - 1 ≡ suc i = omega arith in
    let b : suc i - 1 ≡ i = omega arith in
    let low : 10 ^ suc i ≤ n = rw a at (g.2 (omega arith)) in
    (omega arith, omega (arith, g.1), λ h. rw b (omega arith))

digits_are : (w k n : ℕ) → k ≤ w → IsDigitCount 10 1 n k → last_digits 10 k n ≡ digits_in w n
unfolding digits_in pick
digits_are w zero n le f = let z : ⊥ = omega (arith, f.0) in absurd z
digits_are zero (suc j) n le f = let z : ⊥ = omega arith in absurd z
digits_are (suc w) (suc j) n le f = below_or_not n 10 (λ l. one j l f) (λ l. more l (digits_are w j (n / 10) (omega arith) (fewer j n l f)))
  where
    last : hex_digit_ascii (n % 10) ≡ 48 + n % 10
    last = glyph_small (n % 10) (omega arith)

    one : (i : ℕ) → n < 10 → IsDigitCount 10 1 n (suc i) → last_digits 10 i (n / 10) ++ (hex_digit_ascii (n % 10) ∷ []) ≡ digits_in (suc w) n
    one zero l g = let e : n % 10 ≡ n = omega arith in rw (lt-ltb n 10 l, last, e)
    one (suc i) l g =
        let a : suc (suc i) - 1 ≡ suc i = omega arith in
        let low : 10 ^ suc i ≤ n = rw a at (g.2 (omega arith)) in
        let z : ⊥ = omega arith in
        absurd z

    more : 10 ≤ n → last_digits 10 j (n / 10) ≡ digits_in w (n / 10) → last_digits 10 j (n / 10) ++ (hex_digit_ascii (n % 10) ∷ []) ≡ digits_in (suc w) n
    more l ih = rw (le-ltb n 10 l, last) (ap (λ (x : List ℕ). x ++ ((48 + n % 10) ∷ [])) ih)

pub digits_of_lem : (k n : ℕ) → k ≤ 20 → IsDigitCount 10 1 n k → last_digits 10 k n ≡ digits_of n
unfolding digits_of
digits_of_lem k n le f = digits_are 20 k n le f

-- and there are few of them
pub few_digits : (k n : ℕ) → n < 2 ^ 64 → IsDigitCount 10 1 n k → k ≤ 20
few_digits k n small f =
    below_or_not 20 k
    (λ l. let most : 10 ^ 20 ≤ 10 ^ (k - 1) = pow-le-pow_right {n = 10} (omega arith) {i = 20} {j = k - 1} (omega arith) in let z : ⊥ = omega (arith, f.2 (omega arith)) in absurd z)
    (λ l. l)

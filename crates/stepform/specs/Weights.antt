-- The cubic weights of a band, and one entry of the shift (001: `cubic_band_weights`, `apply_per_axis_shift`). Definitions only.
use Rattle.std.specs.Prelude.{ℕ, List, [], ◌∷◌, ℤ, pos, ◌+ℤ◌, ◌-ℤ◌, Float}
use Rattle.std.specs.Float.Ieee.{neg}
use Rattle.numbers.specs.Arithmetic.{plus, minus, times, one64, two64, half64, quarter64, sixth64}
use Rattle.lists.specs.Floats.{at, sum_on}

-- the four weights of a fraction, the products in this order
unfoldable pub cubic_band_weights : Float → List Float
cubic_band_weights t =
    let t1 = minus t one64 in
    let t2 = minus t two64 in
    let tp1 = plus t one64 in
    times (neg (times (times t t1) t2)) sixth64
    ∷ times (times (times tp1 t1) t2) half64
    ∷ times (neg (times (times tp1 t) t2)) half64
    ∷ times (times (times tp1 t) t1) sixth64
    ∷ []

-- acc, then the four terms (0.25*weight)*v at the offsets s0 - 1 to s0 + 2 from i, w being the wrapped index
unfoldable pub band_on : Float → (ℤ → ℕ) → List Float → ℤ → (ℕ → Float) → ℕ → Float
band_on acc w ws s0 v i = sum_on acc 4 (λ (m : ℕ). times (times quarter64 (at ws m)) (v (w (pos i +ℤ s0 -ℤ pos 1 +ℤ pos m))))

-- 0.5*v[i], then the forward band, then the backward band
unfoldable pub shifted_at : (ℤ → ℕ) → List Float → ℤ → List Float → ℤ → (ℕ → Float) → ℕ → Float
shifted_at w forward s0 backward s1 v i = band_on (band_on (times half64 (v i)) w forward s0 v i) w backward s1 v i

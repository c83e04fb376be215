-- Where the fraction is zero, an entry of the shift is 0.5*v[i] + 0.25*v[w(i+s0)] + 0.25*v[w(i-s0)], in that order, zero signs aside, w being the wrapped index of either boundary: for finite data, from the general sum of nine terms. Assumes nothing.
use mathlib.Core.Path.{◌≡◌, refl, sym, ap, ◌∙◌, subst}
use Prim.Native.Nat.{ℕ, zero, suc, ◌<◌}
use native.Mathlib.Omega.{arith}
use mathlib.Core.Bool.{Bool, true, false, not}
use mathlib.Core.List.{List, [], ◌∷◌}
use lib.Dec.{T}
use lib.IntN.{ℤ, pos, neg_ℤ, ◌+ℤ◌, ◌-ℤ◌, -ℤ-+ℤ_cancel}
use lib.Ieee.{Float, nan, inf, fin, binary64, neg, add, sub, mul, eq, of_bits}
use lib.Ieee.Fits.{add-fits, mul-fits}
use Rattle.numbers.specs.Arithmetic.{plus, times, zero64, one64, half64, quarter64}
use Rattle.numbers.specs.Finite.{finite}
use Rattle.numbers.specs.Whole.{whole_of, fraction_of}
use Rattle.numbers.specs.Zeros.{unsigned, Alike}
use Rattle.numbers.proofs.Zeros.{zero_times, alike_refl, alike_trans, alike_plus}
use Rattle.numbers.proofs.Wholes.{zero_fraction}
use Rattle.lists.specs.Floats.{at, sum_on}
use Rattle.lists.proofs.Sums.{Fits, Zero, sum_fits, one_term}
use Rattle.shape.specs.Cores.{Core, entry}
use Rattle.stepform.specs.Boundaries.{wrapped}
use Rattle.stepform.specs.Weights.{cubic_band_weights, band_on, shifted_at}
use Rattle.stepform.proofs.Boundaries.{wrapped_lt}
use Rattle.stepform.proofs.Mirrors.{made, entry_made}

-- the weights of a zero: one of them is 1, the others are zeros
weights_of_zero : (s : Bool) → cubic_band_weights (fin s 0 (pos 0)) ≡ fin (not s) 0 (pos 0) ∷ one64 ∷ fin s 0 (pos 0) ∷ fin (not s) 0 (pos 0) ∷ []
unfolding cubic_band_weights add sub mul neg of_bits
weights_of_zero true = refl
weights_of_zero false = refl

quarter_of_zero : (s : Bool) → times quarter64 (fin s 0 (pos 0)) ≡ fin s 0 (pos 0)
unfolding mul of_bits
quarter_of_zero true = refl
quarter_of_zero false = refl

quarter_of_one : times quarter64 one64 ≡ quarter64
unfolding mul of_bits
quarter_of_one = refl

none_of_zero : (s : Bool) (x : Float) → T (finite x) → Zero (times (times quarter64 (fin s 0 (pos 0))) x)
none_of_zero s nan f = absurd f
none_of_zero s (inf t) f = absurd f
none_of_zero s (fin t m e) f = (_, ap (λ (w : Float). times w (fin t m e)) (quarter_of_zero s) ∙ zero_times s t m e)

-- ---- a band whose fraction is zero, over finite data
module _ (n : ℕ) (w : ℤ → ℕ) (inside : (z : ℤ) → w z < n) (v : ℕ → Float) (known : (j : ℕ) → j < n → T (finite (v j))) where
  abbrev term : Bool → ℤ → ℕ → ℕ → Float
  term s s0 i m = times (times quarter64 (at (fin (not s) 0 (pos 0) ∷ one64 ∷ fin s 0 (pos 0) ∷ fin (not s) 0 (pos 0) ∷ []) m)) (v (w (pos i +ℤ s0 -ℤ pos 1 +ℤ pos m)))

  term_fits : (s : Bool) (s0 : ℤ) (i m : ℕ) → Fits (term s s0 i m)
  term_fits s s0 i m = mul-fits binary64 _ _

  term_none : (s : Bool) (s0 : ℤ) (i m : ℕ) → m < 4 → ¬ (m ≡ 1) → Zero (term s s0 i m)
  term_none s s0 i zero l d = none_of_zero (not s) _ (known _ (inside _))
  term_none s s0 i (suc zero) l d = absurd (d refl)
  term_none s s0 i (suc (suc zero)) l d = none_of_zero s _ (known _ (inside _))
  term_none s s0 i (suc (suc (suc zero))) l d = none_of_zero (not s) _ (known _ (inside _))
  term_none s s0 i (suc (suc (suc (suc m)))) l d = let z : ⊥ = omega arith in absurd z

  term_one : (s : Bool) (s0 : ℤ) (i : ℕ) → term s s0 i 1 ≡ times quarter64 (v (w (pos i +ℤ s0)))
  term_one s s0 i = ap (λ (x : Float). times x (v (w (pos i +ℤ s0 -ℤ pos 1 +ℤ pos 1)))) quarter_of_one ∙ ap (λ (z : ℤ). times quarter64 (v (w z))) (-ℤ-+ℤ_cancel (pos i +ℤ s0) (pos 1))

  band_of_zero : (acc : Float) (s : Bool) (s0 : ℤ) (i : ℕ) → Fits acc → Alike (band_on acc w (cubic_band_weights (fin s 0 (pos 0))) s0 v i) (plus acc (times quarter64 (v (w (pos i +ℤ s0)))))
  unfolding band_on
  band_of_zero acc s s0 i h =
      subst (λ (ws : List Float). Alike (band_on acc w ws s0 v i) (plus acc (times quarter64 (v (w (pos i +ℤ s0)))))) (sym (weights_of_zero s))
      (subst (λ (x : Float). Alike (sum_on acc 4 (term s s0 i)) (plus acc x)) (term_one s s0 i) (one_term (term s s0 i) (term_fits s s0 i) acc 1 4 (omega arith) h (term_none s s0 i)))

  band_fits : (acc : Float) (ws : List Float) (s0 : ℤ) (i : ℕ) → Fits acc → Fits (band_on acc w ws s0 v i)
  unfolding band_on
  band_fits acc ws s0 i h = sum_fits (λ (m : ℕ). times (times quarter64 (at ws m)) (v (w (pos i +ℤ s0 -ℤ pos 1 +ℤ pos m)))) (λ m. mul-fits binary64 _ _) acc 4 h

  -- one entry, along a fibre v of n numbers
  pub still_fibre : (ratio : Float) → Fits ratio → T (finite ratio) → eq (fraction_of ratio) zero64 ≡ true → (i : ℕ)
      → Alike (shifted_at w (cubic_band_weights (fraction_of ratio)) (whole_of ratio) (cubic_band_weights (fraction_of (neg ratio))) (whole_of (neg ratio)) v i)
      (plus (plus (times half64 (v i)) (times quarter64 (v (w (pos i +ℤ whole_of ratio))))) (times quarter64 (v (w (pos i -ℤ whole_of ratio)))))
  unfolding shifted_at
  still_fibre ratio h f e i =
      let Z = zero_fraction ratio h f e in
      let s0 = whole_of ratio in
      let start = times half64 (v i) in
      let H = mul-fits binary64 half64 (v i) in
      let a = Z.ahead in
      let b = Z.behind in
      let there = plus start (times quarter64 (v (w (pos i +ℤ s0)))) in
      let back = times quarter64 (v (w (pos i -ℤ s0))) in
      let one = band_on start w (cubic_band_weights (fraction_of ratio)) s0 v i in
      let O = band_fits start (cubic_band_weights (fraction_of ratio)) s0 i H in
      let A : Alike one there = subst (λ (t : Float). Alike (band_on start w (cubic_band_weights t) s0 v i) there) (sym a.1) (band_of_zero start a.0 s0 i H) in
      let B : Alike (band_on one w (cubic_band_weights (fraction_of (neg ratio))) (whole_of (neg ratio)) v i) (plus one back) =
      subst (λ (z : ℤ). Alike (band_on one w (cubic_band_weights (fraction_of (neg ratio))) z v i) (plus one back)) (sym Z.opposite)
      (subst (λ (t : Float). Alike (band_on one w (cubic_band_weights t) (neg_ℤ s0) v i) (plus one back)) (sym b.1) (band_of_zero one b.0 (neg_ℤ s0) i O)) in
      alike_trans (band_on one w (cubic_band_weights (fraction_of (neg ratio))) (whole_of (neg ratio)) v i) (plus one back) (plus there back) B
      (alike_plus one there back back O (add-fits binary64 start (times quarter64 (v (w (pos i +ℤ s0))))) (mul-fits binary64 quarter64 (v (w (pos i -ℤ s0)))) (mul-fits binary64 quarter64 (v (w (pos i -ℤ s0)))) A (alike_refl back))

-- THE ENTRY AT ZERO FRACTION, of a core's shift
pub still_entry : (c : Core) (ratio : Float) (boundary : ℕ) → Fits ratio → T (finite ratio) → eq (fraction_of ratio) zero64 ≡ true
    → ((il im ir : ℕ) → il < c.rl → im < c.n → ir < c.rr → T (finite (entry c il im ir)))
    → (il im ir : ℕ) → il < c.rl → im < c.n → ir < c.rr
    → let w = wrapped boundary c.n in
    Alike (entry (made c ratio boundary) il im ir)
    (plus (plus (times half64 (entry c il im ir)) (times quarter64 (entry c il (w (pos im +ℤ whole_of ratio)) ir))) (times quarter64 (entry c il (w (pos im -ℤ whole_of ratio)) ir)))
still_entry c ratio boundary h f e known il im ir a b d =
    ap unsigned (entry_made c ratio boundary il im ir a b d)
    ∙ still_fibre c.n (wrapped boundary c.n) (λ z. wrapped_lt boundary c.n z (omega arith)) (λ (i : ℕ). entry c il i ir) (λ i l. known il i ir a l d) ratio h f e im

-- The digits that the code makes are those of the definitions. Assumes nothing.
use mathlib.Core.Path.{◌≡◌, refl, sym, ap, ◌∙◌}
use Prim.Native.Nat.{ℕ, ◌≤◌}
use native.Mathlib.Omega.{arith}
use mathlib.Core.Bool.{true, false≢true}
use mathlib.Core.List.{List}
use lib.ListN.{length, take}
use lib.Ieee.{Float, nan, inf, fin, binary64, is_nan, to_bits}
use Rattle.io.specs.Digits.{last_digits}
use Rattle.std.proofs.lemmas.List.{take_all}
use Rattle.digits.specs.Text.{bits_text}

pub nan_pattern : (x : Float) → is_nan x ≡ true → 0x7ff8_0000_0000_0000 ≡ to_bits binary64 x
unfolding is_nan to_bits
nan_pattern nan e = refl
nan_pattern (inf s) e = absurd (false≢true e)
nan_pattern (fin s m d) e = absurd (false≢true e)

-- a text with room for 16 digits holds the 16 that it was asked to hold
pub sixteen : (x : Float) (n k : ℕ) (text : List ℕ) → n ≡ to_bits binary64 x → length text ≡ 16 → k ≤ length text → 16 ≤ k → take k text ≡ last_digits 16 k n → text ≡ bits_text x
unfolding bits_text
sixteen x n k text e l p d t =
    let K : k ≡ 16 = omega arith in
    sym (take_all k text (omega arith)) ∙ t ∙ ap (λ (i : ℕ). last_digits 16 i n) K ∙ ap (last_digits 16 16) e

-- Laws of numbers in bytes: what was written is read again, and what was read is written as it stood. Assumes nothing.
use mathlib.Core.Path.{◌≡◌, refl, sym, ap, ◌∙◌}
use Prim.Native.Nat.{ℕ, zero, suc, ◌+◌, ◌*◌, ◌/◌, ◌%◌, ◌^◌, ◌≤◌, ◌<◌, zero-le, suc-le-suc}
use native.Mathlib.Nat.{not-suc-le-zero, le_of_suc-le-suc}
use native.Mathlib.Omega.{arith}
use mathlib.Core.Bool.{true}
use mathlib.Core.List.{List, [], ◌∷◌, ◌++◌}
use lib.Dec.{T}
use lib.ListN.{length, get_or, take, drop, length-take, length-drop}
use lib.Seq.{drop-cons}
use lib.Ieee.{Float, binary64, fits, to_bits, of_bits}
use lib.Ieee.Bits.{of_bits-to_bits, to_bits-lt, to_bits-of_bits}
use Rattle.std.specs.Int.{w16, w32, w64, from_le_bytes, to_le_bytes}
use Rattle.numbers.specs.Finite.{finite}
use Rattle.lists.specs.Lists.{listed, flat}
use Rattle.lists.specs.Floats.{at}
use Rattle.words.specs.Bytes.{bytes_of, number_at, f64, u16_at, u32_at, f64_at}
use Rattle.words.proofs.Cuts.{cut}
use Rattle.words.proofs.Finite.{finite_known}

-- each is a byte
abbrev pub AreBytes : List ℕ → Type 0
AreBytes l = (i : ℕ) → i < length l → get_or l i 0 < 256

-- each is an f64, as all numbers in memory are
abbrev pub AreDoubles : List Float → Type 0
AreDoubles l = (i : ℕ) → i < length l → T (fits binary64 (at l i))

pub bytes_length : (w x : ℕ) → length (bytes_of w x) ≡ w
unfolding bytes_of
bytes_length zero x = refl
bytes_length (suc w) x = ap suc (bytes_length w (x / 256))

-- ---- what is made of bytes is bytes
pub append_bytes : (l m : List ℕ) → AreBytes l → AreBytes m → AreBytes (l ++ m)
append_bytes [] m p q i lt = q i lt
append_bytes (x ∷ l) m p q zero lt = p zero (suc-le-suc zero-le)
append_bytes (x ∷ l) m p q (suc i) lt = append_bytes l m (λ j h. p (suc j) (suc-le-suc h)) q i (le_of_suc-le-suc lt)

pub joined_bytes : (f : ℕ → List ℕ) → ((k : ℕ) → AreBytes (f k)) → (m j : ℕ) → AreBytes (flat (listed m j f))
unfolding flat listed
joined_bytes f h zero j i lt = absurd (not-suc-le-zero lt)
joined_bytes f h (suc m) j i lt = append_bytes (f j) (flat (listed m (suc j) f)) (h j) (joined_bytes f h m (suc j)) i lt

pub number_bytes : (w x : ℕ) → AreBytes (bytes_of w x)
unfolding bytes_of
number_bytes zero x i lt = absurd (not-suc-le-zero lt)
number_bytes (suc w) x zero lt = omega arith
number_bytes (suc w) x (suc i) lt = number_bytes w (x / 256) i (le_of_suc-le-suc lt)

cut_cons : (w p : ℕ) (l : List ℕ) → p < length l → cut p (suc w) l ≡ get_or l p 0 ∷ cut (suc p) w l
cut_cons w p l lt = ap (take (suc w)) (drop-cons l p 0 lt)

-- ---- what was written is read again
pub reads : (w x p : ℕ) (l : List ℕ) → cut p w l ≡ bytes_of w x → x < 256 ^ w → number_at w l p ≡ x
unfolding bytes_of number_at
reads zero x p l e lt = omega arith
reads (suc w) x p l e lt =
    let lw : length (cut p (suc w) l) ≡ suc w = ap length e ∙ bytes_length (suc w) x in
    let here : p < length l = omega (arith, length-take (suc w) (drop p l), length-drop p l) in
    let both : get_or l p 0 ∷ cut (suc p) w l ≡ x % 256 ∷ bytes_of w (x / 256) = sym (cut_cons w p l here) ∙ e in
    let first : get_or l p 0 ≡ x % 256 = cc in
    let rest : cut (suc p) w l ≡ bytes_of w (x / 256) = cc in
    let ih : number_at w l (suc p) ≡ x / 256 = reads w (x / 256) (suc p) l rest (omega arith) in
    omega arith

-- ---- what was read is written as it stood
module _ (l : List ℕ) (bytes : AreBytes l) where
  number_lt : (w p : ℕ) → p + w ≤ length l → number_at w l p < 256 ^ w
  unfolding number_at
  number_lt zero p le = omega arith
  number_lt (suc w) p le = omega (arith, number_lt w (suc p) (omega arith), bytes p (omega arith))

  pub written : (w p : ℕ) → p + w ≤ length l → bytes_of w (number_at w l p) ≡ cut p w l
  unfolding bytes_of number_at
  written zero p le = refl
  written (suc w) p le =
      let b = bytes p (omega arith) in
      let n = number_at w l (suc p) in
      let low : (get_or l p 0 + 256 * n) % 256 ≡ get_or l p 0 = omega arith in
      let high : (get_or l p 0 + 256 * n) / 256 ≡ n = omega arith in
      rw (low, high) (ap (λ (t : List ℕ). get_or l p 0 ∷ t) (written w (suc p) (omega arith)) ∙ sym (cut_cons w p l (omega arith)))

-- ---- an f64
pub f64_reads : (x : Float) (p : ℕ) (l : List ℕ) → T (fits binary64 x) → cut p 8 l ≡ f64 x → f64_at l p ≡ x
f64_reads x p l fit e = ap (of_bits binary64) (reads 8 (to_bits binary64 x) p l e (to_bits-lt binary64 x fit)) ∙ of_bits-to_bits binary64 x fit

pub f64_written : (l : List ℕ) → AreBytes l → (p : ℕ) → p + 8 ≤ length l → finite (f64_at l p) ≡ true → f64 (f64_at l p) ≡ cut p 8 l
f64_written l bytes p le e = ap (bytes_of 8) (to_bits-of_bits binary64 (number_at 8 l p) (number_lt l bytes 8 p le) (finite_known (f64_at l p) e)) ∙ written l bytes 8 p le

-- ---- what the library reads and makes
module _ (l : List ℕ) (p : ℕ) where
  one : p + 1 ≡ suc p
  one = omega arith

  two : p + 2 ≡ suc (suc p)
  two = omega arith

  three : p + 3 ≡ suc (suc (suc p))
  three = omega arith

  four : p + 4 ≡ suc (suc (suc (suc p)))
  four = omega arith

  pub two_at : from_le_bytes w16 (get_or l p 0 ∷ get_or l (p + 1) 0 ∷ []) ≡ u16_at l p
  unfolding number_at
  two_at = rw one (omega arith)

  pub four_at : from_le_bytes w32 (get_or l p 0 ∷ get_or l (p + 1) 0 ∷ get_or l (p + 2) 0 ∷ get_or l (p + 3) 0 ∷ []) ≡ u32_at l p
  unfolding number_at
  four_at = rw (one, two, three) (omega arith)

  pub eight_at : u32_at l p + 4294967296 * u32_at l (p + 4) ≡ number_at 8 l p
  unfolding number_at
  eight_at = rw four (omega arith)

pub two_bytes : (x : ℕ) → to_le_bytes w16 (x % 65536) ≡ bytes_of 2 x
unfolding bytes_of
two_bytes x =
    let a : x % 65536 % 256 ≡ x % 256 = omega arith in
    let b : x % 65536 / 256 % 256 ≡ x / 256 % 256 = omega arith in
    λ i. a i ∷ b i ∷ []

pub four_bytes : (x : ℕ) → to_le_bytes w32 (x % 4294967296) ≡ bytes_of 4 x
unfolding bytes_of
four_bytes x =
    let a : x % 4294967296 % 256 ≡ x % 256 = omega arith in
    let b : x % 4294967296 / 256 % 256 ≡ x / 256 % 256 = omega arith in
    let c : x % 4294967296 / 65536 % 256 ≡ x / 256 / 256 % 256 = omega arith in
    let d : x % 4294967296 / 16777216 % 256 ≡ x / 256 / 256 / 256 % 256 = omega arith in
    λ i. a i ∷ b i ∷ c i ∷ d i ∷ []

pub eight_bytes : (x : ℕ) → to_le_bytes w64 x ≡ bytes_of 8 x
unfolding bytes_of
eight_bytes x =
    let c : x / 65536 ≡ x / 256 / 256 = omega arith in
    let d : x / 16777216 ≡ x / 256 / 256 / 256 = omega arith in
    let e : x / 4294967296 ≡ x / 256 / 256 / 256 / 256 = omega arith in
    let f : x / 1099511627776 ≡ x / 256 / 256 / 256 / 256 / 256 = omega arith in
    let g : x / 281474976710656 ≡ x / 256 / 256 / 256 / 256 / 256 / 256 = omega arith in
    let h : x / 72057594037927936 ≡ x / 256 / 256 / 256 / 256 / 256 / 256 / 256 = omega arith in
    rw (c, d, e, f, g, h)

-- `numbers::near`: g * g is taken in two halves of 26 digits (square), so no product wraps, and the last comparison is that of the squares.
use mathlib.Core.Path.{◌≡◌, sym, subst}
use lib.Dec.{T, leb→le}
use mathlib.Core.Bool.{true, false, true≢false}
use Prim.Native.Nat.{◌+◌, ◌-◌, ◌*◌, ◌/◌, ◌%◌}
use native.Mathlib.Omega.{arith}
use Rattle.numbers.proofs.TwoDigits.{high_square, cross, low_square, square}
use Rattle.numbers.proofs.near.Goals as goal

no : {A : Type 0} → false ≡ true → A
no e = absurd (true≢false (sym e))

pub overflow_mul-square : goal.overflow_mul-square
overflow_mul-square c = omega (arith, high_square c.args.g c.requires.2)

pub returns-then-m-square : goal.returns-then-m-square
returns-then-m-square c = no

pub returns-then-left-ge68719476736 : goal.returns-then-left-ge68719476736
returns-then-left-ge68719476736 c = no

pub overflow_mul-cross : goal.overflow_mul-cross
overflow_mul-cross c = omega (arith, cross c.args.g c.requires.2)

pub overflow_mul-cross-2 : goal.overflow_mul-cross-2
overflow_mul-cross-2 c = omega (arith, cross c.args.g c.requires.2)

pub returns-then-room-cross : goal.returns-then-room-cross
returns-then-room-cross c = no

pub returns-then-rest-ge1073741824 : goal.returns-then-rest-ge1073741824
returns-then-rest-ge1073741824 c = no

pub overflow_mul-want : goal.overflow_mul-want
overflow_mul-want c = omega (arith, low_square c.args.g c.requires.2)

pub overflow_add-want : goal.overflow_add-want
overflow_add-want c = omega (arith, low_square c.args.g c.requires.2)

pub returns-then-have-want : goal.returns-then-have-want
returns-then-have-want c = no

pub returns : goal.returns
returns c e = let g = c.args.g in
    let m = c.args.m in
    let s = square g c.requires.2 in
    let l = leb→le (((m - g / 67108864 * (g / 67108864)) * 67108864 + 134217728 - g / 67108864 * (g % 67108864) * 2) * 67108864 + g) (g % 67108864 * (g % 67108864) + 9007199254740992 + g * 2) (subst T (sym e) tt) in
    (omega (arith, s, l), omega (arith, s, l))

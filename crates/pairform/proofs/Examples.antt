-- Pairs done by hand, by computation. Assumes nothing.
use mathlib.Core.Path.{◌≡◌, refl}
use Prim.Native.Nat.{ℕ, ◌-◌, ◌^◌}
use mathlib.Core.Bool.{Bool, true, false}
use mathlib.Core.List.{List, [], ◌∷◌, ◌++◌, map}
use lib.IntN.{pos, negsuc}
use lib.ListN.{length, take, replicate}
use lib.Ieee.{Float, nan, fin, binary64, add, sub, mul, div, lt, le, eq, round, of_bits, to_bits}
use Rattle.numbers.specs.Arithmetic.{zero64, one64, two64, tolerance64}
use Rattle.numbers.specs.Magnitude.{magnitude_of}
use Rattle.numbers.specs.Root.{root_in, whole_root, root_of_units, root_of}
use Rattle.std.specs.Prelude.{Ok, Err}
use Rattle.answers.specs.Outcome.{Answer, demand}
use Rattle.answers.specs.Table.{told_of}
use Rattle.lists.specs.Lists.{pick, listed, flat, first, count, pairs}
use Rattle.lists.specs.Slots.{fit}
use Rattle.lists.specs.Walks.{along}
use Rattle.lists.specs.Floats.{zeros, sum_on, sum_to, all_finite, first_not_finite, stored}
use Rattle.shape.specs.Cores.{Core, core_with, place, entry, block}
use Rattle.cutform.specs.Rotation.{tangent_of, slope_of, cosine_of, turned_at, eye}
use Rattle.cutform.specs.Values.{place_in, index_at, order, sorted, threshold_of, kept_rank}
use Rattle.cutform.specs.Call.{not_below_zero, scratch_after}
use Rattle.pairform.specs.declared.Paired.{Paired}
use Rattle.pairform.specs.Slabs.{plus_product, slab_entry, slab}
use Rattle.pairform.specs.Columns.{turn_stored, dot, skipped}
use Rattle.pairform.specs.Passes.{turned_svd, rotate, pass, passes_from, orthogonalized, start}
use Rattle.pairform.specs.Splits.{values, formed, cut, split, pair_of}
use Rattle.pairform.specs.Numbers.{inverse, left_numbers, right_numbers}
use Rattle.shape.specs.Limits.{pair_scratch}
use Rattle.pairform.specs.Call.{sizes_ok, core_numbers, left_room, right_room, pair_sized, pair_lent, pair_finite, pair_ok, PairEnded, pair_by, pair_call}

-- the tolerance is the f64 nearest to 1e-14
tolerance_nearest : tolerance64 ≡ round binary64 false 1 (10 ^ 14)
unfolding of_bits round
tolerance_nearest = refl

-- ---- what a call answers: what is told of a refusal, or the rank, the passes and the first i and j numbers of its outputs, by their bits
abbrev bits : List Float → List ℕ
bits xs = map (to_bits binary64) xs

abbrev told : ℕ → ℕ → PairEnded → Answer Paired → List ℕ
told i j e (Ok w) = w.rank ∷ w.passes ∷ (bits (take i e.left) ++ bits (take j e.right))
told i j e (Err r) = told_of (Err r)

-- the outputs hold ones before the call
abbrev answer : ℕ → ℕ → Core → Core → Float → List ℕ
answer i j l r eps =
    let e = pair_call l r eps (replicate (left_room l) one64) (replicate (right_room r) one64) (zeros pair_scratch) in
    told i j e e.result

-- ---- numbers and cores
abbrev whole : ℕ → Float
whole m = fin false m (pos 0)

-- ±2 ^ -k
abbrev small : Bool → ℕ → Float
small s k = fin s 1 (negsuc (k - 1))

abbrev large : ℕ → Float
large k = fin false 1 (pos k)

abbrev points : List Float → Core
points xs = core_with 1 (length xs) 1 xs

abbrev ones : ℕ → Core
ones n = points (replicate n one64)

unfoldable cases : List (List ℕ × List ℕ)
cases =
    -- the slab is 6, 8: one pass, which is quiet; the value is 10, and (6 * (1/10)) * 10 is the f64 above 6
    (answer 3 2 (points (whole 3 ∷ large 2 ∷ [])) (points (two64 ∷ [])) zero64, 1 ∷ 1 ∷ 0x4018_0000_0000_0001 ∷ 0x4020_0000_0000_0000 ∷ 0 ∷ 0x3ff0_0000_0000_0000 ∷ 0 ∷ [])
    -- the columns are 1, 2 and 1, 2: turned by half a right angle the first becomes 0, 0, and the second pass is quiet
    ∷ (answer 3 3 (points (one64 ∷ two64 ∷ [])) (ones 2) zero64, 1 ∷ 2 ∷ 0x3ff6_a09e_667f_3bcc ∷ 0x4006_a09e_667f_3bcc ∷ 0 ∷ 0x3fe6_a09e_667f_3bcc ∷ 0x3fe6_a09e_667f_3bcc ∷ 0 ∷ [])
    -- the columns are 1, 0 and 1e-14, 1: just at the tolerance, so they are not turned
    ∷ (
      answer 4 4 (core_with 1 2 2 (one64 ∷ zero64 ∷ zero64 ∷ one64 ∷ [])) (core_with 2 2 1 (one64 ∷ tolerance64 ∷ zero64 ∷ one64 ∷ [])) zero64,
      2 ∷ 1 ∷ (bits (one64 ∷ tolerance64 ∷ zero64 ∷ one64 ∷ []) ++ bits (one64 ∷ zero64 ∷ zero64 ∷ one64 ∷ [])),
    )
    -- columns so small that bp*bq is zero are not turned either: the kept rank is their number, above the rows, and 9 is refused
    ∷ (answer 0 0 (points (small false 300 ∷ [])) (ones 8) zero64, 8 ∷ 1 ∷ [])
    ∷ (answer 0 0 (points (small false 300 ∷ [])) (ones 9) zero64, 10 ∷ 0 ∷ 0 ∷ [])
    -- a value of zero: 0 of the column's sign
    ∷ (answer 1 1 (points (small true 600 ∷ [])) (ones 1) zero64, 1 ∷ 1 ∷ 0x8000_0000_0000_0000 ∷ 0x3ff0_0000_0000_0000 ∷ [])
    -- the slab, row after row, at its first number that is too large
    ∷ (answer 0 0 (points (large 512 ∷ [])) (points (large 512 ∷ [])) zero64, 9 ∷ 0 ∷ 0 ∷ [])
    ∷ (answer 0 0 (points (one64 ∷ large 512 ∷ [])) (points (one64 ∷ large 512 ∷ large 512 ∷ [])) zero64, 9 ∷ 0 ∷ 4 ∷ [])
    -- the values as they are made: the second column's sum of squares is too large, its product with the first one isn't
    ∷ (answer 0 0 (points (large 512 ∷ [])) (ones 1) zero64, 12 ∷ 0 ∷ 0 ∷ [])
    ∷ (answer 0 0 (ones 1) (points (one64 ∷ large 512 ∷ [])) zero64, 12 ∷ 0 ∷ 1 ∷ [])
    -- the columns after a rotation, column after column: with two such columns their product is too large too, and the angle is no number
    ∷ (answer 0 0 (ones 2) (points (one64 ∷ large 512 ∷ large 512 ∷ [])) zero64, 12 ∷ 0 ∷ 2 ∷ [])
    -- 65 rows, 65 columns, middle ranks that differ
    ∷ (answer 0 0 (core_with 5 13 1 []) (core_with 1 13 5 []) zero64, 2 ∷ 0 ∷ 0 ∷ [])
    ∷ (answer 0 0 (ones 1) (core_with 1 13 5 []) zero64, 2 ∷ 1 ∷ 0 ∷ [])
    ∷ (answer 0 0 (core_with 1 1 2 (one64 ∷ one64 ∷ [])) (ones 1) zero64, 3 ∷ 0 ∷ 0 ∷ [])
    -- eps: no number, below zero, -0
    ∷ (answer 0 0 (ones 1) (ones 1) nan, 6 ∷ 0 ∷ 0 ∷ [])
    ∷ (answer 0 0 (ones 1) (ones 1) (fin true 1 (pos 0)), 7 ∷ 0 ∷ 0 ∷ [])
    ∷ (answer 1 1 (ones 1) (ones 1) (fin true 0 (pos 0)), 1 ∷ 1 ∷ bits (one64 ∷ one64 ∷ []))
    ∷ []

abbrev AllRight : List (List ℕ × List ℕ) → Type 0
AllRight [] = Unit {0}
AllRight (c ∷ cs) = (c.0 ≡ c.1) × AllRight cs

by_hand : AllRight cases
unfolding cases add sub mul div lt le eq of_bits to_bits magnitude_of root_in whole_root root_of_units root_of demand pick listed flat first count pairs fit along sum_on
    sum_to all_finite first_not_finite stored place entry block tangent_of slope_of cosine_of turned_at eye place_in index_at order sorted threshold_of kept_rank
    not_below_zero scratch_after plus_product slab_entry slab turn_stored turned_svd dot skipped rotate pass passes_from orthogonalized start values inverse left_numbers
    right_numbers formed cut split pair_of sizes_ok core_numbers left_room right_room pair_sized pair_lent pair_finite pair_ok pair_by pair_call
by_hand =
    (refl, (refl, (refl, (refl, (refl, (refl, (refl, (refl, (refl, (refl, (refl, (refl, (refl, (refl, (refl, (refl, (refl, tt)))))))))))))))))

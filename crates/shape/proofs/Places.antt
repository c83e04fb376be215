-- Where an entry stands, and that a core's numbers hold what they were made from. Nobody else needs to know the layout. Assumes nothing.
use mathlib.Core.Path.{◌≡◌, refl, sym, ap, ◌∙◌}
use Prim.Native.Nat.{ℕ, ◌+◌, ◌-◌, ◌*◌, ◌/◌, ◌<◌, ◌≤◌, min}
use native.Mathlib.Nat.{mul_assoc, add_assoc, le_refl, suc-mul, mul-le-mul_left, mul-le-mul_right, div-add-mod', div-lt_iff_lt-mul}
use native.Mathlib.Omega.{arith}
use mathlib.Core.Bool.{Bool, true, false}
use borrow.Author.Tests.{leb-false}
use lib.Dec.{leb}
use Rattle.lists.proofs.Tests.{leb_is}
use mathlib.Core.List.{List}
use lib.ListN.{length, get_or}
use lib.Ieee.{Float, nan}
use Rattle.lists.specs.Lists.{tab, grid}
use Rattle.lists.specs.Floats.{at}
use Rattle.lists.proofs.Cells.{cell_lt}
use Rattle.lists.proofs.Tables.{length_joined, get_or_joined_lem, length_grid, get_or_grid_lem, joined_same, joined_rows, tab_rows, grid_same}
use Rattle.shape.specs.Cores.{core_with, place, entry, block}

-- in line il of n * rr numbers, and in row (il, im) of rr
pub place_line : (n rr il im ir : ℕ) → place n rr il im ir ≡ il * (n * rr) + (im * rr + ir)
unfolding place
place_line n rr il im ir = ap (λ (x : ℕ). x + im * rr + ir) (mul_assoc il n rr) ∙ add_assoc (il * (n * rr)) (im * rr) ir

pub place_row : (n rr il im ir : ℕ) → place n rr il im ir ≡ (il * n + im) * rr + ir
unfolding place
place_row n rr il im ir = omega arith

module _ (rl n rr : ℕ) (l : List Float) where
  pub entry_line : (il im ir : ℕ) → entry (core_with rl n rr l) il im ir ≡ at l (il * (n * rr) + (im * rr + ir))
  unfolding entry
  entry_line il im ir = ap (at l) (place_line n rr il im ir)

  pub entry_row : (il im ir : ℕ) → entry (core_with rl n rr l) il im ir ≡ at l ((il * n + im) * rr + ir)
  unfolding entry
  entry_row il im ir = ap (at l) (place_row n rr il im ir)

module _ (rl n rr : ℕ) where
  pub place_lt : (il im ir : ℕ) → il < rl → im < n → ir < rr → place n rr il im ir < rl * n * rr
  place_lt il im ir a b c = rw (place_line n rr il im ir, mul_assoc rl n rr) (cell_lt il rl (n * rr) (im * rr + ir) (rl * (n * rr)) a (cell_lt im n rr ir (n * rr) b c (le_refl (n * rr))) (le_refl (rl * (n * rr))))

  module _ (f : ℕ → ℕ → ℕ → Float) where
    pub block_length : length (block rl n rr f) ≡ rl * n * rr
    unfolding block
    block_length = length_joined (n * rr) (λ (il : ℕ). grid n rr (f il)) (λ il. length_grid n rr (f il)) rl ∙ sym (mul_assoc rl n rr)

    pub block_at : (il im ir : ℕ) → il < rl → im < n → ir < rr → get_or (block rl n rr f) (place n rr il im ir) nan ≡ f il im ir
    unfolding block
    block_at il im ir a b c =
        ap (λ (x : ℕ). get_or (block rl n rr f) x nan) (place_line n rr il im ir)
        ∙ get_or_joined_lem (n * rr) (λ (i : ℕ). grid n rr (f i)) (λ i. length_grid n rr (f i)) rl il (im * rr + ir) nan a (cell_lt im n rr ir (n * rr) b c (le_refl (n * rr)))
        ∙ get_or_grid_lem n rr (f il) im ir nan b c

    -- the same numbers as rows of rr, one for each (il, im), and as rows of n * rr, one for each il
    pub block_rows : (g : ℕ → ℕ → Float) → ((il im ir : ℕ) → il < rl → im < n → ir < rr → g (il * n + im) ir ≡ f il im ir) → block rl n rr f ≡ grid (rl * n) rr g
    unfolding block
    block_rows g h =
        joined_same rl (λ (il : ℕ). grid n rr (f il)) (λ (il : ℕ). grid n rr (λ (im : ℕ). g (il * n + im))) (λ il p. grid_same n rr (f il) (λ (im : ℕ). g (il * n + im)) (λ im ir q s. sym (h il im ir p q s)))
        ∙ sym (joined_rows rl n (λ (i : ℕ). tab rr (g i)))

    pub block_lines : (g : ℕ → ℕ → Float) → ((il im ir : ℕ) → il < rl → im < n → ir < rr → g il (im * rr + ir) ≡ f il im ir) → block rl n rr f ≡ grid rl (n * rr) g
    unfolding block
    block_lines g h =
        joined_same rl (λ (il : ℕ). grid n rr (f il)) (λ (il : ℕ). tab (n * rr) (g il))
        (λ il p. grid_same n rr (f il) (λ (im ir : ℕ). g il (im * rr + ir)) (λ im ir q s. sym (h il im ir p q s)) ∙ sym (tab_rows n rr (g il)))

    -- what a core was made from is what is read
    pub entry_block : (il im ir : ℕ) → il < rl → im < n → ir < rr → entry (core_with rl n rr (block rl n rr f)) il im ir ≡ f il im ir
    unfolding entry
    entry_block il im ir a b c = block_at il im ir a b c

-- ---- where an entry stands, cut off at m: row by row, each cut off by itself
pub capped_at : (row n i m : ℕ) → i < n → (m - i) / n < row → m ≡ min (row * n + i) m
capped_at row n i m l g = let h : m - i < row * n = (div-lt_iff_lt-mul {k = n} (omega arith)).0 g in omega arith

pub capped_not : (row n i m : ℕ) → i < m → row ≤ (m - i) / n → row * n + i ≤ m
capped_not row n i m l g = omega (arith, mul-le-mul_right n g, div-add-mod' (m - i) n)

module _ (n rr il im ir m : ℕ) where
  pub place_capped : ir < rr → (row : ℕ) → row ≡ min (il * n + im) m → min (row * rr + ir) m ≡ min (place n rr il im ir) m
  place_capped l row e = rw (place_row n rr il im ir) (go (leb (il * n + im) m) refl)
    where
      go : (t : Bool) → leb (il * n + im) m ≡ t → min (row * rr + ir) m ≡ min ((il * n + im) * rr + ir) m
      go true h = let q : row ≡ il * n + im = omega (arith, leb_is (il * n + im) m h) in rw q
      go false h =
          let q : m < il * n + im = leb-false (il * n + im) m h in
          let r : row ≡ m = omega arith in
          let u : 1 ≤ rr = omega arith in
          rw r (omega (arith, mul-le-mul_right rr q, suc-mul m rr, mul-le-mul_left m u))

-- Packing undoes cutting, and cutting undoes packing. Assumes nothing.
use mathlib.Core.Path.{◌≡◌, refl, sym, ap, ◌∙◌}
use Prim.Native.Nat.{ℕ, zero, suc, ◌+◌, ◌*◌, ◌≤◌, ◌<◌}
use native.Mathlib.Nat.{add-zero, zero-add, add-suc, suc-add, not-suc-le-zero, le_of_suc-le-suc, le_refl}
use native.Mathlib.Omega.{arith}
use mathlib.Core.List.{List, [], ◌∷◌, ◌++◌, map}
use lib.ListN.{length, get_or, set, length-set, length-map, get_or-map}
use lib.Seq.{take_all, get_or-set_same, get_or-set_other}
use lib.Ieee.{Float, nan}
use Rattle.lists.specs.Lists.{tab, flat}
use Rattle.lists.specs.Slots.{offset, slot}
use Rattle.lists.proofs.Tables.{tab_map, tab_get_d_lem, listed_same}
use Rattle.lists.proofs.Slots.{slots_joined, slot_flat, flat_length}
use Rattle.shape.specs.declared.Shape.{Shape}
use Rattle.shape.specs.Shapes.{left_of, points_of, right_of, core_size, entries_of}
use Rattle.shape.specs.Cores.{Core, core_with, core_at, cores_of, packed, with_core, reshaped}

-- a chain of N numbers, cut by its shape and packed again
pub pack_cut : (s : Shape) (l : List Float) → length l ≡ entries_of s → packed (cores_of s l) ≡ l
unfolding cores_of core_at
pack_cut s l e =
    ap flat (tab_map (λ (c : Core). c.entries) s.d (core_at s l))
    ∙ slots_joined (core_size s) s.d l
    ∙ take_all (entries_of s) l (omega arith)

-- ---- the ranks that cores bring into a shape
-- xs over l from k on
set_from : ℕ → List ℕ → List ℕ → List ℕ
set_from k [] l = l
set_from k (x ∷ xs) l = set_from (suc k) xs (set l k x)

set_before : (k : ℕ) (xs l : List ℕ) (j : ℕ) → j < k → get_or (set_from k xs l) j 0 ≡ get_or l j 0
unfolding set_from
set_before k [] l j lt = refl
set_before k (x ∷ xs) l j lt = set_before (suc k) xs (set l k x) j (omega arith) ∙ get_or-set_other l k j x 0 (λ e. omega arith)

set_at : (k : ℕ) (xs l : List ℕ) (j : ℕ) → j < length xs → k + length xs ≤ length l → get_or (set_from k xs l) (k + j) 0 ≡ get_or xs j 0
unfolding set_from
set_at k [] l j lt room = absurd (not-suc-le-zero lt)
set_at k (x ∷ xs) l zero lt room = ap (λ (i : ℕ). get_or (set_from (suc k) xs (set l k x)) i 0) (add-zero k) ∙ set_before (suc k) xs (set l k x) k (le_refl (suc k)) ∙ get_or-set_same l k x 0 (omega arith)
set_at k (x ∷ xs) l (suc j) lt room =
    let n = length-set l k x in
    ap (λ (i : ℕ). get_or (set_from (suc k) xs (set l k x)) i 0) (add-suc k j ∙ sym (suc-add k j)) ∙ set_at (suc k) xs (set l k x) j (le_of_suc-le-suc lt) (omega arith)

reshaped_is : (k : ℕ) (s : Shape) (cs : List Core) → reshaped k s cs ≡ record { d = s.d; left = set_from k (map (λ (c : Core). c.rl) cs) s.left; n = s.n; right = set_from k (map (λ (c : Core). c.rr) cs) s.right }
unfolding reshaped set_from
reshaped_is k s [] = refl
reshaped_is k s (c ∷ cs) = reshaped_is (suc k) (with_core s k c) cs

abbrev no_core : Core
no_core = core_with 0 0 0 []

-- d cores that fit the shape's points, each with as many numbers as its ranks and points say
pub record Fitting (s : Shape) (cs : List Core) : Type 0 where
  pub all : length cs ≡ s.d
  pub left : s.d ≤ length s.left
  pub right : s.d ≤ length s.right
  pub points : (k : ℕ) → k < s.d → (get_or cs k no_core).n ≡ points_of s k
  pub long : (k : ℕ) → k < s.d → length (get_or cs k no_core).entries ≡ (get_or cs k no_core).rl * (get_or cs k no_core).n * (get_or cs k no_core).rr

module _ (s : Shape) (cs : List Core) (F : Fitting s cs) where
  count_is : (reshaped 0 s cs).d ≡ s.d
  count_is = ap (λ (x : Shape). x.d) (reshaped_is 0 s cs)

  points_are : (reshaped 0 s cs).n ≡ s.n
  points_are = ap (λ (x : Shape). x.n) (reshaped_is 0 s cs)

  rank_at : (f : Core → ℕ) (l : List ℕ) → f no_core ≡ 0 → s.d ≤ length l → (k : ℕ) → k < s.d → get_or (set_from 0 (map f cs) l) k 0 ≡ f (get_or cs k no_core)
  rank_at f l z room k lt =
      let m = length-map cs f in
      let a = F.all in
      ap (λ (i : ℕ). get_or (set_from 0 (map f cs) l) i 0) (sym (zero-add k))
      ∙ set_at 0 (map f cs) l k (omega arith) (omega arith)
      ∙ ap (λ (o : ℕ). get_or (map f cs) k o) (sym z)
      ∙ get_or-map f cs k no_core

  left_at : (k : ℕ) → k < s.d → left_of (reshaped 0 s cs) k ≡ (get_or cs k no_core).rl
  left_at k lt = ap (λ (x : Shape). left_of x k) (reshaped_is 0 s cs) ∙ rank_at (λ (c : Core). c.rl) s.left refl F.left k lt

  right_at : (k : ℕ) → k < s.d → right_of (reshaped 0 s cs) k ≡ (get_or cs k no_core).rr
  right_at k lt = ap (λ (x : Shape). right_of x k) (reshaped_is 0 s cs) ∙ rank_at (λ (c : Core). c.rr) s.right refl F.right k lt

  points_at_lem : (k : ℕ) → k < s.d → points_of (reshaped 0 s cs) k ≡ (get_or cs k no_core).n
  points_at_lem k lt = ap (λ (l : List ℕ). get_or l k 0) points_are ∙ sym (F.points k lt)

  size_at : (k : ℕ) → k < s.d → length (get_or (map (λ (c : Core). c.entries) cs) k []) ≡ core_size (reshaped 0 s cs) k
  unfolding core_size
  size_at k lt =
      ap length (get_or-map (λ (c : Core). c.entries) cs k no_core)
      ∙ F.long k lt
      ∙ sym (ap (λ (x : ℕ). x * points_of (reshaped 0 s cs) k * right_of (reshaped 0 s cs) k) (left_at k lt)
      ∙ ap (λ (x : ℕ). (get_or cs k no_core).rl * x * right_of (reshaped 0 s cs) k) (points_at_lem k lt)
      ∙ ap (λ (x : ℕ). (get_or cs k no_core).rl * (get_or cs k no_core).n * x) (right_at k lt))

  all_sizes : (k : ℕ) → k < length (map (λ (c : Core). c.entries) cs) → length (get_or (map (λ (c : Core). c.entries) cs) k []) ≡ core_size (reshaped 0 s cs) k
  all_sizes k lt = let m = length-map cs (λ (c : Core). c.entries) in let a = F.all in size_at k (omega arith)

  core_at_lem : (l : List Float) (k : ℕ) → k < s.d → core_at (reshaped 0 s cs) (packed cs ++ l) k ≡ get_or cs k no_core
  unfolding core_at
  core_at_lem l k lt =
      let m = length-map cs (λ (c : Core). c.entries) in
      let a = F.all in
      let c = get_or cs k no_core in
      let t = reshaped 0 s cs in
      let w : slot (core_size t) k (packed cs ++ l) ≡ c.entries =
      slot_flat (core_size t) nan (map (λ (c : Core). c.entries) cs) all_sizes l k (omega arith) ∙ get_or-map (λ (c : Core). c.entries) cs k no_core in
      ap (λ (e : List Float). core_with (left_of t k) (points_of t k) (right_of t k) e) w
      ∙ ap (λ (x : ℕ). core_with x (points_of t k) (right_of t k) c.entries) (left_at k lt)
      ∙ ap (λ (x : ℕ). core_with c.rl x (right_of t k) c.entries) (points_at_lem k lt)
      ∙ ap (λ (x : ℕ). core_with c.rl c.n x c.entries) (right_at k lt)

  -- the cores packed, whatever stands behind them, and cut by the new shape
  pub cut_pack : (l : List Float) → cores_of (reshaped 0 s cs) (packed cs ++ l) ≡ cs
  unfolding cores_of
  cut_pack l =
      let a = F.all in
      ap (λ (d : ℕ). tab d (core_at (reshaped 0 s cs) (packed cs ++ l))) (count_is ∙ sym a)
      ∙ listed_same (length cs) 0 (core_at (reshaped 0 s cs) (packed cs ++ l)) (λ (k : ℕ). get_or cs k no_core) (λ k p q. core_at_lem l k (omega arith))
      ∙ tab_get_d_lem no_core cs

  -- the new shape's N is the number of numbers packed
  pub pack_length : length (packed cs) ≡ entries_of (reshaped 0 s cs)
  pack_length =
      flat_length (core_size (reshaped 0 s cs)) nan (map (λ (c : Core). c.entries) cs) all_sizes
      ∙ ap (offset (core_size (reshaped 0 s cs))) (length-map cs (λ (c : Core). c.entries) ∙ F.all ∙ sym count_is)

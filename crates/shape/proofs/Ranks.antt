-- A shape whose ranks change core by core: what changes, what stays, and the way to the shape with the ranks of a list of cores. Assumes nothing.
use mathlib.Core.Path.{◌≡◌, refl, sym, ap, ◌∙◌, subst}
use Prim.Native.Nat.{ℕ, suc, ◌+◌, ◌*◌, ◌≤◌, ◌<◌}
use native.Mathlib.Nat.{add-zero, add-suc, suc-add}
use native.Mathlib.Omega.{arith}
use mathlib.Core.Bool.{Bool, true, false}
use lib.Dec.{eqb}
use mathlib.Core.List.{List, [], ◌∷◌, ◌++◌}
use lib.ListN.{length, length-set}
use lib.Seq.{get_or-set_same, get_or-set_other}
use Rattle.lists.specs.Slots.{offset}
use Rattle.lists.proofs.Tests.{eqb_is, eqb_not}
use Rattle.shape.specs.declared.Shape.{Shape}
use Rattle.shape.specs.Limits.{most_rank}
use Rattle.shape.specs.Shapes.{left_of, points_of, right_of, core_size}
use Rattle.shape.specs.Sizes.{SizesWithin}
use Rattle.shape.specs.Cores.{Core, with_core, reshaped}
use Rattle.shape.proofs.Offsets.{offset_same}

-- ---- one core's ranks
module _ (s : Shape) (k : ℕ) (c : Core) where
  module _ (j : ℕ) (ne : j ≡ k → ⊥) where
    pub left_other : left_of (with_core s k c) j ≡ left_of s j
    left_other = get_or-set_other s.left k j c.rl 0 ne

    pub right_other : right_of (with_core s k c) j ≡ right_of s j
    right_other = get_or-set_other s.right k j c.rr 0 ne

    pub size_other : core_size (with_core s k c) j ≡ core_size s j
    unfolding core_size
    size_other = cc (left_other, right_other)

  pub left_here : k < length s.left → left_of (with_core s k c) k ≡ c.rl
  left_here l = get_or-set_same s.left k c.rl 0 l

  pub right_here : k < length s.right → right_of (with_core s k c) k ≡ c.rr
  right_here l = get_or-set_same s.right k c.rr 0 l

  pub size_here : k < length s.left → k < length s.right → core_size (with_core s k c) k ≡ c.rl * points_of s k * c.rr
  unfolding core_size
  size_here l r = cc (left_here l, right_here r)

  -- what stands before core k stays where it was
  pub offset_other : (j : ℕ) → j ≤ k → offset (core_size (with_core s k c)) j ≡ offset (core_size s) j
  offset_other j l = offset_same (core_size (with_core s k c)) (core_size s) j (λ i m. size_other i (λ e. omega arith))

  -- ranks within their limits leave it within
  pub still_within : k < length s.left → k < length s.right → (1 ≤ c.rl) × (c.rl ≤ most_rank) → (1 ≤ c.rr) × (c.rr ≤ most_rank) → SizesWithin s → SizesWithin (with_core s k c)
  still_within l r a b w =
      record {
        axes = record { least = w.axes.least; most = w.axes.most; points = w.axes.points };
        left = λ j lt. at_or (λ (x : ℕ). (1 ≤ x) × (x ≤ most_rank)) j (left_of (with_core s k c)) (left_of s) (left_here l) (left_other j) a (w.left j lt);
        right = λ j lt. at_or (λ (x : ℕ). (1 ≤ x) × (x ≤ most_rank)) j (right_of (with_core s k c)) (right_of s) (right_here r) (right_other j) b (w.right j lt);
      }
    where
      -- what holds of the new rank at k and of the old one elsewhere
      at_or : (P : ℕ → Type 0) (j : ℕ) (new old : ℕ → ℕ) {x : ℕ} → new k ≡ x → ((j ≡ k → ⊥) → new j ≡ old j) → P x → P (old j) → P (new j)
      at_or P j new old here other p q = go (eqb j k) refl
        where
          go : (t : Bool) → eqb j k ≡ t → P (new j)
          go true e = subst P (sym (ap new (eqb_is j k e) ∙ here)) p
          go false e = subst P (sym (other (eqb_not j k e))) q

-- ---- core after core
pub reshaped_none : (k : ℕ) (s : Shape) → reshaped k s [] ≡ s
unfolding reshaped
reshaped_none k s = refl

pub reshaped_more : (k : ℕ) (s : Shape) (c : Core) (cs : List Core) → reshaped k s (c ∷ cs) ≡ reshaped (suc k) (with_core s k c) cs
unfolding reshaped
reshaped_more k s c cs = refl

-- one core more behind those that were made
pub reshaped_behind : (k : ℕ) (s : Shape) (cs : List Core) (c : Core) → reshaped k s (cs ++ (c ∷ [])) ≡ with_core (reshaped k s cs) (k + length cs) c
unfolding reshaped
reshaped_behind k s [] c = ap (λ (j : ℕ). with_core s j c) (sym (add-zero k))
reshaped_behind k s (b ∷ cs) c = reshaped_behind (suc k) (with_core s k b) cs c ∙ ap (λ (j : ℕ). with_core (reshaped (suc k) (with_core s k b) cs) j c) (suc-add k (length cs) ∙ sym (add-suc k (length cs)))

pub reshaped_count : (k : ℕ) (s : Shape) (cs : List Core) → (reshaped k s cs).d ≡ s.d
unfolding reshaped
reshaped_count k s [] = refl
reshaped_count k s (c ∷ cs) = reshaped_count (suc k) (with_core s k c) cs

pub reshaped_points : (k : ℕ) (s : Shape) (cs : List Core) → (reshaped k s cs).n ≡ s.n
unfolding reshaped
reshaped_points k s [] = refl
reshaped_points k s (c ∷ cs) = reshaped_points (suc k) (with_core s k c) cs

pub reshaped_left : (k : ℕ) (s : Shape) (cs : List Core) → length (reshaped k s cs).left ≡ length s.left
unfolding reshaped
reshaped_left k s [] = refl
reshaped_left k s (c ∷ cs) = reshaped_left (suc k) (with_core s k c) cs ∙ length-set s.left k c.rl

pub reshaped_right : (k : ℕ) (s : Shape) (cs : List Core) → length (reshaped k s cs).right ≡ length s.right
unfolding reshaped
reshaped_right k s [] = refl
reshaped_right k s (c ∷ cs) = reshaped_right (suc k) (with_core s k c) cs ∙ length-set s.right k c.rr

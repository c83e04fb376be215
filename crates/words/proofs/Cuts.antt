-- Parts of a list by place and width, and lists made of equal parts. Assumes nothing.
use mathlib.Core.Path.{◌≡◌, sym, ap, ◌∙◌}
use Prim.Native.Nat.{ℕ, zero, suc, ◌+◌, ◌*◌, ◌≤◌, ◌<◌}
use native.Mathlib.Nat.{add-zero, add-suc, suc-add, mul-zero, mul-suc, not-suc-le-zero, le_of_suc-le-suc}
use native.Mathlib.Omega.{arith}
use mathlib.Core.List.{List, ◌++◌}
use lib.ListN.{length, take, drop, length-drop}
use lib.Seq.{take-take, take-add, take_all, take_at, take-append-le, drop-append-le, drop-append-add, drop-drop}
use Rattle.lists.specs.Lists.{listed, flat}
use Rattle.lists.proofs.Slots.{take_drop}

-- the w that stand from p on
abbrev pub cut : {A : Type 0} → ℕ → ℕ → List A → List A
cut p w l = take w (drop p l)

module _ {A : Type 0} where
  pub cut_all : (l : List A) (m : ℕ) → length l ≡ m → cut 0 m l ≡ l
  cut_all l m e = take_all m l (omega arith)

  -- a part of a part
  pub cut_cut : (p m a w : ℕ) (l : List A) → a + w ≤ m → cut a w (cut p m l) ≡ cut (p + a) w l
  cut_cut p m a w l le =
      take_drop a w (take m (drop p l))
      ∙ ap (drop a) (take-take (a + w) m (drop p l) le)
      ∙ sym (take_drop a w (drop p l))
      ∙ ap (take w) (drop-drop a p l)

  -- two parts side by side
  pub cut_add : (p v w : ℕ) (l : List A) → cut p (v + w) l ≡ cut p v l ++ cut (p + v) w l
  cut_add p v w l = take-add v w (drop p l) ∙ ap (λ (x : List A). cut p v l ++ take w x) (drop-drop v p l)

  -- a part of the first or the second of two lists
  pub cut_first : (p w : ℕ) (l r : List A) → p + w ≤ length l → cut p w (l ++ r) ≡ cut p w l
  cut_first p w l r le =
      let e = length-drop p l in
      ap (take w) (drop-append-le p l r (omega arith)) ∙ take-append-le w (drop p l) r (omega arith)

  pub cut_second : (n p w : ℕ) (l r : List A) → length l ≡ n → cut (n + p) w (l ++ r) ≡ cut p w r
  cut_second n p w l r e = ap (λ (j : ℕ). cut (j + p) w (l ++ r)) (sym e) ∙ ap (take w) (drop-append-add l r p)

-- ---- m lists of w, from number j on
module _ {A : Type 0} (w : ℕ) (f : ℕ → List A) (each : (k : ℕ) → length (f k) ≡ w) where
  pub part_at : (m j k : ℕ) → k < m → cut (w * k) w (flat (listed m j f)) ≡ f (j + k)
  unfolding listed flat
  part_at zero j k lt = absurd (not-suc-le-zero lt)
  part_at (suc m) j zero lt = rw (mul-zero, add-zero) (take_at (f j) (flat (listed m (suc j) f)) w (each j))
  part_at (suc m) j (suc k) lt =
      let e : w * suc k ≡ w + w * k = rw mul-suc (omega arith) in
      ap (λ (p : ℕ). cut p w (f j ++ flat (listed m (suc j) f))) e
      ∙ cut_second w (w * k) w (f j) (flat (listed m (suc j) f)) (each j)
      ∙ part_at m (suc j) k (le_of_suc-le-suc lt)
      ∙ ap f (suc-add j k ∙ sym (add-suc j k))

-- a part is made of its own parts
pub cut_parts : {A : Type 0} (p w : ℕ) (l : List A) (m j : ℕ) → cut (p + w * j) (w * m) l ≡ flat (listed m j (λ (k : ℕ). cut (p + w * k) w l))
unfolding listed flat
cut_parts p w l zero j = rw mul-zero
cut_parts p w l (suc m) j =
    let a : w * suc m ≡ w + w * m = rw mul-suc (omega arith) in
    let b : p + w * j + w ≡ p + w * suc j = rw mul-suc (omega arith) in
    ap (λ (n : ℕ). cut (p + w * j) n l) a
    ∙ cut_add (p + w * j) w (w * m) l
    ∙ ap (λ (q : ℕ). cut (p + w * j) w l ++ cut q (w * m) l) b
    ∙ ap (λ x. cut (p + w * j) w l ++ x) (cut_parts p w l m (suc j))

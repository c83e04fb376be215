-- Laws of a list placed within another: its length, one place after another, and all of it. Assumes nothing.
use mathlib.Core.Path.{◌≡◌, sym, ap, ◌∙◌}
use Prim.Native.Nat.{ℕ, ◌+◌, ◌*◌, ◌≤◌}
use native.Mathlib.Nat.{add-zero}
use native.Mathlib.Numerals.{add-one}
use native.Mathlib.Omega.{arith}
use mathlib.Core.List.{List, [], ◌++◌, append_assoc, append-nil}
use lib.ListN.{length, take, drop, length-append, length-drop, take-append-drop, drop_of_length-le}
use lib.Seq.{length-take-le, take_at, drop-drop, drop-append-add}
use Rattle.lists.specs.Lists.{joined}
use Rattle.lists.proofs.Tables.{joined_none, joined_more, length_joined}
use Rattle.words.specs.Placed.{placed}

module _ {A : Type 0} (p : ℕ) (x l : List A) where
  pub placed_length : p + length x ≤ length l → length (placed p x l) ≡ length l
  unfolding placed
  placed_length h =
      let a = length-append (take p l) (x ++ drop (p + length x) l) in
      let b = length-append x (drop (p + length x) l) in
      let c = length-drop (p + length x) l in
      let e = length-take-le p l (omega arith) in
      omega arith

  -- what is placed next to it
  pub placed_more : (q : ℕ) (y : List A) → p ≤ length l → q ≡ p + length x → placed q y (placed p x l) ≡ placed p (x ++ y) l
  unfolding placed
  placed_more q y h e =
      let front = take p l ++ x in
      let rest = drop (p + length x) l in
      let a : take p l ++ (x ++ rest) ≡ front ++ rest = sym (append_assoc (take p l) x rest) in
      let n : length front ≡ q = length-append (take p l) x ∙ let t = length-take-le p l (omega arith) in omega arith in
      let m : p + length x + length y ≡ p + length (x ++ y) = let t = length-append x y in omega arith in
      let b : take q (take p l ++ (x ++ rest)) ≡ front = ap (take q) a ∙ take_at front rest q n in
      let c : drop (q + length y) (take p l ++ (x ++ rest)) ≡ drop (p + length (x ++ y)) l
      = ap (drop (q + length y)) a ∙ ap (λ (j : ℕ). drop (j + length y) (front ++ rest)) (sym n)
      ∙ drop-append-add front rest (length y) ∙ drop-drop (length y) (p + length x) l ∙ ap (λ (j : ℕ). drop j l) m in
      ap (λ (u : List A). u ++ (y ++ drop (q + length y) (take p l ++ (x ++ rest)))) b
      ∙ ap (λ (u : List A). front ++ (y ++ u)) c
      ∙ append_assoc (take p l) x (y ++ drop (p + length (x ++ y)) l)
      ∙ ap (λ (u : List A). take p l ++ u) (sym (append_assoc x y (drop (p + length (x ++ y)) l)))

pub placed_none : {A : Type 0} (p : ℕ) (l : List A) → l ≡ placed p [] l
unfolding placed
placed_none p l = rw add-zero (sym (take-append-drop p l))

pub placed_all : {A : Type 0} (x l : List A) → length x ≡ length l → placed 0 x l ≡ x
unfolding placed
placed_all x l e = let h : length l ≤ 0 + length x = omega arith in rw (drop_of_length-le l h, append-nil)

-- ---- a loop that places one list of m elements a turn
module _ {A : Type 0} (m : ℕ) (f : ℕ → List A) (even : (i : ℕ) → length (f i) ≡ m) (p : ℕ) (l : List A) where
  pub joins_none : l ≡ placed p (joined 0 f) l
  joins_none = rw (joined_none f) (placed_none p l)

  pub joins_more : (k q : ℕ) (u : List A) → u ≡ placed p (joined k f) l → q ≡ p + k * m → q + m ≤ length l → placed q (f k) u ≡ placed p (joined (k + 1) f) l
  joins_more k q u e g h =
      let j = length_joined m f even k in
      let w = even k in
      ap (placed q (f k)) e ∙ placed_more p (joined k f) l q (f k) (omega arith) (omega arith) ∙ ap (λ (y : List A). placed p y l) (sym (joined_more k f) ∙ ap (λ (i : ℕ). joined i f) (sym (add-one k)))

-- A part lent and given back, and the front of one slot written anew, the rest as it was. Assumes nothing.
use mathlib.Core.Path.{◌≡◌, sym, ap, ◌∙◌}
use Prim.Native.Nat.{ℕ, suc, ◌+◌, ◌-◌, ◌≤◌}
use native.Mathlib.Nat.{sub-zero}
use native.Mathlib.Omega.{arith}
use mathlib.Core.List.{List, ◌++◌, append_assoc}
use lib.ListN.{length, take, drop, length-append, length-drop, take-append-drop}
use lib.Seq.{length-take-le, take_at, drop_at, drop-drop, drop-append-le}
use Rattle.lists.specs.Slots.{offset, slot, put}
use Rattle.lists.proofs.Slots.{offset_suc, slot_length, put_take, put_drop}
use Rattle.lists.proofs.Written.{slot_put_other}

-- ---- a part that was lent from `at` to at + size, and came back as y
module _ {A : Type 0} (at size : ℕ) (w : List A) (h : at + size ≤ length w) where
  width : at + size - at ≡ size
  width = omega arith

  pub part_is : take (at + size - at) (drop at w) ≡ take size (drop at w)
  part_is = ap (λ (n : ℕ). take n (drop at w)) width

  pub part_length : length (take size (drop at w)) ≡ size
  part_length = length-take-le size (drop at w) (omega (arith, length-drop at w))

  module _ (y : List A) (e : length y ≡ length (take (at + size - at) (drop at w))) where
    abbrev back : List A
    back = take at w ++ (y ++ drop (at + size - at) (drop at w))

    pub part_read : take size (drop at back) ≡ y
    part_read =
        let c : length y ≡ size = e ∙ ap length part_is ∙ part_length in
        ap (take size) (drop_at (take at w) (y ++ drop (at + size - at) (drop at w)) at (length-take-le at w (omega arith)))
        ∙ take_at y (drop (at + size - at) (drop at w)) size c

    pub part_back : back ≡ take at w ++ (take size (drop at back) ++ drop size (drop at w))
    part_back = ap (λ (n : ℕ). take at w ++ (y ++ drop n (drop at w))) width ∙ ap (λ (x : List A). take at w ++ (x ++ drop size (drop at w))) (sym part_read)

-- a part copied to the front of r
pub held_front : {A : Type 0} (at size : ℕ) (w r x : List A) → x ≡ take (at + size - at) (drop at w) → at + size ≤ length w → x ++ drop (size - 0) r ≡ take size (drop at w) ++ drop size r
held_front {A} at size w r x e h = ap (λ (n : ℕ). x ++ drop n r) (sub-zero size) ∙ ap (λ (u : List A). u ++ drop size r) (e ∙ part_is at size w h)

-- ---- x are the first z numbers of slot k of l, anew; `at` is where the slot starts
module _ {A : Type 0} (size : ℕ → ℕ) (k at z : ℕ) (x l : List A) (start : at ≡ offset size k) (fits : z ≤ size k) (count : length x ≡ z) (room : offset size (suc k) ≤ length l) where
  abbrev pub anew : List A
  anew = take at l ++ (x ++ drop z (drop at l))

  abbrev whole : List A
  whole = x ++ drop z (slot size k l)

  whole_length : length whole ≡ size k
  whole_length = let a = length-append x (drop z (slot size k l)) in let b = length-drop z (slot size k l) in let c = slot_length size k l room in omega arith

  rest : drop z (drop at l) ≡ drop z (slot size k l) ++ drop (offset size (suc k)) l
  unfolding slot
  rest =
      let o = offset_suc size k in
      let e : at + size k ≡ offset size (suc k) = omega arith in
      let s : slot size k l ≡ take (size k) (drop at l) = ap (λ (n : ℕ). take (size k) (drop n l)) (sym start) in
      let n = slot_length size k l room in
      let m : length (take (size k) (drop at l)) ≡ size k = ap length (sym s) ∙ n in
      ap (drop z) (sym (take-append-drop (size k) (drop at l)))
      ∙ drop-append-le z (take (size k) (drop at l)) (drop (size k) (drop at l)) (omega arith)
      ∙ ap (λ (y : List A). drop z y ++ drop (size k) (drop at l)) (sym s)
      ∙ ap (λ (y : List A). drop z (slot size k l) ++ y) (drop-drop (size k) at l ∙ ap (λ (n : ℕ). drop n l) e)

  anew_put : anew ≡ put size k whole l
  unfolding put
  anew_put =
      ap (λ (y : List A). take at l ++ (x ++ y)) rest
      ∙ ap (λ (y : List A). take at l ++ y) (sym (append_assoc x (drop z (slot size k l)) (drop (offset size (suc k)) l)))
      ∙ ap (λ (n : ℕ). take n l ++ (whole ++ drop (offset size (suc k)) l)) start

  pub anew_other : (j : ℕ) → ¬ (j ≡ k) → slot size j anew ≡ slot size j l
  anew_other j ne = ap (slot size j) anew_put ∙ slot_put_other size k whole l whole_length room j ne

  pub anew_before : take (offset size k) anew ≡ take (offset size k) l
  anew_before = ap (take (offset size k)) anew_put ∙ put_take size k whole l whole_length room

  pub anew_behind : drop (offset size (suc k)) anew ≡ drop (offset size (suc k)) l
  anew_behind = ap (drop (offset size (suc k))) anew_put ∙ put_drop size k whole l whole_length room

-- what is alike from a on is alike further on
pub drop_further : {A : Type 0} (a b : ℕ) (v w : List A) → a ≤ b → drop a v ≡ drop a w → drop b v ≡ drop b w
drop_further {A} a b v w h e =
    let g : a + (b - a) ≡ b = omega arith in
    let at : (l : List A) → drop b l ≡ drop (b - a) (drop a l) = λ l. sym (drop-drop (b - a) a l ∙ ap (λ (n : ℕ). drop n l) g) in
    at v ∙ ap (drop (b - a)) e ∙ sym (at w)

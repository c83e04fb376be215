-- What a copy leaves, by slots: one slot put, or the slots from one on written as they are in the work. Assumes nothing.
use mathlib.Core.Path.{◌≡◌, sym, ap, ◌∙◌}
use Prim.Native.Nat.{ℕ, suc, ◌+◌, ◌-◌, ◌≤◌}
use native.Mathlib.Omega.{arith}
use mathlib.Core.List.{List, ◌++◌, append-nil}
use lib.ListN.{length, take, drop, drop_of_length-le}
use lib.Seq.{take_at, drop_at, length-take-le}
use Rattle.lists.specs.Slots.{offset, put, laid, write}
use Rattle.lists.proofs.Slots.{offset_suc, offset_mono, take_drop, laid_length}

module _ {A : Type 0} (size : ℕ → ℕ) (z at : ℕ) (e : at ≡ offset size z) where
  pub put_slot : (x l : List A) → length x ≡ size z → take at l ++ (x ++ drop (at + length x) l) ≡ put size z x l
  unfolding put
  put_slot x l fits =
      let a : at + length x ≡ offset size (suc z) = omega (arith, offset_suc size z) in
      ap (λ (n : ℕ). take n l ++ (x ++ drop (at + length x) l)) e ∙ ap (λ (n : ℕ). take (offset size z) l ++ (x ++ drop n l)) a

  module _ (o : A) (d : ℕ) (q : List (List A)) (whole : z + length q ≡ d) where
    -- the slots from z on of a list in which they are written
    pub written_part : (l' : List A) → offset size d ≤ length l' → drop at (take (offset size d) (write size o d z q l')) ≡ laid size o z q
    unfolding write
    written_part l' h =
        let m = offset_mono size z d (omega arith) in
        let a : offset size d ≡ at + (offset size d - at) = omega arith in
        let f = laid_length size o z q in
        let g : offset size (z + length q) ≡ offset size d = ap (offset size) whole in
        let w = take (offset size z) l' ++ (laid size o z q ++ drop (offset size d) l') in
        ap (λ (n : ℕ). drop at (take n w)) a
        ∙ sym (take_drop at (offset size d - at) w)
        ∙ ap (take (offset size d - at)) (drop_at (take (offset size z) l') (laid size o z q ++ drop (offset size d) l') at (length-take-le (offset size z) l' (omega arith) ∙ sym e))
        ∙ take_at (laid size o z q) (drop (offset size d) l') (offset size d - at) (omega arith)

    -- a copy from slot z on of work w in which those slots are written
    pub committed : (l w : List A) → length l ≡ offset size d → drop at (take (offset size d) w) ≡ laid size o z q → take at l ++ drop at (take (length l) w) ≡ write size o d z q l
    unfolding write
    committed l w long f =
        ap (λ (n : ℕ). take at l ++ drop at (take n w)) long
        ∙ ap (λ (x : List A). take at l ++ x) (f ∙ sym (append-nil (laid size o z q)) ∙ ap (λ (x : List A). laid size o z q ++ x) (sym (drop_of_length-le l {i = offset size d} (omega arith))))
        ∙ ap (λ (n : ℕ). take n l ++ (laid size o z q ++ drop (offset size d) l)) e

    -- the work is another list with the same slots written, and more behind it
    pub committed_from : (l l' w : List A) → length l ≡ offset size d → offset size d ≤ length l' → take (offset size d) w ≡ take (offset size d) (write size o d z q l')
        → take at l ++ drop at (take (length l) w) ≡ write size o d z q l
    committed_from l l' w long h f = committed l w long (ap (drop at) f ∙ written_part l' h)

-- Slots written from what a walk left: f takes of each zone what goes into its slot. And what a slot's reading says of the list. Assumes nothing.
use mathlib.Core.Path.{◌≡◌, refl, sym, ap, ◌∙◌}
use Prim.Native.Nat.{ℕ, zero, suc, ◌+◌, ◌-◌, ◌≤◌, ◌<◌}
use native.Mathlib.Nat.{zero-add}
use native.Mathlib.Omega.{arith}
use mathlib.Core.List.{List, [], ◌∷◌, ◌++◌, map, map-append}
use lib.ListN.{length, take, drop, get_or, replicate, length-map, length-append, length-replicate, get_or-map}
use lib.Seq.{get_or-take, get_or-drop, get_or-append-add, length-take-le}
use Rattle.lists.specs.Slots.{offset, slot, put, fit, write, WrittenFrom}
use Rattle.lists.proofs.Tests.{below_or_not}
use Rattle.lists.proofs.Slots.{offset_mono, slot_put_before, slot_put_behind, write_write, write_slot, write_before, write_behind, write_length, write_alike}

module _ {A : Type 0} (size : ℕ → ℕ) where
  pub get_or_slot_lem : (k : ℕ) (l : List A) (j : ℕ) (o : A) → j < size k → get_or (slot size k l) j o ≡ get_or l (offset size k + j) o
  unfolding slot
  get_or_slot_lem k l j o lt = get_or-take (size k) (drop (offset size k) l) j o lt ∙ get_or-drop (offset size k) l j o

  pub slot_put_other : (z : ℕ) (x l : List A) → length x ≡ size z → offset size (suc z) ≤ length l → (k : ℕ) → ¬ (k ≡ z) → slot size k (put size z x l) ≡ slot size k l
  slot_put_other z x l fits room k ne = below_or_not k z (λ lt. slot_put_before size z x l fits room k lt) (λ ge. slot_put_behind size z x l fits room k (omega arith))

pub map_take : {A B : Type 0} (f : A → B) (z : ℕ) (l : List A) → map f (take z l) ≡ take z (map f l)
map_take f zero l = refl
map_take f (suc z) [] = refl
map_take f (suc z) (x ∷ l) = ap (λ y. f x ∷ y) (map_take f z l)

module _ {A R : Type 0} (size : ℕ → ℕ) (o : A) (d : ℕ) (f : R → List A) where
  -- what was written is held; e is a zone of which nothing is taken
  pub written_slot : (e : R) → f e ≡ [] → (tr : List R) (l : List A) (k : ℕ) → length tr ≡ d → k < d → slot size k (write size o d 0 (map f tr) l) ≡ fit o (size k) (f (get_or tr k e))
  written_slot e empty tr l k len lt =
      write_slot size o d (map f tr) l k (length-map tr f ∙ len) lt
      ∙ ap (fit o (size k)) (ap (get_or (map f tr) k) (sym empty) ∙ get_or-map f tr k e)

  -- all written, then those from z on written anew: as if the first z and the new ones were written at once
  pub written_again : (z : ℕ) (tr c : List R) (l : List A) → length tr ≡ d → z ≤ d → write size o d z (map f c) (write size o d 0 (map f tr) l) ≡ write size o d 0 (map f (take z tr ++ c)) l
  written_again z tr c l e le =
      write_write size o d z (map f tr) (map f c) l (length-map tr f ∙ e) le
      ∙ ap (λ (x : List (List A)). write size o d 0 x l) (ap (λ (y : List (List A)). y ++ map f c) (sym (map_take f z tr)) ∙ sym (map-append f (take z tr) c))

  pub written_from : (z : ℕ) (c : List R) (l : List A) → z + length c ≡ d → offset size d ≤ length l → WrittenFrom size z d l (write size o d z (map f c) l)
  written_from z c l e le =
      let m = offset_mono size z d (omega arith) in
      let n : z + length (map f c) ≡ d = ap (λ (x : ℕ). z + x) (length-map c f) ∙ e in
      record { before = write_before size o d z (map f c) l (omega arith); behind = write_behind size o d z (map f c) l n le; long = write_length size o d z (map f c) l n le }

  -- over slots that were all o
  pub written_length : (tr : List R) → length tr ≡ d → length (write size o d 0 (map f tr) (replicate (offset size d) o)) ≡ offset size d
  written_length tr e =
      let r = length-replicate (offset size d) o in
      (written_from 0 tr (replicate (offset size d) o) (zero-add (length tr) ∙ e) (omega arith)).long ∙ r

module _ {A R : Type 0} (size : ℕ → ℕ) (o : A) (d : ℕ) (f : R → List A) (e : R) (empty : f e ≡ []) where
  -- slot k, of those written from z on, holds what zone k left, whatever stood there; e is a zone of which nothing is taken
  pub slot_written : (z : ℕ) (tr : List R) (l : List A) (k : ℕ) → z + length tr ≡ d → offset size d ≤ length l → z ≤ k → k < d → slot size k (write size o d z (map f tr) l) ≡ fit o (size k) (f (get_or tr (k - z) e))
  slot_written z tr l k whole room ge lt =
      let none = replicate d e in
      let n = length-replicate d e in
      let t : length (take z none) ≡ z = length-take-le z none (omega arith) in
      let a = length-append (take z none) tr in
      let l' = write size o d 0 (map f none) l in
      let w : z + length (map f tr) ≡ d = ap (λ (m : ℕ). z + m) (length-map tr f) ∙ whole in
      let long : length l' ≡ length l = (written_from size o d f 0 none l (zero-add (length none) ∙ n) room).long in
      let at : k ≡ length (take z none) + (k - z) = omega arith in
      write_alike size o d z (map f tr) w l l' room (omega arith) k ge lt
      ∙ ap (slot size k) (written_again size o d f z none tr l n (omega arith))
      ∙ written_slot size o d f e empty (take z none ++ tr) l k (omega arith) lt
      ∙ ap (λ (x : R). fit o (size k) (f x)) (ap (λ (j : ℕ). get_or (take z none ++ tr) j e) at ∙ get_or-append-add (take z none) tr (k - z) e)

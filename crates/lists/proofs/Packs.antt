-- A loop that packs the fronts of slots one after another: what it has made after k slots, and at its end. Assumes nothing.
use mathlib.Core.Path.{◌≡◌, refl, sym, ap, ◌∙◌}
use Prim.Native.Nat.{ℕ, zero, suc, ◌+◌, ◌-◌, ◌≤◌, ◌<◌}
use native.Mathlib.Nat.{le_antisymm}
use native.Mathlib.Numerals.{add-one}
use native.Mathlib.Omega.{arith}
use mathlib.Core.List.{List, ◌++◌, append_assoc, append-nil}
use lib.ListN.{length, take, drop, replicate, length-append, length-drop, drop_of_length-le}
use lib.Seq.{take_at, take-take, drop-append-add, drop-drop, length-take-le}
use Rattle.lists.specs.Lists.{joined}
use Rattle.lists.specs.Slots.{offset, slot, fit}
use Rattle.lists.proofs.Tables.{joined_none, joined_more}
use Rattle.lists.proofs.Slots.{offset_suc, offset_mono, slot_length, fit_whole}

-- of slot k of w, which has p k places, the first q k are kept; those of all d slots are packed into l
module _ {A : Type 0} (p q : ℕ → ℕ) (d : ℕ) (w l : List A) where
  abbrev pub front : ℕ → List A
  front k = take (q k) (slot p k w)

  pub record PackRoom : Type 0 where
    pub fits : (k : ℕ) → k < d → q k ≤ p k
    pub long : offset p d ≤ length w
    pub wide : offset q d ≤ length l

  -- k slots are packed; the next starts at `from` in w and goes to `at` in c
  pub record Packing (k from at : ℕ) (c : List A) : Type 0 where
    pub room : PackRoom
    pub most : k ≤ d
    pub from_is : from ≡ offset p k
    pub at_is : at ≡ offset q k
    pub holds : c ≡ joined k front ++ drop at l

  pub packing_none : PackRoom → Packing 0 0 0 l
  unfolding offset
  packing_none r = record { room = r; most = omega arith; from_is = refl; at_is = refl; holds = ap (λ (x : List A). x ++ l) (sym (joined_none front)) }

  module _ (R : PackRoom) where
    front_length : (k : ℕ) → k < d → length (front k) ≡ q k
    front_length k lt =
        let m = offset_mono p (suc k) d lt in
        let e = slot_length p k w (omega (arith, R.long)) in
        length-take-le (q k) (slot p k w) (omega (arith, R.fits k lt))

    fronts_length : (k : ℕ) → k ≤ d → length (joined k front) ≡ offset q k
    unfolding offset
    fronts_length zero le = ap length (joined_none front)
    fronts_length (suc k) le =
        ap length (joined_more k front) ∙ length-append (joined k front) (front k) ∙ ap (λ (n : ℕ). n + length (front k)) (fronts_length k (omega arith)) ∙ ap (λ (n : ℕ). offset q k + n) (front_length k le)

  module _ (k from at : ℕ) (c : List A) (P : Packing k from at c) where
    packed_length : length (joined k front) ≡ at
    packed_length = fronts_length P.room k P.most ∙ sym P.at_is

    at_least : at ≤ length l
    at_least = omega (arith, offset_mono q k d P.most, P.at_is, P.room.wide)

    pub packing_long : length c ≡ length l
    packing_long = omega (arith, ap length P.holds, length-append (joined k front) (drop at l), length-drop at l, packed_length, at_least)

    -- what is packed ends within c
    pub packed_most : at ≤ length c
    packed_most = omega (arith, at_least, packing_long)

    packed_take : take at c ≡ joined k front
    packed_take = ap (take at) P.holds ∙ take_at (joined k front) (drop at l) at packed_length

    packed_drop : (x : ℕ) → drop (at + x) c ≡ drop (at + x) l
    packed_drop x =
        ap (drop (at + x)) P.holds
        ∙ ap (λ (n : ℕ). drop (n + x) (joined k front ++ drop at l)) (sym packed_length)
        ∙ drop-append-add (joined k front) (drop at l) x
        ∙ drop-drop x at l

    -- a slot more: r are the x numbers that go from w to c, and the next slot of w starts y places on
    module _ (lt : k < d) (x : ℕ) (e : x ≡ q k) where
      pub from_end : from + x ≤ length w
      from_end = omega (arith, offset_mono p (suc k) d lt, offset_suc p k, P.room.fits k lt, P.room.long, P.from_is)

      pub at_end : at + x ≤ length c
      at_end = omega (arith, offset_mono q (suc k) d lt, offset_suc q k, P.at_is, P.room.wide, packing_long)

      front_read : take (from + x - from) (drop from w) ≡ front k
      unfolding slot
      front_read =
          let g : from + x - from ≡ q k = omega arith in
          ap (λ (n : ℕ). take n (drop from w)) g
          ∙ ap (λ (n : ℕ). take (q k) (drop n w)) P.from_is
          ∙ sym (take-take (q k) (p k) (drop (offset p k) w) (P.room.fits k lt))

      rest_kept : drop (at + x - at) (drop at c) ≡ drop (at + x) l
      rest_kept = let g : at + x - at ≡ x = omega arith in ap (λ (n : ℕ). drop n (drop at c)) g ∙ drop-drop x at c ∙ packed_drop x

      pub packing_more : (y : ℕ) → y ≡ p k → (r : List A) → r ≡ take (from + x - from) (drop from w) → Packing (k + 1) (from + y) (at + x) (take at c ++ (r ++ drop (at + x - at) (drop at c)))
      packing_more y f r g =
          record {
            room = P.room;
            most = omega arith;
            from_is = omega (arith, offset_suc p k, P.from_is, ap (offset p) (add-one k));
            at_is = omega (arith, offset_suc q k, P.at_is, ap (offset q) (add-one k));
            holds = ap (λ (z : List A). z ++ (r ++ drop (at + x - at) (drop at c))) packed_take
                ∙ ap (λ (z : List A). joined k front ++ (z ++ drop (at + x - at) (drop at c))) (g ∙ front_read)
                ∙ ap (λ (z : List A). joined k front ++ (front k ++ z)) rest_kept
                ∙ sym (append_assoc (joined k front) (front k) (drop (at + x) l))
                ∙ ap (λ (z : List A). z ++ drop (at + x) l) (sym (joined_more k front) ∙ ap (λ (n : ℕ). joined n front) (sym (add-one k)));
          }

    -- the end: o goes to what is left of c
    pub packing_done : d ≤ k → (o : A) (r : List A) → r ≡ replicate (length (take (length c - at) (drop at c))) o → take at c ++ (r ++ drop (length c - at) (drop at c)) ≡ fit o (length l) (joined d front)
    packing_done h o r g =
        let e : k ≡ d = le_antisymm P.most h in
        let m : length (drop at c) ≡ length c - at = length-drop at c in
        let n : length (take (length c - at) (drop at c)) ≡ length l - length (joined k front) = omega (arith, length-take-le (length c - at) (drop at c) (omega arith), packing_long, packed_length) in
        let b : length (joined k front) ≤ length l = omega (arith, packed_length, at_least) in
        ap (λ (z : List A). z ++ (r ++ drop (length c - at) (drop at c))) packed_take
        ∙ ap (λ (z : List A). joined k front ++ (r ++ z)) (drop_of_length-le (drop at c) {i = length c - at} (omega arith))
        ∙ ap (λ (z : List A). joined k front ++ z) (append-nil r ∙ g ∙ ap (λ (i : ℕ). replicate i o) n)
        ∙ sym (fit_whole o (length l) (joined k front) b)
        ∙ ap (λ (i : ℕ). fit o (length l) (joined i front)) e

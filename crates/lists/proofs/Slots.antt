-- Laws of slots: offsets rise, what was written is read again, and the rest is as it was. Assumes nothing.
use mathlib.Core.Path.{◌≡◌, refl, sym, ap, ◌∙◌, subst}
use Prim.Native.Nat.{ℕ, zero, suc, ◌+◌, ◌-◌, ◌≤◌, ◌<◌, suc-le-suc}
use native.Mathlib.Nat.{zero-add, add-zero, add-suc, suc-add, le_refl, zero-lt-suc}
use native.Mathlib.Omega.{arith}
use mathlib.Core.List.{List, [], ◌∷◌, ◌++◌, append_assoc}
use lib.ListN.{length, take, drop, get_or, replicate, length-append, length-drop, length-replicate, replicate-append-replicate, take-append-drop}
use lib.Seq.{split_at, take-take, take-add, take-append-le, take-append_seam, take-append-add, take_all, take_at, drop_at, drop-drop, length-take-le, take-nil}
use Rattle.lists.specs.Lists.{flat, joined}
use Rattle.lists.specs.Slots.{offset, slot, put, fit, laid, write}
use Rattle.lists.proofs.Tables.{joined_none, joined_more}

-- ---- laws: offsets
pub offset_suc : (size : ℕ → ℕ) (k : ℕ) → offset size (suc k) ≡ offset size k + size k
unfolding offset
offset_suc size k = refl

offset_add : (size : ℕ → ℕ) (j m : ℕ) → offset size j ≤ offset size (j + m)
offset_add size j zero = rw add-zero (le_refl (offset size j))
offset_add size j (suc m) = let ih = offset_add size j m in rw add-suc (rw offset_suc (omega arith))

pub offset_mono : (size : ℕ → ℕ) (j k : ℕ) → j ≤ k → offset size j ≤ offset size k
offset_mono size j k le = let e : j + (k - j) ≡ k = omega arith in subst (λ (m : ℕ). offset size j ≤ offset size m) e (offset_add size j (k - j))

module _ {A : Type 0} where
  pub take_drop : (m n : ℕ) (l : List A) → take n (drop m l) ≡ drop m (take (m + n) l)
  take_drop zero n l = ap (λ (j : ℕ). take j l) (sym (zero-add n))
  take_drop (suc m) n [] = take-nil n ∙ sym (ap (λ (x : List A). drop (suc m) x) (take-nil (suc m + n)))
  take_drop (suc m) n (a ∷ l) = take_drop m n l ∙ ap (λ (j : ℕ). drop (suc m) (take j (a ∷ l))) (sym (suc-add m n))

  -- what stands before an offset says what the slots before it hold
  pub slot_before : (size : ℕ → ℕ) (k z : ℕ) (l l' : List A) → k < z → take (offset size z) l ≡ take (offset size z) l' → slot size k l ≡ slot size k l'
  unfolding slot
  slot_before size k z l l' lt e =
      let le : offset size k + size k ≤ offset size z = subst (λ (j : ℕ). j ≤ offset size z) (offset_suc size k) (offset_mono size (suc k) z lt) in
      take_drop (offset size k) (size k) l
      ∙ ap (λ (x : List A). drop (offset size k) x) (sym (take-take (offset size k + size k) (offset size z) l le) ∙ ap (λ (x : List A). take (offset size k + size k) x) e ∙ take-take (offset size k + size k) (offset size z) l' le)
      ∙ sym (take_drop (offset size k) (size k) l')

  -- and so behind it
  pub slot_behind : (size : ℕ → ℕ) (k z : ℕ) (l l' : List A) → z ≤ k → drop (offset size z) l ≡ drop (offset size z) l' → slot size k l ≡ slot size k l'
  unfolding slot
  slot_behind size k z l l' le e =
      let g : offset size z ≤ offset size k = offset_mono size z k le in
      let h : offset size z + (offset size k - offset size z) ≡ offset size k = omega arith in
      let at : (x : List A) → drop (offset size k) x ≡ drop (offset size k - offset size z) (drop (offset size z) x) = λ x. sym (drop-drop (offset size k - offset size z) (offset size z) x ∙ ap (λ (j : ℕ). drop j x) h) in
      ap (λ (x : List A). take (size k) x) (at l ∙ ap (λ (x : List A). drop (offset size k - offset size z) x) e ∙ sym (at l'))

  -- ---- one slot anew
  module _ (size : ℕ → ℕ) (z : ℕ) (x l : List A) (fits : length x ≡ size z) (room : offset size (suc z) ≤ length l) where
    room' : offset size z + size z ≤ length l
    room' = subst (λ (j : ℕ). j ≤ length l) (offset_suc size z) room

    head : length (take (offset size z) l) ≡ offset size z
    head = let r = room' in length-take-le (offset size z) l (omega arith)

    pub put_take : take (offset size z) (put size z x l) ≡ take (offset size z) l
    unfolding put
    put_take = take_at (take (offset size z) l) (x ++ drop (offset size (suc z)) l) (offset size z) head

    put_drop_z : drop (offset size z) (put size z x l) ≡ x ++ drop (offset size (suc z)) l
    unfolding put
    put_drop_z = drop_at (take (offset size z) l) (x ++ drop (offset size (suc z)) l) (offset size z) head

    pub put_drop : drop (offset size (suc z)) (put size z x l) ≡ drop (offset size (suc z)) l
    put_drop =
        ap (λ (j : ℕ). drop j (put size z x l)) (offset_suc size z)
        ∙ sym (drop-drop (size z) (offset size z) (put size z x l))
        ∙ ap (λ (y : List A). drop (size z) y) put_drop_z
        ∙ drop_at x (drop (offset size (suc z)) l) (size z) fits

    pub put_length : length (put size z x l) ≡ length l
    unfolding put
    put_length =
        let r = room' in
        let e = offset_suc size z in
        let a = length-append (take (offset size z) l) (x ++ drop (offset size (suc z)) l) in
        let b = length-append x (drop (offset size (suc z)) l) in
        let c = length-drop (offset size (suc z)) l in
        let h = head in
        omega arith

    pub slot_put_same : slot size z (put size z x l) ≡ x
    unfolding slot
    slot_put_same = ap (λ (y : List A). take (size z) y) put_drop_z ∙ take_at x (drop (offset size (suc z)) l) (size z) fits

    pub slot_put_before : (k : ℕ) → k < z → slot size k (put size z x l) ≡ slot size k l
    slot_put_before k lt = slot_before size k z (put size z x l) l lt put_take

    pub slot_put_behind : (k : ℕ) → z < k → slot size k (put size z x l) ≡ slot size k l
    slot_put_behind k lt = slot_behind size k (suc z) (put size z x l) l lt put_drop

  -- ---- slots laid out
  pub fit_length : (o : A) (n : ℕ) (x : List A) → length (fit o n x) ≡ n
  unfolding fit
  fit_length o n x =
      let a = length-append x (replicate n o) in
      let b = length-replicate n o in
      length-take-le n (x ++ replicate n o) (omega arith)

  -- what was laid is read again
  pub fit_used : (o : A) (n : ℕ) (x : List A) → length x ≤ n → take (length x) (fit o n x) ≡ x
  unfolding fit
  fit_used o n x le = take-take (length x) n (x ++ replicate n o) le ∙ take-append_seam x (replicate n o)

  -- x at the front, o in all of the room that it leaves
  pub fit_whole : (o : A) (n : ℕ) (x : List A) → length x ≤ n → fit o n x ≡ x ++ replicate (n - length x) o
  unfolding fit
  fit_whole o n x le =
      let m = n - length x in
      let e : n ≡ length x + m = omega arith in
      let f : n ≡ m + length x = omega arith in
      ap (λ (j : ℕ). take j (x ++ replicate n o)) e
      ∙ take-append-add x (replicate n o) m
      ∙ ap (λ (y : List A). x ++ take m y) (ap (λ (j : ℕ). replicate j o) f ∙ sym (replicate-append-replicate m (length x) o))
      ∙ ap (λ (y : List A). x ++ y) (take_at (replicate m o) (replicate (length x) o) m (length-replicate m o))

  pub laid_append : (size : ℕ → ℕ) (o : A) (k : ℕ) (xs ys : List (List A)) → laid size o k (xs ++ ys) ≡ laid size o k xs ++ laid size o (k + length xs) ys
  unfolding laid
  laid_append size o k [] ys = ap (λ (j : ℕ). laid size o j ys) (sym (add-zero k))
  laid_append size o k (x ∷ xs) ys =
      ap (λ (l : List A). fit o (size k) x ++ l) (laid_append size o (suc k) xs ys ∙ ap (λ (j : ℕ). laid size o (suc k) xs ++ laid size o j ys) (suc-add k (length xs) ∙ sym (add-suc k (length xs))))
      ∙ sym (append_assoc (fit o (size k) x) (laid size o (suc k) xs) (laid size o (k + suc (length xs)) ys))

  pub laid_length : (size : ℕ → ℕ) (o : A) (k : ℕ) (xs : List (List A)) → offset size k + length (laid size o k xs) ≡ offset size (k + length xs)
  unfolding laid
  laid_length size o k [] = rw (add-zero, add-zero) refl
  laid_length size o k (x ∷ xs) =
      let ih = laid_length size o (suc k) xs in
      let a = length-append (fit o (size k) x) (laid size o (suc k) xs) in
      let b = fit_length o (size k) x in
      let c = offset_suc size k in
      let e : suc k + length xs ≡ k + suc (length xs) = omega arith in
      let f : offset size (suc k + length xs) ≡ offset size (k + suc (length xs)) = ap (offset size) e in
      omega arith

  -- ---- slots written
  module _ (size : ℕ → ℕ) (o : A) (d : ℕ) where
    -- written from z on, after a writing of all: as if all were written at once
    pub write_write : (z : ℕ) (p q : List (List A)) (l : List A) → length p ≡ d → z ≤ d → write size o d z q (write size o d 0 p l) ≡ write size o d 0 (take z p ++ q) l
    unfolding write offset
    write_write z p q l e le =
        let X = drop (offset size d) l in
        let P = laid size o 0 p in
        let L : length P ≡ offset size d = let a = laid_length size o 0 p in let b : offset size (0 + length p) ≡ offset size d = ap (offset size) (zero-add (length p) ∙ e) in omega arith in
        let m = offset_mono size z d le in
        let t : length (take z p) ≡ z = length-take-le z p (omega arith) in
        let H : length (laid size o 0 (take z p)) ≡ offset size z = let a = laid_length size o 0 (take z p) in let b : offset size (0 + length (take z p)) ≡ offset size z = ap (offset size) (zero-add (length (take z p)) ∙ t) in omega arith in
        let S : P ≡ laid size o 0 (take z p) ++ laid size o (0 + length (take z p)) (drop z p) = ap (laid size o 0) (sym (take-append-drop z p)) ∙ laid_append size o 0 (take z p) (drop z p) in
        let a : take (offset size z) (P ++ X) ≡ laid size o 0 (take z p) =
        take-append-le (offset size z) P X (omega arith)
        ∙ ap (take (offset size z)) S
        ∙ take_at (laid size o 0 (take z p)) (laid size o (0 + length (take z p)) (drop z p)) (offset size z) H in
        let b : drop (offset size d) (P ++ X) ≡ X = drop_at P X (offset size d) L in
        let c : laid size o 0 (take z p ++ q) ≡ laid size o 0 (take z p) ++ laid size o z q = laid_append size o 0 (take z p) q ∙ ap (λ (j : ℕ). laid size o 0 (take z p) ++ laid size o j q) (zero-add (length (take z p)) ∙ t) in
        ap (λ (y : List A). y ++ (laid size o z q ++ drop (offset size d) (P ++ X))) a
        ∙ ap (λ (y : List A). laid size o 0 (take z p) ++ (laid size o z q ++ y)) b
        ∙ sym (append_assoc (laid size o 0 (take z p)) (laid size o z q) X)
        ∙ ap (λ (y : List A). y ++ X) (sym c)

    -- what was written is held
    pub write_slot : (p : List (List A)) (l : List A) (k : ℕ) → length p ≡ d → k < d → slot size k (write size o d 0 p l) ≡ fit o (size k) (get_or p k [])
    unfolding write offset slot laid
    write_slot p l k e lt =
        let X = drop (offset size d) l in
        let t : length (take k p) ≡ k = length-take-le k p (omega arith) in
        let H : length (laid size o 0 (take k p)) ≡ offset size k = let a = laid_length size o 0 (take k p) in let b : offset size (0 + length (take k p)) ≡ offset size k = ap (offset size) (zero-add (length (take k p)) ∙ t) in omega arith in
        let F = fit o (size k) (get_or p k []) in
        let R = laid size o (suc k) (drop (suc k) p) in
        let s : laid size o 0 p ≡ laid size o 0 (take k p) ++ (F ++ R) =
        ap (laid size o 0) (split_at p k [] (omega arith)) ∙ laid_append size o 0 (take k p) (get_or p k [] ∷ drop (suc k) p)
        ∙ ap (λ (j : ℕ). laid size o 0 (take k p) ++ laid size o j (get_or p k [] ∷ drop (suc k) p)) (zero-add (length (take k p)) ∙ t) in
        ap (λ (y : List A). take (size k) (drop (offset size k) (y ++ X))) s
        ∙ ap (λ (y : List A). take (size k) (drop (offset size k) y)) (append_assoc (laid size o 0 (take k p)) (F ++ R) X)
        ∙ ap (λ (y : List A). take (size k) y) (drop_at (laid size o 0 (take k p)) ((F ++ R) ++ X) (offset size k) H)
        ∙ ap (λ (y : List A). take (size k) y) (append_assoc F R X)
        ∙ take_at F (R ++ X) (size k) (fit_length o (size k) (get_or p k []))

    -- a writing from z on leaves what stands before
    pub write_before : (z : ℕ) (q : List (List A)) (l : List A) → offset size z ≤ length l → take (offset size z) (write size o d z q l) ≡ take (offset size z) l
    unfolding write
    write_before z q l le = take_at (take (offset size z) l) (laid size o z q ++ drop (offset size d) l) (offset size z) (length-take-le (offset size z) l le)

    -- and the length
    pub write_length : (z : ℕ) (q : List (List A)) (l : List A) → z + length q ≡ d → offset size d ≤ length l → length (write size o d z q l) ≡ length l
    unfolding write
    write_length z q l e le =
        let m = offset_mono size z d (omega arith) in
        let h = length-take-le (offset size z) l (omega arith) in
        let a = length-append (take (offset size z) l) (laid size o z q ++ drop (offset size d) l) in
        let b = length-append (laid size o z q) (drop (offset size d) l) in
        let c = length-drop (offset size d) l in
        let f = laid_length size o z q in
        let g : offset size (z + length q) ≡ offset size d = ap (offset size) e in
        omega arith

    -- and what stands behind the slots
    pub write_behind : (z : ℕ) (q : List (List A)) (l : List A) → z + length q ≡ d → offset size d ≤ length l → drop (offset size d) (write size o d z q l) ≡ drop (offset size d) l
    unfolding write
    write_behind z q l e le =
        let m = offset_mono size z d (omega arith) in
        let h = length-take-le (offset size z) l (omega arith) in
        let a = length-append (take (offset size z) l) (laid size o z q) in
        let f = laid_length size o z q in
        let g : offset size (z + length q) ≡ offset size d = ap (offset size) e in
        ap (λ (y : List A). drop (offset size d) y) (sym (append_assoc (take (offset size z) l) (laid size o z q) (drop (offset size d) l)))
        ∙ drop_at (take (offset size z) l ++ laid size o z q) (drop (offset size d) l) (offset size d) (omega arith)

pub slot_length : {A : Type 0} (size : ℕ → ℕ) (k : ℕ) (l : List A) → offset size (suc k) ≤ length l → length (slot size k l) ≡ size k
unfolding slot
slot_length size k l le =
    let e = offset_suc size k in
    let c = length-drop (offset size k) l in
    length-take-le (size k) (drop (offset size k) l) (omega arith)

-- ---- for the loop that writes slot after slot: what is left to write
module _ {A : Type 0} (size : ℕ → ℕ) (o : A) (d : ℕ) where
  pub write_none : (l : List A) → write size o d d [] l ≡ l
  unfolding write laid
  write_none l = take-append-drop (offset size d) l

  pub write_one : (z : ℕ) (x : List A) (xs : List (List A)) (l : List A) → z < d → offset size d ≤ length l
      → write size o d z (x ∷ xs) l ≡ write size o d (suc z) xs (put size z (fit o (size z) x) l)
  unfolding write laid put
  write_one z x xs l lt le =
      let F = fit o (size z) x in
      let m = offset_mono size (suc z) d lt in
      let e = offset_suc size z in
      let room : offset size (suc z) ≤ length l = omega arith in
      let fl = fit_length o (size z) x in
      let R = laid size o (suc z) xs in
      let h = length-take-le (offset size z) l (omega arith) in
      let a = length-append (take (offset size z) l) F in
      let P = put size z F l in
      let T : take (offset size (suc z)) P ≡ take (offset size z) l ++ F = ap (take (offset size (suc z))) (put_assoc z F l) ∙ take_at (take (offset size z) l ++ F) (drop (offset size (suc z)) l) (offset size (suc z)) (omega arith) in
      let q : offset size (suc z) + (offset size d - offset size (suc z)) ≡ offset size d = omega arith in
      let at : (y : List A) → drop (offset size d) y ≡ drop (offset size d - offset size (suc z)) (drop (offset size (suc z)) y) = λ y. sym (drop-drop (offset size d - offset size (suc z)) (offset size (suc z)) y ∙ ap (λ (j : ℕ). drop j y) q) in
      let D : drop (offset size d) P ≡ drop (offset size d) l = at P ∙ ap (drop (offset size d - offset size (suc z))) (put_drop size z F l fl room) ∙ sym (at l) in
      ap (λ (y : List A). take (offset size z) l ++ y) (append_assoc F R (drop (offset size d) l))
      ∙ sym (append_assoc (take (offset size z) l) F (R ++ drop (offset size d) l))
      ∙ ap (λ (y : List A). y ++ (R ++ drop (offset size d) l)) (sym T)
      ∙ ap (λ (y : List A). take (offset size (suc z)) P ++ (R ++ y)) (sym D)
    where
      put_assoc : (z : ℕ) (F l : List A) → put size z F l ≡ (take (offset size z) l ++ F) ++ drop (offset size (suc z)) l
      put_assoc z F l = sym (append_assoc (take (offset size z) l) F (drop (offset size (suc z)) l))

-- what the slots from z on hold after a writing hangs on nothing that stood there
module _ {A : Type 0} (size : ℕ → ℕ) (o : A) (d z : ℕ) (q : List (List A)) (whole : z + length q ≡ d) where
  write_front : (l : List A) → offset size d ≤ length l → take (offset size d) (write size o d z q l) ≡ take (offset size z) l ++ laid size o z q
  unfolding write
  write_front l le =
      let m = offset_mono size z d (omega arith) in
      let h = length-take-le (offset size z) l (omega arith) in
      let a = length-append (take (offset size z) l) (laid size o z q) in
      let f = laid_length size o z q in
      let g : offset size (z + length q) ≡ offset size d = ap (offset size) whole in
      ap (take (offset size d)) (sym (append_assoc (take (offset size z) l) (laid size o z q) (drop (offset size d) l)))
      ∙ take_at (take (offset size z) l ++ laid size o z q) (drop (offset size d) l) (offset size d) (omega arith)

  pub write_alike : (l l' : List A) → offset size d ≤ length l → offset size d ≤ length l' → (k : ℕ) → z ≤ k → k < d → slot size k (write size o d z q l) ≡ slot size k (write size o d z q l')
  write_alike l l' le le' k ge lt =
      let m = offset_mono size z d (omega arith) in
      let at : (x : List A) → offset size d ≤ length x → slot size k (write size o d z q x) ≡ slot size k (take (offset size z) x ++ laid size o z q) =
      λ x b. let f = write_front x b in slot_before size k d (write size o d z q x) (take (offset size z) x ++ laid size o z q) lt (f ∙ sym (take_all (offset size d) (take (offset size z) x ++ laid size o z q) (front_most x b))) in
      let over : (x : List A) → offset size d ≤ length x → drop (offset size z) (take (offset size z) x ++ laid size o z q) ≡ laid size o z q =
      λ x b. drop_at (take (offset size z) x) (laid size o z q) (offset size z) (length-take-le (offset size z) x (omega arith)) in
      at l le
      ∙ slot_behind size k z (take (offset size z) l ++ laid size o z q) (take (offset size z) l' ++ laid size o z q) ge (over l le ∙ sym (over l' le'))
      ∙ sym (at l' le')
    where
      front_most : (x : List A) → offset size d ≤ length x → length (take (offset size z) x ++ laid size o z q) ≤ offset size d
      front_most x b =
          let m = offset_mono size z d (omega arith) in
          let h = length-take-le (offset size z) x (omega arith) in
          let a = length-append (take (offset size z) x) (laid size o z q) in
          let f = laid_length size o z q in
          let g : offset size (z + length q) ≡ offset size d = ap (offset size) whole in
          omega arith

-- ---- slots one after another are the list
module _ {A : Type 0} (size : ℕ → ℕ) where
  pub slots_joined : (d : ℕ) (l : List A) → joined d (λ (k : ℕ). slot size k l) ≡ take (offset size d) l
  unfolding slot offset
  slots_joined zero l = joined_none (λ (k : ℕ). slot size k l)
  slots_joined (suc k) l = joined_more k (λ (k : ℕ). slot size k l) ∙ ap (λ (x : List A). x ++ take (size k) (drop (offset size k) l)) (slots_joined k l) ∙ sym (take-add (offset size k) (size k) l)

  -- lists as long as their slots, one after another, are slots
  laid_flat : (o : A) (k : ℕ) (xs : List (List A)) → ((j : ℕ) → j < length xs → length (get_or xs j []) ≡ size (k + j)) → laid size o k xs ≡ flat xs
  unfolding laid flat fit
  laid_flat o k [] h = refl
  laid_flat o k (x ∷ xs) h =
      let e : length x ≡ size k = h 0 (zero-lt-suc (length xs)) ∙ ap size (add-zero k) in
      ap (λ (y : List A). y ++ laid size o (suc k) xs) (take_at x (replicate (size k) o) (size k) e)
      ∙ ap (λ (y : List A). x ++ y) (laid_flat o (suc k) xs (λ j lt. h (suc j) (suc-le-suc lt) ∙ ap size (add-suc k j ∙ sym (suc-add k j))))

  module _ (o : A) (xs : List (List A)) (fits : (j : ℕ) → j < length xs → length (get_or xs j []) ≡ size j) where
    flat_laid : laid size o 0 xs ≡ flat xs
    flat_laid = laid_flat o 0 xs (λ j l. fits j l ∙ ap size (sym (zero-add j)))

    laid_whole : length (laid size o 0 xs) ≡ offset size (length xs)
    unfolding offset
    laid_whole = sym (zero-add (length (laid size o 0 xs))) ∙ laid_length size o 0 xs ∙ ap (offset size) (zero-add (length xs))

    pub flat_length : length (flat xs) ≡ offset size (length xs)
    flat_length = ap length (sym flat_laid) ∙ laid_whole

    pub slot_flat : (l : List A) (k : ℕ) → k < length xs → slot size k (flat xs ++ l) ≡ get_or xs k []
    unfolding write offset fit
    slot_flat l k lt =
        ap (λ (y : List A). slot size k (y ++ l)) (sym flat_laid)
        ∙ slot_before size k (length xs) (laid size o 0 xs ++ l) (write size o (length xs) 0 xs []) lt
        (take_at (laid size o 0 xs) l (offset size (length xs)) laid_whole ∙ sym (take_at (laid size o 0 xs) (drop (offset size (length xs)) []) (offset size (length xs)) laid_whole))
        ∙ write_slot size o (length xs) xs [] k refl lt
        ∙ take_at (get_or xs k []) (replicate (size k) o) (size k) (fits k lt)

-- what is filled with o and then written over at its front is fitted
pub filled_front : {A : Type 0} (o : A) (e n : ℕ) (x y u : List A) → e ≤ length x → e ≤ n → u ≡ replicate n o → y ≡ take e x → y ++ drop e u ≡ fit o n (take e x)
filled_front {A} o e n x y u h g eu ey =
    let long : length (take e x) ≡ e = length-take-le e x h in
    let d : drop e (replicate n o) ≡ replicate (n - length (take e x)) o = rw long dropped in
    rw (ey, eu, d) (sym (fit_whole o n (take e x) (omega arith)))
  where
    dropped : drop e (replicate n o) ≡ replicate (n - e) o
    dropped =
        let m : n ≡ e + (n - e) = omega arith in
        ap (λ (k : ℕ). drop e (replicate k o)) m ∙ ap (drop e) (sym (replicate-append-replicate e (n - e) o)) ∙ drop_at (replicate e o) (replicate (n - e) o) e (length-replicate e o)

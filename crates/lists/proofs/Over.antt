-- A list that is overwritten from the front by another of its length or by a table: `over_to i s d` after i turns; and by lists of one length, one after another. Assumes nothing.
use Prim.Native.Nat.{ℕ, zero, suc, ◌+◌, ◌-◌, ◌*◌, ◌≤◌, ◌<◌}
use mathlib.Core.Path.{◌≡◌, refl, sym, ap, ◌∙◌}
use mathlib.Core.List.{List, [], ◌∷◌, ◌++◌, map, append-nil, append_assoc}
use native.Mathlib.Nat.{not-suc-le-zero, le_of_suc-le-suc, le_antisymm, le_of_eq, add-zero, zero-mul, add-mul}
use native.Mathlib.Numerals.{add-one}
use native.Mathlib.Omega.{arith}
use lib.ListN.{length, get_or, set, take, drop, length-append, length-drop, drop_of_length-le, length-map, get_or-map}
use lib.Seq.{take_all, take_at, drop_at, drop-drop, length-take-le, get_or-append-add, get_or-drop}
use Rattle.lists.specs.Lists.{tab, joined}
use Rattle.lists.proofs.Tables.{length_tab, get_or_tab_lem, joined_none, joined_more, length_joined}

module _ {A : Type 0} where
  abbrev pub over_to : ℕ → List A → List A → List A
  over_to i s d = take i s ++ drop i d

  pub over_none : (s d : List A) → d ≡ over_to 0 s d
  over_none s d = refl

  over_suc : (i : ℕ) (s d : List A) (z : A) → length s ≡ length d → i < length s → set (over_to i s d) i (get_or s i z) ≡ over_to (suc i) s d
  over_suc i [] d z e l = absurd (not-suc-le-zero l)
  over_suc i (x ∷ s) [] z e l = absurd (not-suc-le-zero (subst' e l))
    where
      subst' : length (x ∷ s) ≡ 0 → i < length (x ∷ s) → i < 0
      subst' e l = omega arith
  over_suc zero (x ∷ s) (y ∷ d) z e l = refl
  over_suc (suc i) (x ∷ s) (y ∷ d) z e l = ap (λ (t : List A). x ∷ t) (over_suc i s d z (omega arith) (le_of_suc-le-suc l))

  pub over_more : (i : ℕ) (s d : List A) (z : A) → length s ≡ length d → i < length s → set (over_to i s d) i (get_or s i z) ≡ over_to (i + 1) s d
  over_more i s d z e l = over_suc i s d z e l ∙ ap (λ (k : ℕ). over_to k s d) (sym (add-one i))

  pub over_all : (i : ℕ) (s d : List A) → length s ≡ length d → length s ≤ i → over_to i s d ≡ s
  over_all i s d e l = let h : length d ≤ i = omega arith in rw (take_all i s l, drop_of_length-le d h, append-nil)

  pub length_over : (i : ℕ) (s d : List A) → length s ≡ length d → i ≤ length s → length (over_to i s d) ≡ length d
  length_over i s d e l = rw (length-append, length-take-le i s l, length-drop) (omega arith)

  -- the same where it is overwritten by a table, in the form that `search` applies
  module _ (f : ℕ → A) (d : List A) where
    abbrev pub tab_over : ℕ → List A
    tab_over i = over_to i (tab (length d) f) d

    pub tabs_more : (i : ℕ) (u : List A) (x : A) → u ≡ tab_over i → i < length d → x ≡ f i → set u i x ≡ tab_over (i + 1)
    tabs_more i u x e l h =
        rw (e, h)
        (ap (set (tab_over i) i) (sym (get_or_tab_lem (length d) f i (f i) l)) ∙ over_more i (tab (length d) f) d (f i) (length_tab (length d) f) (rw (length_tab (length d) f) l))

    pub tabs_done : (i : ℕ) (u : List A) → u ≡ tab_over i → length d ≤ i → u ≡ tab (length d) f
    tabs_done i u e l = e ∙ over_all i (tab (length d) f) d (length_tab (length d) f) (rw (length_tab (length d) f) l)

pub ruleset tabs = (tabs_more, tabs_done)

-- ---- a list whose numbers are altered one by one
module _ {A : Type 0} (f : A → A) (d : List A) where
  -- what is still to be altered is as it was
  over_ahead : (o : A) (i : ℕ) → i < length d → get_or (over_to i (map f d) d) i o ≡ get_or d i o
  over_ahead o i l =
      let m = length-map d f in
      let n = length-take-le i (map f d) (omega arith) in
      ap (λ (k : ℕ). get_or (over_to i (map f d) d) k o) (sym (add-zero i) ∙ ap (λ (k : ℕ). k + 0) (sym n)) ∙ get_or-append-add (take i (map f d)) (drop i d) 0 o ∙ get_or-drop i d 0 o ∙ ap (λ (k : ℕ). get_or d k o) (add-zero i)

  pub maps_more : (o : A) (i : ℕ) (u : List A) (x : A) → u ≡ over_to i (map f d) d → i < length d → x ≡ f (get_or u i o) → set u i x ≡ over_to (i + 1) (map f d) d
  maps_more o i u x e l h =
      let m = length-map d f in
      rw (h, e)
      (ap (λ (y : A). set (over_to i (map f d) d) i (f y)) (over_ahead o i l) ∙ ap (set (over_to i (map f d) d) i) (sym (get_or-map f d i o)) ∙ over_more i (map f d) d (f o) m (omega arith))

  pub maps_done : (i : ℕ) (u : List A) → u ≡ over_to i (map f d) d → length d ≤ i → u ≡ map f d
  maps_done i u e l = let m = length-map d f in e ∙ over_all i (map f d) d m (omega arith)

-- ---- lists of m numbers, one a turn, each written through a part that is lent
module _ {A : Type 0} (m : ℕ) (f : ℕ → List A) (d : List A) where
  abbrev pub join_over : ℕ → List A
  join_over k = joined k f ++ drop (k * m) d

  pub joins_none : d ≡ join_over 0
  joins_none = rw (joined_none f, zero-mul)

  module _ (even : (i : ℕ) → length (f i) ≡ m) where
    pub joins_more : (k : ℕ) (u x : List A) → u ≡ join_over k → k * m + m ≤ length d → x ≡ f k → take (k * m) u ++ (x ++ drop (k * m + m - k * m) (drop (k * m) u)) ≡ join_over (k + 1)
    joins_more k u x e h g =
        let j = length_joined m f even k in
        let s : k * m + m - k * m ≡ m = omega arith in
        let t : k * m + m ≡ (k + 1) * m = omega (arith, add-mul k 1 m) in
        let b : drop m (drop (k * m) d) ≡ drop ((k + 1) * m) d = drop-drop m (k * m) d ∙ ap (λ (i : ℕ). drop i d) t in
        rw (e, g, s, take_at (joined k f) (drop (k * m) d) (k * m) j, drop_at (joined k f) (drop (k * m) d) (k * m) j, b)
        (sym (append_assoc (joined k f) (f k) (drop ((k + 1) * m) d)) ∙ ap (λ (l : List A). l ++ drop ((k + 1) * m) d) (sym (ap (λ (i : ℕ). joined i f) (add-one k) ∙ joined_more k f)))

  pub joins_done : (k n : ℕ) (u : List A) → u ≡ join_over k → k ≤ n → n ≤ k → length d ≡ n * m → u ≡ joined n f
  joins_done k n u e p q l = e ∙ rw (le_antisymm p q, drop_of_length-le d (le_of_eq l), append-nil)

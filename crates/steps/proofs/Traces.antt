-- What a rounding of a whole chain in place leaves: every core stands in the room of its source, and what is said of the bonds at the front of their array. Assumes nothing.
use Rattle.std.specs.Prelude.{Ok}
use mathlib.Core.Path.{◌≡◌, refl, sym, ap, ◌∙◌}
use Prim.Native.Nat.{ℕ, zero, suc, ◌+◌, ◌-◌, ◌*◌, ◌≤◌, ◌<◌}
use native.Mathlib.Nat.{zero-add}
use native.Mathlib.Omega.{arith}
use mathlib.Core.Bool.{Bool, true, false, cond}
use mathlib.Core.List.{List, [], ◌∷◌, ◌++◌, map}
use lib.Dec.{ltb}
use lib.ListN.{length, take, drop, get_or, replicate, length-map, get_or-map}
use lib.Seq.{take_at}
use lib.Ieee.{Float}
use Rattle.numbers.specs.Arithmetic.{zero64}
use Rattle.answers.proofs.Outcomes.{bind_ok, ok_inj}
use Rattle.lists.specs.Lists.{tab, flat}
use Rattle.lists.specs.Slots.{offset, slot, fit, laid, write}
use Rattle.lists.specs.Walks.{walk}
use Rattle.lists.proofs.Walks.{walk_length, All, all_at, walk_all}
use Rattle.lists.proofs.Slots.{fit_used, fit_whole, laid_length}
use Rattle.lists.proofs.Tables.{tab_is}
use Rattle.lists.proofs.Written.{written_slot}
use Rattle.shape.specs.declared.Shape.{Shape}
use Rattle.shape.specs.Limits.{most_axes}
use Rattle.shape.specs.Shapes.{left_of, points_of, right_of, core_size}
use Rattle.shape.specs.Sizes.{Inside}
use Rattle.shape.specs.Cores.{Core, core_with, standing, reshaped}
use Rattle.shape.proofs.Insides.{inside_size}
use Rattle.shape.proofs.Ranks.{reshaped_points}
use Rattle.cutform.specs.declared.Bond.{Bond}
use Rattle.cutform.specs.declared.Cutting.{Cutting}
use Rattle.cutform.specs.Bonds.{no_bond, cut_bond}
use Rattle.cutform.specs.Rounding.{Carry, none, Cut, taken_in, cut_if, round_core, cores_in, bonds_in}
use Rattle.cutform.specs.Keeping.{bond_size, Stepped, keep_step}
use Rattle.cutform.proofs.Cuts.{volume, round_of}
use Rattle.steps.proofs.Reshapes.{reshaped_at}

-- ---- lists as long as their slots, behind which o stands
module _ {A : Type 0} (size : ℕ → ℕ) (o : A) where
  laid_full : {R : Type 0} (f : R → List A) (k : ℕ) (tr : List R) → All (λ (j : ℕ) (r : R). length (f r) ≡ size j) k tr → laid size o k (map f tr) ≡ flat (map f tr)
  unfolding laid flat fit
  laid_full f k [] h = refl
  laid_full f k (r ∷ tr) h = ap (λ (x : List A). x ++ laid size o (suc k) (map f tr)) (take_at (f r) (replicate (size k) o) (size k) h.0) ∙ ap (λ (x : List A). f r ++ x) (laid_full f (suc k) tr h.1)

  pub front_full : {R : Type 0} (f : R → List A) (d m : ℕ) (tr : List R) → length tr ≡ d → All (λ (j : ℕ) (r : R). length (f r) ≡ size j) 0 tr → offset size d ≤ m → write size o d 0 (map f tr) (replicate m o) ≡ fit o m (flat (map f tr))
  unfolding write offset
  front_full {R} f d m tr n h le =
      let l = laid_length size o 0 (map f tr) in
      let c : offset size (0 + length (map f tr)) ≡ offset size d = ap (offset size) (zero-add (length (map f tr)) ∙ length-map tr f ∙ n) in
      let full = laid_full f 0 tr h in
      let q : length (flat (map f tr)) ≡ offset size d = ap length (sym full) ∙ omega (arith, l, c) in
      ap (λ (x : List A). x ++ drop (offset size d) (replicate m o)) full
      ∙ ap (λ (x : List A). flat (map f tr) ++ x) (drop_same (offset size d) m)
      ∙ ap (λ (i : ℕ). flat (map f tr) ++ replicate (m - i) o) (sym q)
      ∙ sym (fit_whole o m (flat (map f tr)) (omega arith))
    where
      drop_same : (i m : ℕ) → drop i (replicate m o) ≡ replicate (m - i) o
      drop_same zero m = let g : m ≡ m - 0 = omega arith in ap (λ (j : ℕ). replicate j o) g
      drop_same (suc i) zero = let g : 0 ≡ 0 - suc i = omega arith in ap (λ (j : ℕ). replicate j o) g
      drop_same (suc i) (suc m) = let g : m - i ≡ suc m - suc i = omega arith in drop_same i m ∙ ap (λ (j : ℕ). replicate j o) g

-- ---- one core
abbrev blank : Carry × Cut
blank = (none, record { core = core_with 0 0 0 []; bonds = [] })

bonds_cut : (more : Bool) (k : ℕ) (cutting : Cutting) (c : Core) (r : Carry × Cut) → cut_if more k cutting c ≡ Ok r → length r.1.bonds ≡ cond more 1 0
bonds_cut true k cutting c r h = let A = bind_ok (cut_bond k cutting c) _ r h in ap (λ (x : Carry × Cut). length x.1.bonds) (sym (ok_inj A.2))
bonds_cut false k cutting c r h = ap (λ (x : Carry × Cut). length x.1.bonds) (sym (ok_inj h))

bonds_one : (cutting : Cutting) (more : Bool) (k : ℕ) (s : Carry) (c : Core) (r : Carry × Cut) → round_core cutting more k s c ≡ Ok r
    → length r.1.bonds ≡ cond more 1 0
unfolding round_core
bonds_one cutting more k s c r h =
    let A = bind_ok (taken_in k s c) (λ d. cut_if more k cutting d) r h in
    bonds_cut more k cutting A.0 r A.2

-- ---- a whole chain
-- a core of as many points as axis k, with all its numbers
abbrev pub Found : Shape → ℕ → Core → Type 0
Found t k c = (c.n ≡ points_of t k) × (length c.entries ≡ volume c)

module _ (cutting : Cutting) (s t : Shape) (h : Stepped) (I : Inside s t) (lefts : length t.left ≡ most_axes) (rights : length t.right ≡ most_axes) (cs : List Core) (count : length cs ≡ s.d) (F : All (Found t) 0 cs)
    (tr : List (Carry × Cut)) (e : walk (λ (k : ℕ). round_core cutting (ltb (suc k) s.d) k) 0 none cs ≡ Ok tr) where
  record Left (k : ℕ) (r : Carry × Cut) : Type 0 where
    points : r.1.core.n ≡ points_of t k
    full : length r.1.core.entries ≡ volume r.1.core
    cut : length r.1.bonds ≡ bond_size s k

  pub trace_count : length tr ≡ s.d
  trace_count = walk_length (λ (k : ℕ). round_core cutting (ltb (suc k) s.d) k) 0 none cs tr e ∙ count

  makes : (k : ℕ) (c : Carry) (x : Core) (r : Carry × Cut) → Found t k x → round_core cutting (ltb (suc k) s.d) k c x ≡ Ok r → Left k r
  unfolding bond_size
  makes k c x r f g =
      let C = round_of cutting k c x r (ltb (suc k) s.d) f.1 g in
      record { points = C.points ∙ f.0; full = C.long; cut = bonds_one cutting (ltb (suc k) s.d) k c x r g }

  all : All Left 0 tr
  all = walk_all (λ (k : ℕ). round_core cutting (ltb (suc k) s.d) k) (Found t) Left makes 0 none cs tr F e

  few : s.d ≤ most_axes
  few = omega (arith, I.sizes.axes.most, I.axes)

  each : (P : ℕ → Carry × Cut → Type 0) → ((k : ℕ) (r : Carry × Cut) → Left k r → P k r) → (k : ℕ) (rs : List (Carry × Cut)) → All Left k rs → All P k rs
  each P f k [] a = tt
  each P f k (r ∷ rs) a = (f k r a.0, each P f (suc k) rs a.1)

  bonds_few : (j : ℕ) → offset (bond_size s) j ≤ j
  unfolding offset bond_size
  bonds_few zero = omega arith
  bonds_few (suc j) = omega (arith, bonds_few j, one_or_none (ltb (suc j) s.d))
    where
      one_or_none : (b : Bool) → cond {A = ℕ} b 1 0 ≤ 1
      one_or_none true = omega arith
      one_or_none false = omega arith

  -- the bonds
  pub bonds_front : h.bonds ≡ replicate most_axes no_bond → (keep_step s 0 tr h).bonds ≡ fit no_bond most_axes (bonds_in tr)
  unfolding keep_step
  bonds_front z =
      ap (λ (l : List Bond). write (bond_size s) no_bond s.d 0 (map (λ (r : Carry × Cut). r.1.bonds) tr) l) z
      ∙ front_full (bond_size s) no_bond (λ (r : Carry × Cut). r.1.bonds) s.d most_axes tr trace_count
      (each (λ k r. length r.1.bonds ≡ bond_size s k) (λ k r L. L.cut) 0 tr all) (omega (arith, bonds_few s.d, few))

  -- the cores
  module _ (J : Inside s (reshaped 0 t (cores_in tr))) where
    abbrev t' : Shape
    t' = reshaped 0 t (cores_in tr)

    abbrev w' : List Float
    w' = (keep_step s 0 tr h).chain

    core_stands : (k : ℕ) → k < s.d → get_or (cores_in tr) k blank.1.core ≡ standing s t' w' k
    unfolding standing keep_step core_size
    core_stands k l =
        let c = (get_or tr k blank).1.core in
        let g : get_or (cores_in tr) k blank.1.core ≡ c = get_or-map (λ (r : Carry × Cut). r.1.core) tr k blank in
        let n = length-map tr (λ (r : Carry × Cut). r.1.core) in
        let L = all_at Left 0 tr all k blank (omega (arith, trace_count)) in
        let z = zero-add k in
        let R = reshaped_at 0 t (cores_in tr) k blank.1.core (omega (arith, n, trace_count)) (omega (arith, n, trace_count, lefts, few)) (omega (arith, n, trace_count, rights, few)) in
        let a : left_of t' k ≡ c.rl = ap (left_of t') (sym z) ∙ R.0 ∙ ap (λ (x : Core). x.rl) g in
        let b : right_of t' k ≡ c.rr = ap (right_of t') (sym z) ∙ R.1 ∙ ap (λ (x : Core). x.rr) g in
        let p : points_of t' k ≡ c.n = ap (λ (x : List ℕ). get_or x k 0) (reshaped_points 0 t (cores_in tr)) ∙ ap (points_of t) (sym z) ∙ sym L.points in
        let v : left_of t' k * points_of t' k * right_of t' k ≡ length c.entries = cc (a, b, p, L.full) in
        let q : slot (core_size s) k w' ≡ fit zero64 (core_size s k) c.entries = written_slot (core_size s) zero64 s.d (λ (r : Carry × Cut). r.1.core.entries) blank refl tr h.chain k trace_count l in
        let m : length c.entries ≤ core_size s k = omega (arith, inside_size s t' J k l, v) in
        let u : take (left_of t' k * points_of t' k * right_of t' k) (slot (core_size s) k w') ≡ c.entries = ap (λ (i : ℕ). take i (slot (core_size s) k w')) v ∙ ap (take (length c.entries)) q ∙ fit_used zero64 (core_size s k) c.entries m in
        g
        ∙ ap (λ (i : ℕ). core_with i c.n c.rr c.entries) (sym a)
        ∙ ap (λ (i : ℕ). core_with (left_of t' k) i c.rr c.entries) (sym p)
        ∙ ap (λ (i : ℕ). core_with (left_of t' k) (points_of t' k) i c.entries) (sym b)
        ∙ ap (core_with (left_of t' k) (points_of t' k) (right_of t' k)) (sym u)

    pub cores_stand : cores_in tr ≡ tab s.d (standing s t' w')
    cores_stand = tab_is s.d (standing s t' w') blank.1.core (cores_in tr) (length-map tr (λ (r : Carry × Cut). r.1.core) ∙ trace_count) core_stands

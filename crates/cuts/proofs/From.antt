-- A rounding from a zone on is its turns one after another, each from what memory holds by then. Assumes nothing.
use mathlib.Core.Path.{◌≡◌, refl, sym, ap, ◌∙◌, subst}
use Prim.Native.Nat.{ℕ, zero, suc, ◌+◌, ◌-◌, ◌*◌, ◌≤◌, ◌<◌}
use native.Mathlib.Nat.{le_refl, mul-le-mul}
use native.Mathlib.Numerals.{add-one}
use native.Mathlib.Omega.{arith}
use mathlib.Core.Bool.{Bool, true, false, cond}
use mathlib.Core.List.{List, [], ◌∷◌, map}
use lib.Dec.{ltb, eqb}
use lib.ListN.{length, take, get_or, length-set}
use lib.Seq.{length-take-le, get_or-set_same}
use lib.Ieee.{Float}
use Rattle.numbers.specs.Arithmetic.{zero64}
use Rattle.answers.specs.declared.Refusal.{Refusal}
use Rattle.std.specs.Prelude.{Ok, Err}
use Rattle.answers.specs.Outcome.{Answer, bind, answered}
use Rattle.answers.proofs.Outcomes.{bind_assoc, bind_cong, bind_ok, ok_inj}
use Rattle.lists.specs.Lists.{listed}
use Rattle.lists.specs.Slots.{offset, slot, put, fit}
use Rattle.lists.specs.Walks.{walk, turning}
use Rattle.lists.proofs.Tests.{ltb_yes, ltb_no, ltb_is, eqb_is, eqb_not}
use Rattle.lists.proofs.Tables.{listed_same}
use Rattle.lists.proofs.Stages.{answer_more, answer_stop, answer_done}
use Rattle.lists.proofs.Slots.{offset_mono, slot_length, fit_length, fit_used, put_length, slot_put_same, write_none, write_one}
use Rattle.lists.proofs.Written.{slot_put_other}
use Rattle.shape.specs.declared.Shape.{Shape}
use Rattle.shape.specs.Limits.{most_axes, most_rank}
use Rattle.shape.specs.Shapes.{left_of, points_of, right_of, core_size, entries_of}
use Rattle.shape.specs.Sizes.{Inside}
use Rattle.shape.specs.Cores.{Core, standing, with_core, reshaped}
use Rattle.shape.proofs.Ranks.{left_other, right_other, size_other, left_here, right_here, still_within}
use Rattle.cutform.specs.declared.Bond.{Bond}
use Rattle.cutform.specs.declared.Cutting.{Cutting}
use Rattle.cutform.specs.Bonds.{no_bond, past_bond}
use Rattle.cutform.specs.Rounding.{Carry, some, Cut, round_core, cores_in, numbers_in}
use Rattle.cutform.specs.Keeping.{bond_size, carry_size, Stepped, rank_at, keep_step, carry_left, round_from}
use Rattle.cuts.specs.Slots.{zone_turned, zone_turn, rank_left, AtZone}
use Rattle.cutform.proofs.Cuts.{Carried, volume, rank_on, CutOf, round_carried, round_of}
use Rattle.cutform.proofs.BondSlots.{bond_put}

by_case : {P : Type 0} (j k : ℕ) → (j ≡ k → P) → ((j ≡ k → ⊥) → P) → P
by_case {P} j k here else = go (eqb j k) refl
  where
    go : (b : Bool) → eqb j k ≡ b → P
    go true e = here (eqb_is j k e)
    go false e = else (eqb_not j k e)

pub bonds_most : (s : Shape) (j : ℕ) → offset (bond_size s) j ≤ j
unfolding offset bond_size
bonds_most s zero = le_refl 0
bonds_most s (suc j) = omega (arith, bonds_most s j, one_or_none (ltb (suc j) s.d))
  where
    one_or_none : (b : Bool) → cond {A = ℕ} b 1 0 ≤ 1
    one_or_none true = omega arith
    one_or_none false = omega arith

-- ---- zone k's slots
module _ (s : Shape) (z k : ℕ) (t : Shape) (h : Stepped) (A : AtZone s z k t h) (lt : k < s.d) where
  pub size_inside : core_size t k ≤ core_size s k
  unfolding core_size
  size_inside =
      let n : points_of t k ≡ points_of s k = ap (λ (x : List ℕ). get_or x k 0) A.points in
      mul-le-mul (mul-le-mul (A.left k lt) (subst (λ (x : ℕ). points_of t k ≤ x) n (le_refl (points_of t k)))) (A.right k lt)

  pub chain_room : offset (core_size s) (suc k) ≤ length h.chain
  chain_room = omega (arith, offset_mono (core_size s) (suc k) s.d lt, A.chain)

  pub carries_room : offset (carry_size s) (suc k) ≤ length h.carries
  carries_room = omega (arith, offset_mono (carry_size s) (suc k) s.d lt, A.carries)

module _ (cutting : Cutting) (s : Shape) where
  abbrev more : ℕ → Bool
  more k = ltb (suc k) s.d

  -- ---- one turn
  module _ (z k : ℕ) (t : Shape) (h : Stepped) (A : AtZone s z k t h) (lt : k < s.d) where
    abbrev core : Core
    core = standing s t h.chain k

    abbrev carry : Carry
    carry = carry_left s t h k

    core_long : length core.entries ≡ volume core
    unfolding standing core_size
    core_long = length-take-le (core_size t k) (slot (core_size s) k h.chain) (omega (arith, (size_inside s z k t h A lt), slot_length (core_size s) k h.chain (chain_room s z k t h A lt)))

    rank_on_lem : rank_on carry (left_of t k) ≡ rank_left k t h.bonds
    unfolding carry_left rank_left
    rank_on_lem = go k refl
      where
        go : (j : ℕ) → j ≡ k → rank_on (carry_left s t h j) (left_of t j) ≡ rank_left j t h.bonds
        go zero e = refl
        go (suc j) e = refl

    module _ (r : Carry × Cut) (e : round_core cutting (more k) k carry core ≡ Ok r) where
      abbrev new : Core
      new = r.1.core

      cut : CutOf (more k) carry core r
      cut = round_of cutting k carry core r (more k) core_long e

      new_left : new.rl ≡ rank_left k t h.bonds
      unfolding standing
      new_left = cut.left ∙ rank_on_lem

      -- ---- at a bond
      module _ (b : suc k < s.d) where
        carried : Carried (right_of t k) r
        unfolding standing
        carried = round_carried cutting k carry core r (A.sizes.right k (omega (arith, A.axes))).0 (ap (λ (m : Bool). round_core cutting m k carry core) (sym (ltb_yes (suc k) s.d b)) ∙ e)

        new_right : new.rr ≡ carried.bond.rank
        new_right = cut.right ∙ ap (λ (m : Bool). cond m (rank_on r.0 0) core.rr) (ltb_yes (suc k) s.d b) ∙ ap (λ (c : Carry). rank_on c 0) carried.«is»

        rank_kept : rank_at (zone_turned s k r h) k ≡ carried.bond.rank
        unfolding zone_turned
        rank_kept =
            let room : k < length h.bonds = omega (arith, A.bonds, A.sizes.axes.most, A.axes) in
            ap (λ (b : Bond). b.rank)
            (ap (λ (l : List Bond). get_or (put (bond_size s) k (fit no_bond (bond_size s k) l) h.bonds) k past_bond) carried.bonds
            ∙ ap (λ (l : List Bond). get_or l k past_bond) (bond_put s k h.bonds b no_bond carried.bond room)
            ∙ get_or-set_same h.bonds k carried.bond past_bond room)

        -- the carry that is handed on is the carry held
        carry_next : carry_left s (with_core t k new) (zone_turned s k r h) (suc k) ≡ r.0
        unfolding carry_left zone_turned carry_size
        carry_next =
            let C = carried in
            let w : left_of (with_core t k new) (suc k) ≡ right_of t k = left_other t k new (suc k) (λ q. omega arith) ∙ sym (A.joins k (le_refl k) b) in
            let m : C.bond.rank * right_of t k ≤ carry_size s k =
            subst (λ (x : ℕ). C.bond.rank * right_of t k ≤ x) (ap (λ (x : Bool). cond x (right_of s k * right_of s k) 0) (sym (ltb_yes (suc k) s.d b)))
            (mul-le-mul (omega (arith, C.most, A.right k lt)) (A.right k lt)) in
            let q : slot (carry_size s) k (zone_turned s k r h).carries ≡ fit zero64 (carry_size s k) C.numbers =
            slot_put_same (carry_size s) k (fit zero64 (carry_size s k) (numbers_in r.0)) h.carries (fit_length zero64 (carry_size s k) (numbers_in r.0)) (carries_room s z k t h A lt)
            ∙ ap (λ (c : Carry). fit zero64 (carry_size s k) (numbers_in c)) C.«is» in
            ap (λ (x : ℕ). some x (take (x * left_of (with_core t k new) (suc k)) (slot (carry_size s) k (zone_turned s k r h).carries))) rank_kept
            ∙ ap (λ (x : ℕ). some C.bond.rank (take (C.bond.rank * x) (slot (carry_size s) k (zone_turned s k r h).carries))) w
            ∙ ap (λ (x : List Float). some C.bond.rank (take (C.bond.rank * right_of t k) x)) q
            ∙ ap (λ (x : ℕ). some C.bond.rank (take x (fit zero64 (carry_size s k) C.numbers))) (sym C.long)
            ∙ ap (some C.bond.rank) (fit_used zero64 (carry_size s k) C.numbers (omega (arith, C.long, m)))
            ∙ sym C.«is»

      -- ---- the new right rank, at a bond or at the end
      right_last : ltb (suc k) s.d ≡ false → new.rr ≡ right_of t k
      unfolding standing
      right_last q = cut.right ∙ ap (λ (m : Bool). cond m (rank_on r.0 0) core.rr) q

      right_bounds : (1 ≤ new.rr) × (new.rr ≤ right_of t k)
      right_bounds = go (ltb (suc k) s.d) refl
        where
          go : (b : Bool) → ltb (suc k) s.d ≡ b → (1 ≤ new.rr) × (new.rr ≤ right_of t k)
          go true q = let b = ltb_is (suc k) s.d q in let C = carried b in (subst (λ (x : ℕ). 1 ≤ x) (sym (new_right b)) C.least, subst (λ (x : ℕ). x ≤ right_of t k) (sym (new_right b)) C.most)
          go false q = let f = right_last q in (subst (λ (x : ℕ). 1 ≤ x) (sym f) (A.sizes.right k (omega (arith, A.axes))).0, subst (λ (x : ℕ). x ≤ right_of t k) (sym f) (le_refl (right_of t k)))

      last_right : suc k ≡ s.d → new.rr ≡ right_of t k
      last_right q = right_last (ltb_no (suc k) s.d (omega arith))

      -- ---- the next zone
      pub at_next : AtZone s z (suc k) (with_core t k new) (zone_turned s k r h)
      unfolding zone_turned rank_left
      at_next =
          let L = A.rank lt in
          let R = right_bounds in
          let d = A.sizes.axes.most in
          let kl : k < length t.left = omega (arith, A.lefts, d, A.axes) in
          let kr : k < length t.right = omega (arith, A.rights, d, A.axes) in
          let lo = A.sizes.left k (omega (arith, A.axes)) in
          let ro = A.sizes.right k (omega (arith, A.axes)) in
          record {
            source = A.source;
            sizes = still_within t k new kl kr (subst (λ (x : ℕ). (1 ≤ x) × (x ≤ most_rank)) (sym new_left) (L.0, omega (arith, L.1, lo.1))) (R.0, omega (arith, R.1, ro.1)) A.sizes;
            axes = A.axes;
            points = A.points;
            left = λ j l. by_case j k (λ q. subst (λ (i : ℕ). left_of (with_core t k new) i ≤ left_of s i) (sym q) (omega (arith, left_here t k new kl, new_left, L.1, A.left k lt))) (λ q. omega (arith, left_other t k new j q, A.left j l));
            right = λ j l. by_case j k (λ q. subst (λ (i : ℕ). right_of (with_core t k new) i ≤ right_of s i) (sym q) (omega (arith, right_here t k new kr, R.1, A.right k lt))) (λ q. omega (arith, right_other t k new j q, A.right j l));
            joins = λ j a l. right_other t k new j (λ q. omega arith) ∙ A.joins j (omega arith) l ∙ sym (left_other t k new (suc j) (λ q. omega arith));
            first = by_case 0 k (λ q. ap (left_of (with_core t k new)) q ∙ left_here t k new kl ∙ new_left ∙ first_left q) (λ q. left_other t k new 0 q ∙ A.first);
            last = λ j l. by_case j k (λ q. ap (right_of (with_core t k new)) q ∙ right_here t k new kr ∙ last_right (ap suc (sym q) ∙ l) ∙ ap (right_of t) (sym q) ∙ A.last j l) (λ q. right_other t k new j q ∙ A.last j l);
            rank = λ b. let C = carried b in let q = rank_kept b in (omega (arith, q, C.least), omega (arith, q, C.most, A.joins k (le_refl k) b, left_other t k new (suc k) (λ q. omega arith)));
            behind = λ o j l. right_other t k new j (λ q. omega arith) ∙ meets o j (omega arith);
            seam = λ o j l b. let q : j ≡ k = omega arith in ap (right_of (with_core t k new)) q ∙ right_here t k new kr ∙ new_right b ∙ sym (rank_kept b) ∙ ap (rank_at (zone_turned s k r h)) (sym q);
            lefts = length-set t.left k new.rl ∙ A.lefts;
            rights = length-set t.right k new.rr ∙ A.rights;
            bonds = put_length (bond_size s) k (fit no_bond (bond_size s k) r.1.bonds) h.bonds (fit_length no_bond (bond_size s k) r.1.bonds) (array_room A.bonds) ∙ A.bonds;
            chain = subst (λ (n : ℕ). entries_of s ≤ n) (sym (put_length (core_size s) k (fit zero64 (core_size s k) new.entries) h.chain (fit_length zero64 (core_size s k) new.entries) (chain_room s z k t h A lt))) A.chain;
            carries = subst (λ (n : ℕ). offset (carry_size s) s.d ≤ n)
                (sym (put_length (carry_size s) k (fit zero64 (carry_size s k) (numbers_in r.0)) h.carries (fit_length zero64 (carry_size s k) (numbers_in r.0)) (carries_room s z k t h A lt)))
                A.carries;
          }
        where
          first_left : 0 ≡ k → rank_left k t h.bonds ≡ 1
          first_left q = subst (λ (i : ℕ). rank_left i t h.bonds ≡ 1) q A.first

          -- the ranks behind meet, and at zone k they meet by what it takes in
          meets : z ≡ 0 → (j : ℕ) → suc j ≤ k → right_of t j ≡ left_of (with_core t k new) (suc j)
          meets o j l = by_case (suc j) k
              (λ q. A.seam o j q lt ∙ ap (λ (i : ℕ). rank_left i t h.bonds) q ∙ sym new_left ∙ sym (left_here t k new (omega (arith, A.lefts, A.sizes.axes.most, A.axes))) ∙ ap (left_of (with_core t k new)) (sym q))
              (λ q. A.behind o j (omega arith) ∙ sym (left_other t k new (suc j) q))

          array_room : {n : ℕ} → n ≡ most_axes → offset (bond_size s) (suc k) ≤ n
          array_room q = omega (arith, q, bonds_most s (suc k), A.sizes.axes.most, A.axes)

      -- ---- what is left of the walk, from the next zone's memory
      standing_next : (j : ℕ) → suc k ≤ j → standing s t h.chain j ≡ standing s (with_core t k new) (zone_turned s k r h).chain j
      unfolding standing zone_turned
      standing_next j a =
          let q : j ≡ k → ⊥ = λ e. omega arith in
          let l = left_other t k new j q in
          let w = right_other t k new j q in
          let size = size_other t k new j q in
          let p = slot_put_other (core_size s) k (fit zero64 (core_size s k) new.entries) h.chain (fit_length zero64 (core_size s k) new.entries) (chain_room s z k t h A lt) j q in
          cc (l, w, size, p)

      rest_same : (m : ℕ) → listed m (suc k) (standing s t h.chain) ≡ listed m (suc k) (standing s (with_core t k new) (zone_turned s k r h).chain)
      rest_same m = listed_same m (suc k) (standing s t h.chain) (standing s (with_core t k new) (zone_turned s k r h).chain) (λ j a b. standing_next j a)

      walk_next : (m : ℕ) → suc k + m ≡ s.d
          → walk (λ (j : ℕ). round_core cutting (more j) j) (suc k) r.0 (listed m (suc k) (standing s t h.chain))
          ≡ walk (λ (j : ℕ). round_core cutting (more j) j) (suc k) (carry_left s (with_core t k new) (zone_turned s k r h) (suc k)) (listed m (suc k) (standing s (with_core t k new) (zone_turned s k r h).chain))
      unfolding walk listed
      walk_next zero d = refl
      walk_next (suc m) d =
          ap (λ (c : Carry). walk (λ (j : ℕ). round_core cutting (more j) j) (suc k) c (listed (suc m) (suc k) (standing s t h.chain))) (sym (carry_next (omega arith)))
          ∙ ap (λ (l : List Core). walk (λ (j : ℕ). round_core cutting (more j) j) (suc k) (carry_left s (with_core t k new) (zone_turned s k r h) (suc k)) l) (rest_same (suc m))

    keep_one : (r : Carry × Cut) (rs : List (Carry × Cut)) → keep_step s k (r ∷ rs) h ≡ keep_step s (suc k) rs (zone_turned s k r h)
    unfolding keep_step zone_turned
    keep_one r rs =
        let most : offset (bond_size s) s.d ≤ length h.bonds = omega (arith, A.bonds, bonds_most s s.d, A.sizes.axes.most, A.axes) in
        let a = write_one (bond_size s) no_bond s.d k r.1.bonds (map (λ (x : Carry × Cut). x.1.bonds) rs) h.bonds lt most in
        let e = write_one (core_size s) zero64 s.d k r.1.core.entries (map (λ (x : Carry × Cut). x.1.core.entries) rs) h.chain lt A.chain in
        let f = write_one (carry_size s) zero64 s.d k (numbers_in r.0) (map (λ (x : Carry × Cut). numbers_in x.0) rs) h.carries lt A.carries in
        cc (a, e, f)

  keep_none : (k : ℕ) (h : Stepped) → k ≡ s.d → keep_step s k [] h ≡ h
  unfolding keep_step
  keep_none k h q =
      let a = write_none (bond_size s) no_bond s.d h.bonds in
      let e = write_none (core_size s) zero64 s.d h.chain in
      let f = write_none (carry_size s) zero64 s.d h.carries in
      let g : keep_step s s.d [] h ≡ record { bonds = h.bonds; chain = h.chain; carries = h.carries } = cc (a, e, f) in
      rw q g

  -- ---- all turns
  pub from_turns : (m z k : ℕ) (t : Shape) (h : Stepped) → k + m ≡ s.d → AtZone s z k t h
      → bind (walk (λ (j : ℕ). round_core cutting (more j) j) k (carry_left s t h k) (listed m k (standing s t h.chain))) (λ tr. Ok (reshaped k t (cores_in tr), keep_step s k tr h))
      ≡ turning m k (zone_turn cutting s) (t, h)
  unfolding walk listed turning reshaped zone_turn
  from_turns zero z k t h d A = ap (λ (x : Stepped). Ok (t, x)) (keep_none k h (omega arith))
  from_turns (suc m) z k t h d A =
      let f : ℕ → Carry → Core → Answer (Carry × Cut) = λ j. round_core cutting (more j) j in
      let lt : k < s.d = omega arith in
      let c = standing s t h.chain k in
      let o = f k (carry_left s t h k) c in
      let rest = listed m (suc k) (standing s t h.chain) in
      let F : List (Carry × Cut) → Answer (Shape × Stepped) = λ tr. Ok (reshaped k t (cores_in tr), keep_step s k tr h) in
      bind_assoc o (λ r. bind (walk f (suc k) r.0 rest) (λ rs. Ok (r ∷ rs))) F
      ∙ bind_cong o (λ r. bind (bind (walk f (suc k) r.0 rest) (λ rs. Ok (r ∷ rs))) F) (λ r. turning m (suc k) (zone_turn cutting s) (with_core t k r.1.core, zone_turned s k r h)) (λ r e.
      bind_assoc (walk f (suc k) r.0 rest) (λ rs. Ok (r ∷ rs)) F
      ∙ bind_cong (walk f (suc k) r.0 rest) (λ rs. F (r ∷ rs))
      (λ rs. Ok (reshaped (suc k) (with_core t k r.1.core) (cores_in rs), keep_step s (suc k) rs (zone_turned s k r h)))
      (λ rs _. ap (λ (x : Stepped). Ok (reshaped (suc k) (with_core t k r.1.core) (cores_in rs), x)) (keep_one z k t h A lt r rs))
      ∙ ap (λ (w : Answer (List (Carry × Cut))). bind w (λ rs. Ok (reshaped (suc k) (with_core t k r.1.core) (cores_in rs), keep_step s (suc k) rs (zone_turned s k r h)))) (walk_next z k t h A lt r e m (omega arith))
      ∙ from_turns m z (suc k) (with_core t k r.1.core) (zone_turned s k r h) (omega arith) (at_next z k t h A lt r e))
      ∙ sym (turn_open o k m t h)
    where
      turn_open : (o : Answer (Carry × Cut)) (k m : ℕ) (t : Shape) (h : Stepped)
          → bind (bind o (λ r. Ok (with_core t k r.1.core, zone_turned s k r h))) (λ b. turning m (suc k) (zone_turn cutting s) b) ≡ bind o (λ r. turning m (suc k) (zone_turn cutting s) (with_core t k r.1.core, zone_turned s k r h))
      turn_open o k m t h = bind_assoc o (λ r. Ok (with_core t k r.1.core, zone_turned s k r h)) (λ b. turning m (suc k) (zone_turn cutting s) b)

  pub from_is : (z k : ℕ) (t : Shape) (h : Stepped) → k ≤ s.d → AtZone s z k t h → round_from cutting s k t h ≡ turning (s.d - k) k (zone_turn cutting s) (t, h)
  unfolding round_from
  from_is z k t h l A = from_turns (s.d - k) z k t h (omega arith) A

  -- a turn leaves memory at the next zone
  pub turn_next : (z k : ℕ) (t : Shape) (h : Stepped) → AtZone s z k t h → k < s.d → (t' : Shape) (h' : Stepped) → zone_turn cutting s k (t, h) ≡ Ok (t', h') → AtZone s z (k + 1) t' h'
  unfolding zone_turn
  turn_next z k t h A lt t' h' e =
      let B = bind_ok (round_core cutting (more k) k (carry_left s t h k) (standing s t h.chain k)) (λ r. Ok (with_core t k r.1.core, zone_turned s k r h)) (t', h') e in
      rw add-one (subst (λ (x : Shape × Stepped). AtZone s z (suc k) x.0 x.1) (ok_inj B.2) (at_next z k t h A lt B.0 B.1))

-- a chain that stands in the room of its source, before any turn
pub at_start : (s t : Shape) (h : Stepped) → ((j : ℕ) → suc j < s.d → right_of s j ≡ left_of s (suc j)) → Inside s t → 1 ≤ s.d → length t.left ≡ most_axes → length t.right ≡ most_axes → length h.bonds ≡ most_axes
    → entries_of s ≤ length h.chain → offset (carry_size s) s.d ≤ length h.carries → AtZone s 0 0 t h
unfolding rank_left
at_start s t h source I one a b c f g = record {
  source = source;
  sizes = I.sizes;
  axes = I.axes;
  points = I.points;
  left = I.left;
  right = I.right;
  joins = λ j l m. I.joins j m;
  first = I.first;
  last = I.last;
  rank = λ l. ((I.sizes.left 0 (omega (arith, I.axes))).0, le_refl (left_of t 0));
  behind = λ o j l. let z : ⊥ = omega arith in absurd z;
  seam = λ o j l m. let z : ⊥ = omega arith in absurd z;
  lefts = a;
  rights = b;
  bonds = c;
  chain = f;
  carries = g;
}

-- whatever zone it began at
pub at_any : (s : Shape) (z k : ℕ) (t : Shape) (h : Stepped) → AtZone s z k t h → AtZone s 1 k t h
at_any s z k t h A = record {
  source = A.source;
  sizes = A.sizes;
  axes = A.axes;
  points = A.points;
  left = A.left;
  right = A.right;
  joins = A.joins;
  first = A.first;
  last = A.last;
  rank = A.rank;
  behind = λ o j l. let z : ⊥ = omega arith in absurd z;
  seam = λ o j l m. let z : ⊥ = omega arith in absurd z;
  lefts = A.lefts;
  rights = A.rights;
  bonds = A.bonds;
  chain = A.chain;
  carries = A.carries;
}

-- ---- the loop over zones: T is the whole
module _ (cutting : Cutting) (s : Shape) (T : Answer (Shape × Stepped)) (z k : ℕ) (t : Shape) (h : Stepped) (e : T ≡ turning (s.d - k) k (zone_turn cutting s) (t, h)) where
  module _ (lt : k < s.d) where
    module _ (t' : Shape) (h' : Stepped) (f : zone_turn cutting s k (t, h) ≡ Ok (t', h')) where
      pub loop_more : T ≡ turning (s.d - (k + 1)) (k + 1) (zone_turn cutting s) (t', h')
      unfolding answered
      loop_more = answer_more T s.d k (zone_turn cutting s) (t, h) e lt (Ok tt) (t', h') f refl

      pub loop_next : AtZone s z k t h → AtZone s z (k + 1) t' h'
      loop_next A = turn_next cutting s z k t h A lt t' h' f

    pub loop_stop : (q : Refusal) → zone_turn cutting s k (t, h) ≡ Err q → T ≡ Err q
    unfolding answered
    loop_stop q f = answer_stop T s.d k (zone_turn cutting s) (t, h) e lt (Err q) (t, h) f q (t, h) refl

  pub loop_end : s.d ≤ k → T ≡ Ok (t, h)
  unfolding answered
  loop_end l = answer_done T s.d k (zone_turn cutting s) (t, h) e l

-- the chain at the end stands in the room of its source
pub end_inside : (s : Shape) (z k : ℕ) (t : Shape) (h : Stepped) → AtZone s z k t h → s.d ≤ k → z ≡ 0 → Inside s t
end_inside s z k t h A l o = record {
  sizes = A.sizes;
  axes = A.axes;
  points = A.points;
  left = A.left;
  right = A.right;
  joins = λ j m. A.behind o j (omega arith);
  first = A.first;
  last = A.last;
}

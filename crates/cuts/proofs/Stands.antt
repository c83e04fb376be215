-- Where a zone stands in memory: what its code asks, and that it writes its own slots alone. Assumes nothing.
use mathlib.Core.Path.{◌≡◌, refl, sym, ap, ◌∙◌, subst}
use Prim.Native.Nat.{ℕ, zero, suc, ◌+◌, ◌-◌, ◌*◌, ◌≤◌, ◌<◌}
use native.Mathlib.Nat.{mul-le-mul}
use native.Mathlib.Numerals.{add-one}
use native.Mathlib.Omega.{arith}
use mathlib.Core.Bool.{Bool, true, false, cond}
use mathlib.Core.List.{List, [], ◌++◌}
use lib.Dec.{ltb}
use lib.ListN.{length, take, drop, get_or, set}
use lib.Seq.{drop-drop, set-get_or, get_or-set_same}
use lib.Ieee.{Float}
use Rattle.numbers.specs.Arithmetic.{zero64}
use Rattle.std.specs.Prelude.{Ok, Err}
use Rattle.answers.specs.declared.Refusal.{Refusal}
use Rattle.answers.specs.Outcome.{Answer, bind, outcome_of}
use Rattle.answers.proofs.Outcomes.{ok_inj, err_inj, ok_err}
use Rattle.lists.specs.Slots.{offset, slot, put, fit}
use Rattle.lists.proofs.Tests.{ltb_yes, ltb_is, ltb_not}
use Rattle.lists.proofs.Slots.{offset_suc, offset_mono, slot_length}
use Rattle.shape.specs.declared.Shape.{Shape}
use Rattle.shape.specs.Limits.{most_core}
use Rattle.shape.specs.Shapes.{left_of, points_of, right_of, core_size}
use Rattle.shape.specs.Sizes.{SizesWithin}
use Rattle.shape.specs.Cores.{Core, core_with, standing, with_core}
use Rattle.shape.proofs.Offsets.{core_most}
use Rattle.cuts.specs.declared.Places.{Places}
use Rattle.cutform.specs.declared.Bond.{Bond}
use Rattle.cutform.specs.declared.Cutting.{Cutting}
use Rattle.cutform.specs.Bonds.{no_bond, past_bond}
use Rattle.cutform.specs.Rounding.{Carry, some, Cut, round_core, numbers_in}
use Rattle.cutform.specs.Keeping.{bond_size, carry_size, Stepped, rank_at, carry_left}
use Rattle.cuts.specs.ZoneSlots.{carry_from, Laid, laid_cut, laid_as, ZoneFits}
use Rattle.cuts.specs.Slots.{zone_turned, zone_turn, rank_left, AtZone, held, places_of, ZoneCut}
use Rattle.cutform.proofs.BondSlots.{bond_put, end_put, carry_bond, carry_end}
use Rattle.cuts.proofs.From.{size_inside, chain_room, carries_room}
use Rattle.cuts.proofs.Zoned.{part_read}

-- ---- small parts of the code
pub before_none : (size : ℕ → ℕ) (k : ℕ) → k < 1 → 0 ≡ offset size (k - 1)
unfolding offset
before_none size k l = let e : k - 1 ≡ 0 = omega arith in rw e

pub rank_first : (k : ℕ) (t : Shape) (l : List Bond) → k < 1 → left_of t 0 ≡ rank_left k t l
unfolding rank_left
rank_first zero t l lt = refl
rank_first (suc k) t l lt = let z : ⊥ = omega arith in absurd z

pub rank_next : (k : ℕ) (t : Shape) (l : List Bond) → 1 ≤ k → (get_or l (k - 1) past_bond).rank ≡ rank_left k t l
unfolding rank_left
rank_next zero t l lt = let z : ⊥ = omega arith in absurd z
rank_next (suc k) t l lt = let e : suc k - 1 ≡ k = omega arith in ap (λ (j : ℕ). (get_or l j past_bond).rank) e

-- ---- one zone
module _ (s : Shape) (z k : ℕ) (t : Shape) (h : Stepped) (w : SizesWithin s) (A : AtZone s z k t h) (lt : k < s.d) where
  abbrev most : k < t.d
  most = omega (arith, A.axes)

  taken_room : 1 ≤ k → rank_left k t h.bonds * left_of t k ≤ offset (carry_size s) k - offset (carry_size s) (k - 1)
  taken_room one =
      let e : suc (k - 1) ≡ k = omega arith in
      let a = offset_suc (carry_size s) (k - 1) in
      let b : offset (carry_size s) (suc (k - 1)) ≡ offset (carry_size s) k = ap (offset (carry_size s)) e in
      let c = carry_bond s (k - 1) (omega arith) in
      let d : right_of s (k - 1) ≡ left_of s k = A.source (k - 1) (omega arith) ∙ ap (left_of s) e in
      let l = A.left k lt in
      let r = A.rank lt in
      let m : rank_left k t h.bonds * left_of t k ≤ right_of s (k - 1) * right_of s (k - 1) = mul-le-mul (omega (arith, r.1, l, d)) (omega (arith, l, d)) in
      omega (arith, a, b, c, m)

  pub zone_asks : (p : Places) → p ≡ places_of s k → (r : ℕ) → r ≡ rank_left k t h.bonds → (slots room : ℕ) → slots ≡ core_size s k → most_core ≤ room
      → ZoneFits k (ltb (k + 1) s.d) r (left_of t k) (points_of t k) (right_of t k) p.from p.mid p.to slots (length h.carries) room
  unfolding core_size
  zone_asks p e r q slots room f g =
      subst (λ (p : Places). ZoneFits k (ltb (k + 1) s.d) r (left_of t k) (points_of t k) (right_of t k) p.from p.mid p.to slots (length h.carries) room) (sym e)
      (record {
        least = omega (arith, q, (A.rank lt).0);
        rows = omega (arith, q, (A.rank lt).1);
        points = (A.sizes.axes.points k most).0;
        columns = (A.sizes.right k most).0;
        few = (A.sizes.right k most).1;
        first = λ o. q ∙ first_rank o;
        core = omega (arith, size_inside s z k t h A lt, f);
        copy = omega (arith, size_inside s z k t h A lt, core_most s w k lt, g);
        left = offset_mono (carry_size s) (k - 1) k (omega arith);
        right = omega arith;
        held = omega (arith, carries_room s z k t h A lt, offset_suc (carry_size s) k);
        taken = λ o. subst (λ (x : ℕ). x * left_of t k ≤ offset (carry_size s) k - offset (carry_size s) (k - 1)) (sym q) (taken_room o);
        carry = λ o. omega (arith, mul-le-mul (A.right k lt) (A.right k lt), carry_bond s k (ltb_is (k + 1) s.d o));
        ends = λ o. omega (arith, carry_end s k (ltb_not (k + 1) s.d o));
      })
    where
      first_rank : k ≡ 0 → rank_left k t h.bonds ≡ left_of t k
      first_rank o = sym (rank_first k t h.bonds (omega arith)) ∙ ap (left_of t) (sym o)

  -- the carry on its left, by where it stands
  carry_read : (r : ℕ) → r ≡ rank_left k t h.bonds → carry_from k r (take (r * left_of t k) (take (offset (carry_size s) k - offset (carry_size s) (k - 1)) (drop (offset (carry_size s) (k - 1)) h.carries))) ≡ carry_left s t h k
  unfolding carry_left rank_left slot
  carry_read r q = ap (λ (x : ℕ). carry_from k x (take (x * left_of t k) (take (offset (carry_size s) k - offset (carry_size s) (k - 1)) (drop (offset (carry_size s) (k - 1)) h.carries)))) q ∙ go k
    where
      go : (j : ℕ) → carry_from j (rank_left j t h.bonds) (take (rank_left j t h.bonds * left_of t j) (take (offset (carry_size s) j - offset (carry_size s) (j - 1)) (drop (offset (carry_size s) (j - 1)) h.carries))) ≡ carry_left s t h j
      go zero = refl
      go (suc j) =
          let a : suc j - 1 ≡ j = omega arith in
          let b = offset_suc (carry_size s) j in
          let c : offset (carry_size s) (suc j) - offset (carry_size s) j ≡ carry_size s j = omega arith in
          ap (λ (i : ℕ). some (rank_at h j) (take (rank_at h j * left_of t (suc j)) (take (offset (carry_size s) (suc j) - offset (carry_size s) i) (drop (offset (carry_size s) i) h.carries)))) a
          ∙ ap (λ (n : ℕ). some (rank_at h j) (take (rank_at h j * left_of t (suc j)) (take n (drop (offset (carry_size s) j) h.carries)))) c

  -- ---- a part of the work that was lent and came back as x
  module _ (p : Places) (e : p ≡ places_of s k) where
    span : p.end - p.at ≡ core_size s k
    span = ap (λ (p : Places). p.end - p.at) e ∙ omega arith

    room : p.end - p.at ≡ core_size s k → length (take (p.end - p.at) (drop p.at h.chain)) ≡ core_size s k
    unfolding slot
    room f =
        ap (λ (p : Places). length (take (p.end - p.at) (drop p.at h.chain))) e ∙ ap
        (λ (n : ℕ). length (take n (drop (offset (core_size s) k) h.chain))) (sym (ap (λ (p : Places). p.end - p.at) e) ∙ f) ∙ slot_length (core_size s) k
        h.chain (chain_room s z k t h A lt)

    pub slot_lent : length (take (p.end - p.at) (drop p.at h.chain)) ≡ core_size s k
    slot_lent = room span

    pub end_fits : p.end ≤ length h.chain
    end_fits = subst (λ (p : Places). p.end ≤ length h.chain) (sym e) (omega (arith, chain_room s z k t h A lt, offset_suc (core_size s) k))

    pub start_fits : p.at ≤ p.end
    start_fits = subst (λ (p : Places). p.at ≤ p.end) (sym e) (omega arith)

  -- ---- the zone, by what its code says of the parts it was lent
  module _ (cutting : Cutting) (r : ℕ) (q : r ≡ rank_left k t h.bonds) (u : Answer Bond) (x carries : List Float) where
    abbrev lent : Places → List Float
    lent p = take (p.end - p.at) (drop p.at h.chain)

    abbrev own : Places → List Float
    own p = take (p.to - p.mid) (drop p.mid carries)

    abbrev zone : Bool → Carry → Core → ℕ → ℕ → Answer Laid
    zone more cy c m n = bind (round_core cutting more k cy c) (λ y. Ok (laid_cut m n y))

    abbrev Claim : Places → Type 0
    Claim p =
        zone (ltb (k + 1) s.d)
        (carry_from k r (take (r * left_of t k) (take (p.mid - p.from) (drop p.from h.carries))))
        (core_with (left_of t k) (points_of t k) (right_of t k) (take (left_of t k * points_of t k * right_of t k) (lent p)))
        (length (lent p)) (p.to - p.mid)
        ≡ outcome_of u (λ (b : Bond). laid_as (ltb (k + 1) s.d) r b x (own p))
        → carries ≡ take p.mid h.carries ++ (own p ++ drop p.to h.carries)
        → length x ≡ length (lent p)
        → ZoneCut cutting s k t h u (take p.at h.chain ++ (x ++ drop (p.end - p.at) (drop p.at h.chain))) carries

    claim : Claim (places_of s k)
    unfolding slot put standing core_size
    claim f g l =
        let P = places_of s k in
        let a : P.end - P.at ≡ core_size s k = omega arith in
        let own-size : P.to - P.mid ≡ carry_size s k = omega arith in
        let m = slot_lent P refl in
        let room = chain_room s z k t h A lt in
        let i = offset_suc (core_size s) k in
        let j = offset_suc (carry_size s) k in
        let new = take P.at h.chain ++ (x ++ drop (P.end - P.at) (drop P.at h.chain)) in
        let c : slot (core_size s) k new ≡ x = ap (λ (n : ℕ). take n (drop P.at new)) (sym a) ∙ part_read P.at P.end h.chain (omega arith) (omega (arith, room, i)) x l in
        let d : slot (carry_size s) k carries ≡ own P = ap (λ (n : ℕ). take n (drop P.mid carries)) (sym own-size) in
        let end_is : P.at + (P.end - P.at) ≡ offset (core_size s) (suc k) = omega (arith, i) in
        let o : lent P ≡ slot (core_size s) k h.chain = ap (λ (n : ℕ). take n (drop P.at h.chain)) a in
        record {
          laid = ap (λ (n : ℕ). zone (ltb n s.d) (carry_left s t h k) (standing s t h.chain k) (core_size s k) (carry_size s k)) (sym (add-one k))
              ∙ ap (λ (cy : Carry). zone (ltb (k + 1) s.d) cy (standing s t h.chain k) (core_size s k) (carry_size s k)) (sym (carry_read r q))
              ∙ ap (λ (y : List Float). zone (ltb (k + 1) s.d)
              (carry_from k r (take (r * left_of t k) (take (P.mid - P.from) (drop P.from h.carries))))
              (core_with (left_of t k) (points_of t k) (right_of t k) (take (core_size t k) y)) (core_size s k) (carry_size s k)) (sym o)
              ∙ ap (λ (n : ℕ). zone (ltb (k + 1) s.d)
              (carry_from k r (take (r * left_of t k) (take (P.mid - P.from) (drop P.from h.carries))))
              (core_with (left_of t k) (points_of t k) (right_of t k) (take (core_size t k) (lent P))) n (carry_size s k)) (sym m)
              ∙ ap (λ (n : ℕ). zone (ltb (k + 1) s.d)
              (carry_from k r (take (r * left_of t k) (take (P.mid - P.from) (drop P.from h.carries))))
              (core_with (left_of t k) (points_of t k) (right_of t k) (take (core_size t k) (lent P))) (length (lent P)) n) (sym own-size)
              ∙ f
              ∙ ap (λ (n : ℕ). outcome_of u (λ (b : Bond). laid_as (ltb n s.d) r b x (own P))) (add-one k)
              ∙ ap (λ (n : ℕ). outcome_of u (λ (b : Bond). laid_as (ltb (suc k) s.d) n b x (own P))) q
              ∙ ap (λ (y : List Float). outcome_of u (λ (b : Bond). laid_as (ltb (suc k) s.d) (rank_left k t h.bonds) b y (own P))) (sym c)
              ∙ ap (λ (y : List Float). outcome_of u (λ (b : Bond). laid_as (ltb (suc k) s.d) (rank_left k t h.bonds) b (slot (core_size s) k new) y)) (sym d);
          chain = ap (λ (y : List Float). take P.at h.chain ++ (y ++ drop (P.end - P.at) (drop P.at h.chain))) (sym c)
              ∙ ap (λ (y : List Float). take P.at h.chain ++ (slot (core_size s) k new ++ y)) (drop-drop (P.end - P.at) P.at h.chain ∙ ap (λ (n : ℕ). drop n h.chain) end_is);
          carried = g
              ∙ ap (λ (y : List Float). take P.mid h.carries ++ (y ++ drop P.to h.carries)) (sym d)
              ∙ ap (λ (n : ℕ). take P.mid h.carries ++ (slot (carry_size s) k carries ++ drop n h.carries)) (sym j);
        }

    pub zone_made : (p : Places) → p ≡ places_of s k → Claim p
    zone_made p e = subst Claim (sym e) claim

-- ---- a turn, by what its zone came to
-- what code says of one reading of an answer it says of another
module _ {A B C : Type 0} (g : A → B) (f : A → C) where
  read_ok : (o : Answer A) (y : B) (z : C) → bind o (λ x. Ok (g x)) ≡ Ok y → ((x : A) → g x ≡ y → f x ≡ z) → bind o (λ x. Ok (f x)) ≡ Ok z
  read_ok (Ok x) y z e h = ap Ok (h x (ok_inj e))
  read_ok (Err r) y z e h = absurd (ok_err (sym e))

  read_err : (o : Answer A) (q : Refusal) → bind o (λ x. Ok (g x)) ≡ Err q → bind o (λ x. Ok (f x)) ≡ Err q
  read_err (Ok x) q e = absurd (ok_err e)
  read_err (Err r) q e = ap Err (err_inj e)

-- the slots of a zone, one by one
turned_is : (s : Shape) (k : ℕ) (h : Stepped) {bonds : List Bond} {chain carries : List Float} (r : Carry × Cut)
    → put (bond_size s) k (fit no_bond (bond_size s k) r.1.bonds) h.bonds ≡ bonds
    → put (core_size s) k (fit zero64 (core_size s k) r.1.core.entries) h.chain ≡ chain
    → put (carry_size s) k (fit zero64 (carry_size s k) (numbers_in r.0)) h.carries ≡ carries
    → zone_turned s k r h ≡ held bonds chain carries
unfolding zone_turned
turned_is s k h r a b c = cc (a, b, c)

module _ (cutting : Cutting) (s : Shape) (k : ℕ) (t : Shape) (h : Stepped) (u : Answer Bond) (work carries : List Float) (Z : ZoneCut cutting s k t h u work carries) where
  -- a refused zone stops the turn
  pub zone_stopped : (q : Refusal) → u ≡ Err q → zone_turn cutting s k (t, h) ≡ Err q
  unfolding zone_turn outcome_of
  zone_stopped q e =
      read_err (laid_cut (core_size s k) (carry_size s k)) (λ (x : Carry × Cut). (with_core t k x.1.core, zone_turned s k x h))
      (round_core cutting (ltb (suc k) s.d) k (carry_left s t h k) (standing s t h.chain k)) q (Z.laid ∙ rw e)

module _ (cutting : Cutting) (s : Shape) (k : ℕ) (t : Shape) (h : Stepped) (u : Answer Bond) (work carries : List Float) (Z : ZoneCut cutting s k t h u work carries)
    (b : Bond) (ok : u ≡ Ok b) (lt : k < s.d) (room : k < length h.bonds) where
  abbrev answer : Bool → Laid
  answer more = laid_as more (rank_left k t h.bonds) b (slot (core_size s) k work) (slot (carry_size s) k carries)

  -- a bond's place, and right of the last core none
  bond_placed : (more : Bool) → ltb (suc k) s.d ≡ more → put (bond_size s) k (fit no_bond (bond_size s k) (answer more).bonds) h.bonds ≡ set h.bonds k (cond more b (get_or h.bonds k past_bond))
  bond_placed true m = bond_put s k h.bonds (ltb_is (suc k) s.d m) no_bond b room
  bond_placed false m = end_put s k h.bonds (omega (arith, ltb_not (suc k) s.d m)) no_bond ∙ sym (set-get_or h.bonds k past_bond)

  answer_left : (more : Bool) → (answer more).left ≡ rank_left k t h.bonds
  answer_left true = refl
  answer_left false = refl

  answer_right : (more : Bool) → (answer more).right ≡ b.rank
  answer_right true = refl
  answer_right false = refl

  core_of : (more : Bool) → (answer more).core ≡ slot (core_size s) k work
  core_of true = refl
  core_of false = refl

  carry_of_lem : (more : Bool) → (answer more).carry ≡ slot (carry_size s) k carries
  carry_of_lem true = refl
  carry_of_lem false = refl

  -- THE TURN: the core's ranks in the shape, the bond in its place
  pub zone_turned_lem : (r : ℕ) → r ≡ rank_left k t h.bonds → (t' : Shape) → t' ≡ with_core t k (core_with r (points_of t k) b.rank [])
      → (p : Bond) → p ≡ cond (ltb (k + 1) s.d) b (get_or h.bonds k past_bond)
      → zone_turn cutting s k (t, h) ≡ Ok (t', held (set h.bonds k p) work carries)
  unfolding zone_turn outcome_of
  zone_turned_lem r q t' et p ep =
      let more = ltb (suc k) s.d in
      read_ok (laid_cut (core_size s k) (carry_size s k)) (λ (x : Carry × Cut). (with_core t k x.1.core, zone_turned s k x h))
      (round_core cutting more k (carry_left s t h k) (standing s t h.chain k)) (answer more) (t', held (set h.bonds k p) work carries) (Z.laid ∙ rw ok)
      (λ x e.
      let L : x.1.core.rl ≡ r = ap (λ (l : Laid). l.left) e ∙ answer_left more ∙ sym q in
      let R : x.1.core.rr ≡ b.rank = ap (λ (l : Laid). l.right) e ∙ answer_right more in
      let P : p ≡ cond more b (get_or h.bonds k past_bond) = ep ∙ ap (λ (n : ℕ). cond (ltb n s.d) b (get_or h.bonds k past_bond)) (add-one k) in
      let A = ap (λ (l : Laid). put (bond_size s) k (fit no_bond (bond_size s k) l.bonds) h.bonds) e ∙ bond_placed more refl ∙ ap (set h.bonds k) (sym P) in
      let D = ap (λ (u : List Float). put (core_size s) k u h.chain) (ap (λ (l : Laid). l.core) e ∙ core_of more) ∙ sym Z.chain in
      let E = ap (λ (u : List Float). put (carry_size s) k u h.carries) (ap (λ (l : Laid). l.carry) e ∙ carry_of_lem more) ∙ sym Z.carried in
      let F = turned_is s k h x A D E in
      cc (L, R, F, et))

  -- so the rank on the left of the next zone is the bond's
  pub rank_carried : (p : Bond) → p ≡ cond (ltb (k + 1) s.d) b (get_or h.bonds k past_bond) → (t' : Shape) → k + 1 < s.d → b.rank ≡ rank_left (k + 1) t' (set h.bonds k p)
  unfolding rank_left
  rank_carried p ep t' l =
      let P : p ≡ b = ep ∙ ap (λ (m : Bool). cond m b (get_or h.bonds k past_bond)) (ltb_yes (k + 1) s.d l) in
      rw add-one (sym (ap (λ (x : Bond). x.rank) (get_or-set_same h.bonds k p past_bond room ∙ P)))

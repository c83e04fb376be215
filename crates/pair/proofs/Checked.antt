-- What a call that passes its checks was given. Assumes nothing.
use Rattle.std.specs.Prelude.{Ok}
use mathlib.Core.Path.{◌≡◌}
use Prim.Native.Nat.{ℕ, ◌*◌, ◌≤◌}
use mathlib.Core.Bool.{Bool, true, ◌&&◌}
use lib.Dec.{leb}
use lib.ListN.{length}
use lib.Ieee.{Float}
use Rattle.numbers.specs.Finite.{finite}
use Rattle.answers.specs.declared.Refusal.{Refusal}
use Rattle.answers.specs.declared.Refusal.TheVariants.{Setting}
use Rattle.answers.specs.Outcome.{Answer, demand, ◌then◌}
use Rattle.answers.proofs.Checks.{then_is, demand_is}
use Rattle.lists.specs.Floats.{all_finite}
use Rattle.lists.proofs.Tests.{leb_is, eqb_is, both}
use Rattle.shape.specs.Limits.{most_points, most_rank, within, most_lines, pair_scratch}
use Rattle.shape.specs.Cores.{Core}
use Rattle.cutform.specs.Call.{not_below_zero}
use Rattle.pairform.specs.Call.{sizes_ok, core_numbers, left_room, right_room, pair_sized, pair_lent, pair_finite, pair_ok}

-- x is from 1 to the most
pub record Within (most x : ℕ) : Type 0 where
  pub least : 1 ≤ x
  pub bound : x ≤ most

within_is : (most x : ℕ) → within most x ≡ true → Within most x
within_is most x e = let (a, b) = both (leb 1 x) (leb x most) e in record { least = leb_is 1 x a; bound = leb_is x most b }

pub record Sizes (c : Core) : Type 0 where
  pub rl : Within most_rank c.rl
  pub n : Within most_points c.n
  pub rr : Within most_rank c.rr

pub sizes_are : (c : Core) → sizes_ok c ≡ true → Sizes c
unfolding sizes_ok
sizes_are c e =
    let (a, b) = both (within most_rank c.rl) (within most_points c.n && within most_rank c.rr) e in
    let (p, q) = both (within most_points c.n) (within most_rank c.rr) b in
    record { rl = within_is most_rank c.rl a; n = within_is most_points c.n p; rr = within_is most_rank c.rr q }

pub demand_then : {A : Type 0} (b : Bool) (r : Refusal) (o : Answer A) (a : A) → demand b r then o ≡ Ok a → (b ≡ true) × (o ≡ Ok a)
demand_then b r o a h = let (p, q) = then_is (demand b r) o a h in (demand_is b r p, q)

pub record Checked (l r : Core) (eps : Float) (left_out right_out scratch : ℕ) : Type 0 where
  pub left : Sizes l
  pub right : Sizes r
  pub rows : l.rl * l.n ≤ most_lines
  pub columns : r.n * r.rr ≤ most_lines
  pub middle : l.rr ≡ r.rl
  pub left_length : length l.entries ≡ core_numbers l
  pub right_length : length r.entries ≡ core_numbers r
  pub left_roomy : left_out ≡ left_room l
  pub right_roomy : right_out ≡ right_room r
  pub scratch_length : scratch ≡ pair_scratch
  pub eps_finite : finite eps ≡ true
  pub left_finite : all_finite l.entries ≡ true
  pub right_finite : all_finite r.entries ≡ true
  pub eps_mild : not_below_zero eps ≡ true

pub checked : (l r : Core) (eps : Float) (left_out right_out scratch : ℕ) → pair_ok l r eps left_out right_out scratch ≡ Ok tt → Checked l r eps left_out right_out scratch
unfolding pair_ok pair_sized pair_lent pair_finite
checked l r eps left_out right_out scratch h =
    let (sized, x) = then_is (pair_sized l r) _ tt h in
    let (lent, fine) = then_is (pair_lent l r left_out right_out scratch) (pair_finite eps l.entries r.entries) tt x in
    let (size0, a) = demand_then _ _ _ tt sized in
    let (size1, b) = demand_then _ _ _ tt a in
    let (length0, d) = demand_then _ _ _ tt lent in
    let (length1, e) = demand_then _ _ _ tt d in
    let (length2, f) = demand_then _ _ _ tt e in
    let (length3, g) = demand_then _ _ _ tt f in
    let (number0, j) = demand_then _ _ _ tt fine in
    let (number1, k) = demand_then _ _ _ tt j in
    let (left, rows) = both (sizes_ok l) (leb (l.rl * l.n) most_lines) size0 in
    let (right, columns) = both (sizes_ok r) (leb (r.n * r.rr) most_lines) size1 in
    let (lone, lefts) = both (finite eps) (all_finite l.entries) number0 in
    record {
      left = sizes_are l left;
      right = sizes_are r right;
      rows = leb_is (l.rl * l.n) most_lines rows;
      columns = leb_is (r.n * r.rr) most_lines columns;
      middle = eqb_is l.rr r.rl (demand_is _ _ b);
      left_length = eqb_is (length l.entries) (core_numbers l) length0;
      right_length = eqb_is (length r.entries) (core_numbers r) length1;
      left_roomy = eqb_is left_out (left_room l) length2;
      right_roomy = eqb_is right_out (right_room r) length3;
      scratch_length = eqb_is scratch pair_scratch (demand_is _ _ g);
      eps_finite = lone;
      left_finite = lefts;
      right_finite = number1;
      eps_mild = demand_is (not_below_zero eps) (Setting 0) k;
    }

-- THE ENTRY THEOREM: weights of 1 at one index and 0 elsewhere give, where they are accepted, that entry of the chain, bit for bit: the matrix product from the left, sums ascending.
-- And what follows of a zero's sign: neither a figure nor an entry is -0, and a lone core's -0 gives +0. Assumes nothing.
use mathlib.Core.Path.{◌≡◌, refl, sym, ap, ap₂, ◌∙◌, subst}
use Prim.Native.Nat.{ℕ, zero, suc, ◌+◌, ◌≤◌, ◌<◌}
use native.Mathlib.Omega.{arith}
use mathlib.Core.Bool.{true, false}
use mathlib.Core.List.{List, [], ◌∷◌}
use lib.ListN.{length, get_or-eq_default}
use lib.IntN.{pos}
use lib.Ieee.{Float, nan, inf, fin, binary64, fits, of_bits}
use lib.Ieee.Fits.{mul-fits}
use Rattle.answers.specs.declared.Part.TheVariants.{Sum}
use Rattle.std.specs.Prelude.{Ok, Err}
use Rattle.answers.specs.Outcome.{Answer, ◌then◌, held_or}
use Rattle.answers.proofs.Outcomes.{bind_ok, ok_inj, making_is}
use Rattle.answers.proofs.Checks.{then_is}
use Rattle.numbers.specs.Arithmetic.{plus, times, zero64}
use Rattle.numbers.specs.Finite.{finite}
use Rattle.numbers.specs.Zeros.{unsigned, Alike}
use Rattle.numbers.proofs.Constants.{zero_is}
use Rattle.numbers.proofs.Swaps.{plus_swap}
use Rattle.numbers.proofs.Zeros.{one_times, times_one, alike_refl, alike_finite, alike_times, plus_zero_unsigned}
use Rattle.lists.specs.Lists.{iter, listed, tab}
use Rattle.lists.specs.Walks.{walk, state_at}
use Rattle.lists.specs.Floats.{at, sum_on, sum_to, sum_rows, all_finite, stored}
use Rattle.lists.proofs.Tables.{listed_same, length_tab, get_or_tab_lem}
use Rattle.lists.proofs.Tests.{below_or_not}
use Rattle.lists.proofs.Floats.{stored_is, finite_get_d_lem}
use Rattle.lists.proofs.Sums.{Fits, Zero, sum_fits, one_term, sum_finite, zero_fits, times_none}
use Rattle.lists.proofs.Walks.{walk_cons}
use Rattle.shape.specs.declared.Shape.{Shape}
use Rattle.shape.specs.Shapes.{points_of, chain_ok}
use Rattle.shape.specs.Cores.{Core, entry, core_at, points_at}
use Rattle.shape.proofs.Shaped.{shaped}
use Rattle.sumform.specs.Contract.{contract}
use Rattle.sumform.specs.Product.{contract_at, sum_axis, start_sums, sums, inner}
use Rattle.sumform.specs.Entry.{row_times, row_after, tt_entry, entry_at, OneAt, NotMinusZero}
use Rattle.sumform.specs.Call.{inner_ok, weighed, inner_call}
use Rattle.sumform.proofs.Signs.{alike_equal, plus_keeps, sum_keeps}

-- ---- zeros
zero_keeps : NotMinusZero zero64
zero_keeps = ap unsigned zero_is ∙ sym zero_is

zero_of : (x : Float) → Alike x zero64 → Zero x
zero_of x e = go x (e ∙ ap unsigned zero_is)
  where
    go : (x : Float) → unsigned x ≡ fin false 0 (pos 0) → Zero x
    go nan h = let z : ◌≡◌ {A = ℕ} 0 1 = cc in absurd (omega arith)
    go (inf s) h = let z : ◌≡◌ {A = ℕ} 0 1 = cc in absurd (omega arith)
    go (fin s zero e) h = let z : e ≡ pos 0 = cc in (s, ap (fin s 0) z)
    go (fin s (suc m) e) h = let z : suc m ≡ 0 = cc in absurd (omega arith)

zero_fit : (x : Float) → Zero x → Fits x
unfolding fits
zero_fit x z = subst Fits (sym z.1) tt

-- ---- one axis, by any weights
module _ (c : Core) (f eta : List Float) where
  abbrev product : ℕ → ℕ → ℕ → Float
  product j a k = times (at eta a) (entry c a k j)

  -- the terms of row a at right index j
  abbrev term : ℕ → ℕ → ℕ → Float
  term j a k = times (product j a k) (at f k)

  term_fits : (j a k : ℕ) → Fits (term j a k)
  term_fits j a k = mul-fits binary64 (product j a k) (at f k)

  -- the rows below m, ascending
  abbrev rows : ℕ → ℕ → Float
  rows j m = iter m (λ (a : ℕ) (s : Float). sum_on s c.n (term j a)) zero64

  rows_fit : (j m : ℕ) → Fits (rows j m)
  rows_fit j zero = zero_fits
  rows_fit j (suc m) = sum_fits (term j m) (term_fits j m) (rows j m) c.n (rows_fit j m)

  rows_keep : (j m : ℕ) → NotMinusZero (rows j m)
  rows_keep j zero = zero_keeps
  rows_keep j (suc m) = sum_keeps (term j m) (term_fits j m) (rows j m) c.n (rows_fit j m) (rows_keep j m)

  -- ---- by weights of 1 at index i
  module _ (i : ℕ) (one : OneAt c.n i f) where
    -- one term of a row is the product, the others are zeros
    row_one : (j a : ℕ) → term j a i ≡ product j a i
    row_one j a = ap (times (product j a i)) one.one ∙ times_one (product j a i) (mul-fits binary64 (at eta a) (entry c a i j))

    row_zero : (j a k : ℕ) → k < c.n → ¬ (k ≡ i) → finite (term j a k) ≡ true → Zero (term j a k)
    row_zero j a k l d h =
        let p = product j a k in
        let w = at f k in
        let e = one.elsewhere k l d in
        let p-fits = mul-fits binary64 (at eta a) (entry c a k j) in
        let A : Alike (times p w) (times p zero64) = alike_times p p w zero64 p-fits p-fits (zero_fit w (zero_of w e)) zero_fits (alike_refl p) e in
        let z = times_none p (sym (alike_finite (times p w) (times p zero64) A) ∙ h) in
        zero_of (times p w) (A ∙ ap unsigned z.1 ∙ ap unsigned (sym zero_is))

    abbrev straight : ℕ → ℕ → Float
    straight j m = sum_on zero64 m (λ (a : ℕ). product j a i)

    rows_exact : (j m : ℕ) → finite (rows j m) ≡ true → rows j m ≡ straight j m
    unfolding sum_on
    rows_exact j zero h = refl
    rows_exact j (suc m) h =
        let F = sum_finite (term j m) (term_fits j m) (rows j m) c.n h in
        let A = one_term (term j m) (term_fits j m) (rows j m) i c.n one.inside (rows_fit j m) (λ k l d. row_zero j m k l d (F.1 k l)) in
        alike_equal (rows j (suc m)) (plus (rows j m) (term j m i)) (rows_keep j (suc m)) (plus_keeps (rows j m) (term j m i) (rows_fit j m) (term_fits j m i) (rows_keep j m)) A
        ∙ ap₂ plus (rows_exact j m F.0) (row_one j m)

    -- what is stored at this axis is the row times the matrix at i
    axis_exact : (e : List Float) → stored (contract c f eta) ≡ Ok e → e ≡ row_times eta c i
    unfolding contract row_times sum_rows sum_to
    axis_exact e h =
        let S = stored_is (contract c f eta) e h in
        let sum : ℕ → Float = λ j. rows j c.rl in
        sym S.0 ∙ listed_same c.rr 0 sum (λ (j : ℕ). straight j c.rl) (λ j a b.
        let l : j < c.rr = omega arith in
        let long : j < length (tab c.rr sum) = subst (λ (n : ℕ). j < n) (sym (length_tab c.rr sum)) l in
        rows_exact j c.rl (ap finite (sym (get_or_tab_lem c.rr sum j nan l)) ∙ finite_get_d_lem (tab c.rr sum) j nan long (ap all_finite S.0 ∙ S.1)))

-- ---- all axes
module _ (c : ℕ → Core) (w : ℕ → List Float) (i : ℕ → ℕ) where
  walk_exact : (m k : ℕ) (v : List Float) → ((j : ℕ) → k ≤ j → j < k + m → OneAt (c j).n (i j) (w j)) → (tr : List (List Float × Unit {0}))
      → walk sum_axis k v (listed m k (λ (j : ℕ). (c j, w j))) ≡ Ok tr → state_at v tr (length tr) ≡ row_after v (listed m k (λ (j : ℕ). (c j, i j)))
  unfolding walk listed row_after sum_axis contract_at
  walk_exact zero k v u tr h = ap (λ (t : List (List Float × Unit {0})). state_at v t (length t)) (sym (ok_inj h))
  walk_exact (suc m) k v u tr h =
      let W = walk_cons sum_axis k v (c k, w k) (listed m (suc k) (λ (j : ℕ). (c j, w j))) tr h in
      let B = bind_ok (contract_at k (c k) (w k) v) (λ e. Ok (e, tt)) W.0 W.1 in
      let s = making_is Sum k (stored (contract (c k) (w k) v)) B.0 B.1 in
      let row : W.0.0 ≡ row_times v (c k) (i k) = ap (λ (x : List Float × Unit {0}). x.0) (sym (ok_inj B.2)) ∙ axis_exact (c k) (w k) v (i k) (u k (omega arith) (omega arith)) B.0 s in
      ap (λ (t : List (List Float × Unit {0})). state_at v t (length t)) (sym W.2.2)
      ∙ walk_exact m (suc k) W.0.0 (λ j a b. u j (omega arith) (omega arith)) W.2.0 W.2.1
      ∙ ap (λ (x : List Float). row_after x (listed m (suc k) (λ (j : ℕ). (c j, i j)))) row

-- UNIT WEIGHTS GIVE THE ENTRY
pub unit_entry : (s : Shape) (chain weights : List Float) (i : ℕ → ℕ) → ((k : ℕ) → k < s.d → OneAt (points_of s k) (i k) (points_at s weights k))
    → (y : Float) → inner_call s chain weights ≡ Ok y → y ≡ entry_at s chain i
unfolding inner_call inner sums weighed entry_at tt_entry core_at
unit_entry s chain weights i one y e =
    let I = (then_is (inner_ok s chain weights) (inner (weighed s chain weights)) y e).1 in
    let B = bind_ok (sums (weighed s chain weights)) (λ tr. Ok (at (state_at start_sums tr (length tr)) 0)) y I in
    sym (ok_inj B.2) ∙ ap (λ (v : List Float). at v 0) (walk_exact (core_at s chain) (points_at s weights) i s.d 0 start_sums (λ k a b. one k (omega arith)) B.0 B.1)

-- ---- a zero's sign
tab_keeps : (n : ℕ) (g : ℕ → Float) → ((j : ℕ) → NotMinusZero (g j)) → (j : ℕ) → NotMinusZero (at (tab n g) j)
tab_keeps n g h j =
    below_or_not j n
    (λ l. subst NotMinusZero (sym (get_or_tab_lem n g j nan l)) (h j))
    (λ l. subst NotMinusZero (sym (get_or-eq_default (tab n g) nan (subst (λ (m : ℕ). m ≤ j) (sym (length_tab n g)) l))) refl)

start_keeps : (a : ℕ) → NotMinusZero (at start_sums a)
unfolding of_bits
start_keeps zero = refl
start_keeps (suc a) = refl

walk_keeps : (ps : List (Core × List Float)) (k : ℕ) (v : List Float) → ((a : ℕ) → NotMinusZero (at v a)) → (tr : List (List Float × Unit {0}))
    → walk sum_axis k v ps ≡ Ok tr → (a : ℕ) → NotMinusZero (at (state_at v tr (length tr)) a)
unfolding walk sum_axis contract_at contract sum_rows
walk_keeps [] k v q tr h a = subst (λ (t : List (List Float × Unit {0})). NotMinusZero (at (state_at v t (length t)) a)) (ok_inj h) (q a)
walk_keeps (p ∷ ps) k v q tr h a =
    let W = walk_cons sum_axis k v p ps tr h in
    let B = bind_ok (contract_at k p.0 p.1 v) (λ e. Ok (e, tt)) W.0 W.1 in
    let s = stored_is (contract p.0 p.1 v) B.0 (making_is Sum k (stored (contract p.0 p.1 v)) B.0 B.1) in
    let e : contract p.0 p.1 v ≡ W.0.0 = s.0 ∙ ap (λ (x : List Float × Unit {0}). x.0) (ok_inj B.2) in
    let next = subst (λ (x : List Float). (b : ℕ) → NotMinusZero (at x b)) e (tab_keeps p.0.rr (λ (j : ℕ). rows p.0 p.1 v j p.0.rl) (λ j. rows_keep p.0 p.1 v j p.0.rl)) in
    subst (λ (t : List (List Float × Unit {0})). NotMinusZero (at (state_at v t (length t)) a)) W.2.2 (walk_keeps ps (suc k) W.0.0 next W.2.0 W.2.1 a)

-- no figure is -0, whatever the weights are, nor is the +0 that stands for one that is refused
pub figure_not_minus_zero : (s : Shape) (chain weights : List Float) → NotMinusZero (held_or zero64 (inner_call s chain weights))
unfolding inner_call inner sums
figure_not_minus_zero s chain weights = go (inner_ok s chain weights then inner (weighed s chain weights)) refl
  where
    go : (o : Answer Float) → (inner_ok s chain weights then inner (weighed s chain weights)) ≡ o → NotMinusZero (held_or zero64 o)
    go (Ok x) e =
        let I = (then_is (inner_ok s chain weights) (inner (weighed s chain weights)) x e).1 in
        let B = bind_ok (sums (weighed s chain weights)) (λ tr. Ok (at (state_at start_sums tr (length tr)) 0)) x I in
        subst NotMinusZero (ok_inj B.2) (walk_keeps (weighed s chain weights) 0 start_sums start_keeps B.0 B.1 0)
    go (Err r) e = zero_keeps

-- nor is an entry
rows_after_keep : (ps : List (Core × ℕ)) (v : List Float) → ((a : ℕ) → NotMinusZero (at v a)) → (a : ℕ) → NotMinusZero (at (row_after v ps) a)
unfolding row_after row_times sum_to
rows_after_keep [] v q a = q a
rows_after_keep (p ∷ ps) v q a =
    let t : ℕ → ℕ → Float = λ j b. times (at v b) (entry p.0 b p.1 j) in
    rows_after_keep ps (row_times v p.0 p.1)
    (tab_keeps p.0.rr (λ (j : ℕ). sum_on zero64 p.0.rl (t j)) (λ j. sum_keeps (t j) (λ b. mul-fits binary64 (at v b) (entry p.0 b p.1 j)) zero64 p.0.rl zero_fits zero_keeps)) a

pub entry_not_minus_zero : (ps : List (Core × ℕ)) → NotMinusZero (tt_entry ps)
unfolding tt_entry
entry_not_minus_zero ps = rows_after_keep ps start_sums start_keeps 0

-- of a lone core the entry is the number that the core holds, and +0 where that is -0
lone_entry : (c : Core) (i : ℕ) → c.rl ≡ 1 → c.rr ≡ 1 → Fits (entry c 0 i 0) → tt_entry ((c, i) ∷ []) ≡ unsigned (entry c 0 i 0)
unfolding tt_entry row_after row_times sum_to sum_on
lone_entry c i left right held =
    let x = entry c 0 i 0 in
    let term : ℕ → Float = λ a. times (at start_sums a) (entry c a i 0) in
    get_or_tab_lem c.rr (λ (j : ℕ). sum_to c.rl (λ (a : ℕ). times (at start_sums a) (entry c a i j))) 0 nan (omega arith)
    ∙ ap (λ (m : ℕ). sum_on zero64 m term) left
    ∙ ap (plus zero64) (one_times x held)
    ∙ plus_swap zero64 x
    ∙ plus_zero_unsigned x held

-- and so is the figure
pub lone_figure : (s : Shape) (chain weights : List Float) (i : ℕ) → s.d ≡ 1 → OneAt (points_of s 0) i (points_at s weights 0) → Fits (entry (core_at s chain 0) 0 i 0)
    → (y : Float) → inner_call s chain weights ≡ Ok y → y ≡ unsigned (entry (core_at s chain 0) 0 i 0)
unfolding inner_call inner_ok entry_at core_at listed
lone_figure s chain weights i alone one held y e =
    let ok = (then_is (inner_ok s chain weights) (inner (weighed s chain weights)) y e).0 in
    let S = shaped s (λ (k : ℕ). true) (then_is (chain_ok s) _ tt ok).0 in
    unit_entry s chain weights (λ (k : ℕ). i) (λ k lt. let z : 0 ≡ k = omega arith in subst (λ (j : ℕ). OneAt (points_of s j) i (points_at s weights j)) z one) y e
    ∙ ap (λ (d : ℕ). tt_entry (tab d (λ (k : ℕ). (core_at s chain k, i)))) alone
    ∙ lone_entry (core_at s chain 0) i S.first (S.last 0 (sym alone)) held

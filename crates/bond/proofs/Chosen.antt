-- What is chosen of a matrix' values, in the form that proofs of code cite. Assumes nothing.
use mathlib.Core.Path.{◌≡◌, refl, sym, ap, ◌∙◌}
use Prim.Native.Nat.{ℕ, zero, suc, ◌+◌, ◌-◌, ◌<◌, ◌≤◌}
use native.Mathlib.Nat.{sub-zero, add-zero}
use native.Mathlib.Numerals.{add-one}
use native.Mathlib.Omega.{arith}
use mathlib.Core.Bool.{Bool, true, false, cond}
use mathlib.Core.List.{List, ◌++◌}
use lib.ListN.{length, get_or, take, get_or-eq_default}
use lib.Ieee.{Float, nan}
use Rattle.numbers.specs.Arithmetic.{zero64}
use Rattle.std.specs.Prelude.{Ok, Err, Result, count_by}
use Rattle.std.proofs.lemmas.List.Sums.{count_by_more_yes, count_by_more_no}
use Rattle.answers.specs.Outcome.{Made, bind, staged, outcome_of, stage_of, Stage}
use Rattle.answers.proofs.Outcomes.{bind_ok, ok_inj}
use Rattle.lists.specs.Lists.{count}
use Rattle.lists.specs.Floats.{at, all_finite, stored}
use Rattle.lists.proofs.Floats.{stored_is}
use Rattle.lists.proofs.Parts.{part_again}
use Rattle.lists.proofs.Stages.{stored_staged, staged_on}
use Rattle.lists.proofs.Tables.{length_tab, get_d_any}
use Rattle.cutform.specs.Values.{singulars, order, sorted, kept_rank, dropped_from}
use Rattle.bond.specs.declared.values.Kept.{Kept}
use Rattle.bond.specs.Chosen.{Chosen, chosen_of}
use Rattle.cutform.proofs.Ranked.{order_lt, rank_most}

-- ---- the stage, from its parts
module _ (eps : Float) (n : ℕ) (g sv : List Float) (r : Stage) (es : sv ≡ singulars n g) (er : r ≡ stage_of (stored sv)) where
  abbrev rest : List Float → Made Chosen
  rest x = let ss = sorted n x in let r = kept_rank eps n ss in Ok (record { rank = r; dropped = dropped_from r ss; order = order n x; values = ss })

  opened : chosen_of eps n g ≡ bind (staged r sv) rest
  unfolding chosen_of
  opened = ap (λ (o : Made (List Float)). bind o rest) (ap stored (sym es) ∙ stored_staged sv r er)

  pub chosen_stop : (i : ℕ) → r ≡ Err i → chosen_of eps n g ≡ Err i
  unfolding staged
  chosen_stop i h = opened ∙ ap (λ (x : Stage). bind (staged x sv) rest) h

  pub chosen_end : r ≡ Ok tt → (js : List ℕ) (ss : List Float) (k : ℕ) (x : Float) → js ≡ order n sv → ss ≡ sorted n sv → k ≡ kept_rank eps n ss → x ≡ dropped_from k ss
      → chosen_of eps n g ≡ Ok (record { rank = k; dropped = x; order = js; values = ss })
  chosen_end h js ss k x ej es ek ex = opened ∙ staged_on r sv rest h ∙ rw (ej, ex, ek, es)

-- the value behind those that are kept, and +0 where there is none
pub dropped_read : (ss : List Float) (r : ℕ) → r < length ss → get_or ss r nan ≡ dropped_from r ss
unfolding dropped_from
dropped_read ss r l = get_d_any ss r nan zero64 l

pub dropped_past : (ss : List Float) (r : ℕ) → length ss ≤ r → zero64 ≡ dropped_from r ss
unfolding dropped_from
dropped_past ss r l = sym (get_or-eq_default ss zero64 l)

-- values that were stored are finite
pub stored_finite : (l : List Float) (r : Stage) → r ≡ stage_of (stored l) → r ≡ Ok tt → all_finite l ≡ true
unfolding staged
stored_finite l r e h = (stored_is l l (stored_staged l r e ∙ rw h)).1

-- ---- what may be asked of it
module _ (eps : Float) (n : ℕ) (g : List Float) (q : Chosen) (e : chosen_of eps n g ≡ Ok q) (l : 1 ≤ n) where
  pub chosen_most : q.rank ≤ n
  unfolding chosen_of
  chosen_most =
      let A = bind_ok (stored (singulars n g)) _ q e in
      let z : kept_rank eps n (sorted n A.0) ≡ q.rank = ap (λ (x : Chosen). x.rank) (ok_inj A.2) in
      let m = rank_most eps n (sorted n A.0) l in
      omega arith

  pub chosen_columns : (j : ℕ) → j < q.rank → get_or q.order j 0 < n
  unfolding chosen_of singulars
  chosen_columns j a =
      let A = bind_ok (stored (singulars n g)) _ q e in
      let S = stored_is (singulars n g) A.0 A.1 in
      let m = chosen_most in
      order_lt n A.0 (ap length (sym S.0) ∙ length_tab n _) S.1 q.order (sym (ap (λ (x : Chosen). x.order) (ok_inj A.2))) j (omega arith)

-- the matrix, the order and the values stand at the front of slices of which parts were lent
pub chosen_front : (eps : Float) (n m : ℕ) (g : List Float) (o : Result Kept ℕ) (js js' : List ℕ) (ss ss' : List Float)
    → chosen_of eps n (take (m - 0) g) ≡ outcome_of o (λ (k : Kept). record { rank = k.rank; dropped = k.dropped; order = js; values = ss }) → length js ≡ n → length ss ≡ n
    → chosen_of eps n (take m g) ≡ outcome_of o (λ (k : Kept). record { rank = k.rank; dropped = k.dropped; order = take n (js ++ js'); values = take n (ss ++ ss') })
chosen_front eps n m g o js js' ss ss' e a b = ap (λ (j : ℕ). chosen_of eps n (take j g)) (sym (sub-zero m)) ∙ e ∙ rw (part_again n js js' a, part_again n ss ss' b)

-- ---- counted along the list, or by index
pub counted : (p : Float → Bool) (l : List Float) (n : ℕ) → n ≤ length l → count_by p (take n l) ≡ count (λ (j : ℕ). p (at l j)) n
unfolding count
counted p l zero h = refl
counted p l (suc n) h = go (p (at l n)) refl (counted p l n (omega arith))
  where
    go : (b : Bool) → p (at l n) ≡ b → count_by p (take n l) ≡ count (λ (j : ℕ). p (at l j)) n → count_by p (take (suc n) l) ≡ count (λ (j : ℕ). p (at l j)) n + cond (p (at l n)) 1 0
    go true e back = let z = count_by_more_yes p l n nan (omega arith) e in rw (e, ← back, ← add-one n) z
    go false e back = let z = count_by_more_no p l n nan (omega arith) e in rw (e, ← back, ← add-one n, add-zero) z

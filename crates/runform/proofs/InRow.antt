-- Refusal 5 of slices in a row: passed where the lengths are those that are asked, else given at the first that differs. By recursion over both lists.
use Rattle.std.specs.Prelude.{Ok, Err}
use mathlib.Core.Path.{◌≡◌, refl, sym, ap, ◌∙◌}
use Prim.Native.Nat.{ℕ, zero, suc, ◌+◌}
use native.Mathlib.Omega.{arith}
use mathlib.Core.List.{List, [], ◌∷◌, ◌++◌}
use lib.Dec.{eqb}
use lib.ListN.{length, take, get_or}
use Rattle.answers.specs.declared.Refusal.TheVariants.{Length}
use Rattle.answers.specs.Outcome.{Check, ◌then◌, demand}
use Rattle.answers.proofs.Outcomes.{bind_assoc}
use Rattle.answers.proofs.Checks.{demand_yes, demand_is, then_is, then_skip}
use Rattle.lists.proofs.Tests.{eqb_yes, eqb_no, eqb_is}
use Rattle.runform.specs.Checks.{lent_from}

pub lent_passes : (j : ℕ) (ns ms : List ℕ) → ns ≡ ms → lent_from j ns ms ≡ Ok tt
unfolding lent_from
lent_passes j [] ms e = refl
lent_passes j (n ∷ ns) [] e = refl
lent_passes j (n ∷ ns) (m ∷ ms) e = then_skip _ _ _ (demand_yes _ (Length j) (eqb_yes n m cc)) (lent_passes (suc j) ns ms cc)

pub lent_is : (j : ℕ) (ns ms : List ℕ) → length ns ≡ length ms → lent_from j ns ms ≡ Ok tt → ns ≡ ms
unfolding lent_from
lent_is j [] [] l e = refl
lent_is j [] (m ∷ ms) l e = let n : ⊥ = omega arith in absurd n
lent_is j (n ∷ ns) [] l e = let x : ⊥ = omega arith in absurd x
lent_is j (n ∷ ns) (m ∷ ms) l e =
    let A = then_is _ _ tt e in
    let here : n ≡ m = eqb_is n m (demand_is _ (Length j) A.0) in
    let there : ns ≡ ms = lent_is (suc j) ns ms (omega arith) A.1 in
    cc

pub lent_wrong : (i j : ℕ) (ns ms : List ℕ) → length ns ≡ length ms → take j ns ≡ take j ms → ¬ (get_or ns j 0 ≡ get_or ms j 0)
    → lent_from i ns ms ≡ Err (Length (i + j))
unfolding lent_from demand
lent_wrong i j [] [] l b w = absurd (w refl)
lent_wrong i j [] (m ∷ ms) l b w = let n : ⊥ = omega arith in absurd n
lent_wrong i j (n ∷ ns) [] l b w = let x : ⊥ = omega arith in absurd x
lent_wrong i zero (n ∷ ns) (m ∷ ms) l b w = let e : i ≡ i + 0 = omega arith in rw (eqb_no n m w) (ap (λ (k : ℕ). Err (Length k)) e)
lent_wrong i (suc j) (n ∷ ns) (m ∷ ms) l b w =
    let e : suc i + j ≡ i + suc j = omega arith in
    rw (eqb_yes n m cc) (lent_wrong (suc i) j ns ms (omega arith) (cc) w ∙ ap (λ (k : ℕ). Err (Length k)) e)

-- slices asked in two parts, the second behind the first
pub lent_parts : (j k : ℕ) (ns ms ns' ms' : List ℕ) → length ns ≡ length ms → j + length ns ≡ k
    → lent_from j (ns ++ ns') (ms ++ ms') ≡ lent_from j ns ms then lent_from k ns' ms'
unfolding lent_from
lent_parts j k [] [] ns' ms' l e = let s : j ≡ k = omega arith in ap (λ (i : ℕ). lent_from i ns' ms') s
lent_parts j k [] (m ∷ ms) ns' ms' l e = let n : ⊥ = omega arith in absurd n
lent_parts j k (n ∷ ns) [] ns' ms' l e = let x : ⊥ = omega arith in absurd x
lent_parts j k (n ∷ ns) (m ∷ ms) ns' ms' l e =
    ap (λ (c : Check). demand (eqb n m) (Length j) then c) (lent_parts (suc j) k ns ms ns' ms' (omega arith) (omega arith))
    ∙ sym (bind_assoc (demand (eqb n m) (Length j)) (λ _. lent_from (suc j) ns ms) (λ _. lent_from k ns' ms'))

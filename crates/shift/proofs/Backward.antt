-- The backward band: minus a ratio within reach is within reach. Assumes nothing.
use mathlib.Core.Path.{◌≡◌, refl, sym, ap, ◌∙◌}
use Prim.Native.Nat.{ℕ, ◌*◌}
use native.Mathlib.Nat.{add_comm}
use mathlib.Core.Bool.{Bool, true, false, not, beq}
use borrow.Author.Tests.{eqb-true, eqb-false, ne_eqb}
use lib.Dec.{ltb, eqb}
use lib.Ieee.{Float, nan, inf, fin, up, down, neg, lt, le, eq, below, level}
use Rattle.numbers.specs.Arithmetic.{farthest64}
use Rattle.numbers.specs.Whole.{in_reach}
use Rattle.numbers.proofs.Values.{neg_neg}
use Rattle.lists.proofs.Tests.{both, and_yes}

neg_below : (s t : Bool) (a b : ℕ) → below (not s) a (not t) b ≡ below t b s a
neg_below true true a b = refl
neg_below true false a b = refl
neg_below false true a b = ap (ltb 0) (add_comm a b)
neg_below false false a b = refl

neg_like : (s t : Bool) → beq (not s) (not t) ≡ beq t s
neg_like true true = refl
neg_like true false = refl
neg_like false true = refl
neg_like false false = refl

neg_level : (s t : Bool) (a b : ℕ) → level (not s) a (not t) b ≡ level t b s a
neg_level s t a b = go (eqb a b) refl
  where
    go : (p : Bool) → eqb a b ≡ p → level (not s) a (not t) b ≡ level t b s a
    go true e = rw (eqb-true a b e, neg_like s t)
    go false e = rw (e, ne_eqb b a (λ d. eqb-false a b e (sym d)))

neg_lt : (x y : Float) → lt (neg x) (neg y) ≡ lt y x
unfolding lt neg
neg_lt nan nan = refl
neg_lt nan (inf t) = refl
neg_lt nan (fin t n d) = refl
neg_lt (inf s) nan = refl
neg_lt (inf true) (inf true) = refl
neg_lt (inf true) (inf false) = refl
neg_lt (inf false) (inf true) = refl
neg_lt (inf false) (inf false) = refl
neg_lt (inf s) (fin t n d) = refl
neg_lt (fin s m e) nan = refl
neg_lt (fin s m e) (inf true) = refl
neg_lt (fin s m e) (inf false) = refl
neg_lt (fin s m e) (fin t n d) = neg_below s t (m * up e * down d) (n * up d * down e)

neg_eq : (x y : Float) → eq (neg x) (neg y) ≡ eq y x
unfolding eq neg
neg_eq nan nan = refl
neg_eq nan (inf t) = refl
neg_eq nan (fin t n d) = refl
neg_eq (inf s) nan = refl
neg_eq (inf s) (inf t) = neg_like s t
neg_eq (inf s) (fin t n d) = refl
neg_eq (fin s m e) nan = refl
neg_eq (fin s m e) (inf t) = refl
neg_eq (fin s m e) (fin t n d) = neg_level s t (m * up e * down d) (n * up d * down e)

neg_le : (x y : Float) → le (neg x) (neg y) ≡ le y x
unfolding le
neg_le x y = rw (neg_lt x y, neg_eq x y)

pub reach_neg : (x : Float) → in_reach x ≡ true → in_reach (neg x) ≡ true
reach_neg x h =
    let r = both (le (neg farthest64) x) (le x farthest64) h in
    let b : le (neg x) farthest64 ≡ le (neg farthest64) x = ap (le (neg x)) (sym (neg_neg farthest64)) ∙ neg_le x (neg farthest64) in
    and_yes (le (neg farthest64) (neg x)) (le (neg x) farthest64) (neg_le farthest64 x ∙ r.1) (b ∙ r.0)

-- Laws of outcomes and of going on from one. Assumes nothing.
use mathlib.Core.Path.{◌≡◌, refl, sym, ap, ◌∙◌}
use Prim.Native.Nat.{ℕ}
use native.Mathlib.Omega.{arith}
use Rattle.answers.specs.declared.Part.{Part}
use Rattle.std.specs.Prelude.{Ok, Err, Result}
use Rattle.answers.specs.Outcome.{bind, Answer, Made, making, answered, staged, stored_in, verdict_of, Stage, Check}

pub ok_inj : {E A : Type 0} {x y : A} → ◌≡◌ {A = Result A E} (Ok x) (Ok y) → x ≡ y
ok_inj h = cc

pub err_inj : {E A : Type 0} {x y : E} → ◌≡◌ {A = Result A E} (Err x) (Err y) → x ≡ y
err_inj h = cc

-- an answer is no refusal
pub ok_err : {E A : Type 0} {a : A} {e : E} → ◌≡◌ {A = Result A E} (Ok a) (Err e) → ⊥
ok_err h = let z : ◌≡◌ {A = ℕ} 0 1 = cc in omega arith

module _ {E A B C : Type 0} where
  pub bind_assoc : (o : Result A E) (k : A → Result B E) (l : B → Result C E) → bind (bind o k) l ≡ bind o (λ a. bind (k a) l)
  bind_assoc (Ok a) k l = refl
  bind_assoc (Err e) k l = refl

module _ {E A B : Type 0} where
  -- what follows may differ where the first part refuses
  pub bind_cong : (o : Result A E) (k l : A → Result B E) → ((a : A) → o ≡ Ok a → k a ≡ l a) → bind o k ≡ bind o l
  bind_cong (Ok a) k l h = h a refl
  bind_cong (Err e) k l h = refl

  -- two parts that are the same, one after the other
  pub bind_same : (o u : Result A E) (k l : A → Result B E) → o ≡ u → ((a : A) → k a ≡ l a) → bind o k ≡ bind u l
  bind_same o u k l e h = ap (λ (x : Result A E). bind x k) e ∙ bind_cong u k l (λ a d. h a)

  -- an answer of a bind has an answer of its first part behind it
  pub bind_ok : (o : Result A E) (k : A → Result B E) (b : B) → bind o k ≡ Ok b → (a : A) × (o ≡ Ok a) × (k a ≡ Ok b)
  bind_ok (Ok a) k b h = (a, refl, h)
  bind_ok (Err e) k b h = absurd (ok_err (sym h))

pub bind_eta : {E A : Type 0} (o : Result A E) → bind o (λ a. Ok a) ≡ o
bind_eta (Ok a) = refl
bind_eta (Err e) = refl

-- a stage's answer is behind the call's
pub making_is : {A : Type 0} (part : Part) (k : ℕ) (m : Made A) (a : A) → making part k m ≡ Ok a → m ≡ Ok a
making_is part k (Ok x) a h = ap Ok (ok_inj h)
making_is part k (Err i) a h = absurd (ok_err (sym h))

module _ {A B : Type 0} where
  pub making_bind : (part : Part) (k : ℕ) (m : Made A) (f : A → Made B) → making part k (bind m f) ≡ bind (making part k m) (λ a. making part k (f a))
  making_bind part k (Ok a) f = refl
  making_bind part k (Err i) f = refl

-- ---- the code's verdict with what it holds
module _ {A : Type 0} where
  -- a stage's answer as the call's, whatever it made
  pub stored_answered : (part : Part) (k : ℕ) (s : Stage) (v : Check) (a : A) → v ≡ stored_in part k s → making part k (staged s a) ≡ answered v a
  unfolding answered staged
  stored_answered part k (Ok _) v a e = ap (λ (x : Check). answered x a) (sym e)
  stored_answered part k (Err i) v a e = ap (λ (x : Check). answered x a) (sym e)

  pub answered_ok : (a : A) → answered (Ok tt) a ≡ Ok a
  unfolding answered
  answered_ok a = refl

  pub answered_told : (v : Check) (a : A) → verdict_of (answered v a) ≡ v
  unfolding answered
  answered_told (Ok _) a = refl
  answered_told (Err r) a = refl

  -- where no refusal is told, there is an answer
  pub passed_ok : (o : Answer A) → verdict_of o ≡ Ok tt → (a : A) × (o ≡ Ok a)
  passed_ok (Ok a) e = (a, refl)
  passed_ok (Err r) e = let z : ◌≡◌ {A = ℕ} 0 1 = cc in let n : ⊥ = omega arith in absurd n

-- A list made from another, record by record. Assumes nothing.
use mathlib.Core.Path.{◌≡◌, refl, sym, ap, ◌∙◌}
use Prim.Native.Nat.{ℕ, ◌+◌, ◌≤◌, ◌<◌}
use native.Mathlib.Numerals.{add-one}
use native.Mathlib.Omega.{arith}
use mathlib.Core.List.{List, [], ◌∷◌, ◌++◌, map}
use lib.ListN.{length, get_or, set, take, length-set, length-map, get_or-map}
use lib.Seq.{take_all, take-suc, take-suc-set}

-- the first i of n records are made
pub record MadeUpTo {A B : Type 0} (f : A → B) (xs : List A) (n : ℕ) (list : List B) (i : ℕ) : Type 0 where
  pub most : i ≤ n
  pub long : length list ≡ n
  pub front : take i list ≡ take i (map f xs)

module _ {A B : Type 0} (f : A → B) (xs : List A) (n : ℕ) (list : List B) where
  pub made_none : length list ≡ n → MadeUpTo f xs n list 0
  made_none l = record { most = omega arith; long = l; front = refl }

  module _ (i : ℕ) (m : MadeUpTo f xs n list i) (l : length xs ≡ n) where
    pub made_more : (o : A) (y : B) → i < n → y ≡ f (get_or xs i o) → MadeUpTo f xs n (set list i y) (i + 1)
    made_more o y h g =
        let k : i < length (map f xs) = omega (arith, length-map xs f) in
        let next : take (i + 1) (set list i y) ≡ take (i + 1) (map f xs) =
        ap (λ (j : ℕ). take j (set list i y)) (add-one i)
        ∙ take-suc-set list i y (omega arith)
        ∙ ap (λ (x : List B). x ++ (y ∷ [])) m.front
        ∙ ap (λ (x : B). take i (map f xs) ++ (x ∷ [])) (g ∙ sym (get_or-map f xs i o))
        ∙ sym (take-suc (map f xs) i (f o) k)
        ∙ ap (λ (j : ℕ). take j (map f xs)) (sym (add-one i))
        in
        record { most = omega arith; long = length-set list i y ∙ m.long; front = next }

    pub made_all : n ≤ i → list ≡ map f xs
    made_all h = sym (take_all i list (omega arith)) ∙ m.front ∙ take_all i (map f xs) (omega (arith, length-map xs f))

pub ruleset making = (made_none, made_more, made_all)

-- A loop over zones, each by itself, by what is left of it. Assumes nothing.
use Rattle.std.specs.Prelude.{Result, Ok, Err}
use mathlib.Core.Path.{◌≡◌, refl, sym, ap, ◌∙◌}
use Prim.Native.Nat.{ℕ, suc, ◌+◌, ◌-◌, ◌≤◌, ◌<◌}
use native.Mathlib.Nat.{sub_self}
use native.Mathlib.Numerals.{add-one}
use native.Mathlib.Omega.{arith}
use mathlib.Core.List.{List, [], ◌∷◌, ◌++◌, append_assoc, append-nil}
use Rattle.answers.specs.Outcome.{bind}
use Rattle.answers.proofs.Outcomes.{bind_assoc, bind_eta}
use Rattle.lists.specs.Lists.{listed}
use Rattle.lists.specs.Walks.{every}
use Rattle.lists.proofs.Tables.{listed_same, listed_add}

module _ {E X Y : Type 0} (f : ℕ → X → Result Y E) (d z : ℕ) where
  -- the zones from z to k - 1 have become y; from k on they are x
  abbrev pub Left : ℕ → (ℕ → X) → (ℕ → Y) → Result (List Y) E
  Left k x y = bind (every f k (listed (d - k) k x)) (λ ys. Ok (listed (k - z) z y ++ ys))

  pub left_none : (x : ℕ → X) (y : ℕ → Y) → every f z (listed (d - z) z x) ≡ Left z x y
  unfolding listed
  left_none x y = rw sub_self (sym (bind_eta (every f z (listed (d - z) z x))))

  module _ (T : Result (List Y) E) (k : ℕ) (x : ℕ → X) (y : ℕ → Y) (e : T ≡ Left k x y) where
    pub left_done : z ≤ k → d ≤ k → k ≤ d → T ≡ Ok (listed (d - z) z y)
    unfolding every listed
    left_done a b c =
        let g : d - k ≡ 0 = omega arith in
        let h : k - z ≡ d - z = omega arith in
        e ∙ rw (g, h) (ap Ok (append-nil (listed (d - z) z y)))

    module _ (l : k < d) where
      opened : T ≡ bind (f k (x k)) (λ r. bind (every f (suc k) (listed (d - suc k) (suc k) x)) (λ ys. Ok (listed (k - z) z y ++ (r ∷ ys))))
      unfolding every listed
      opened =
          let g : d - k ≡ suc (d - suc k) = omega arith in
          e ∙ rw g (go (f k (x k)))
        where
          go : (o : Result Y E) → bind (bind o (λ r. bind (every f (suc k) (listed (d - suc k) (suc k) x)) (λ ys. Ok (r ∷ ys)))) (λ ys. Ok (listed (k - z) z y ++ ys))
              ≡ bind o (λ r. bind (every f (suc k) (listed (d - suc k) (suc k) x)) (λ ys. Ok (listed (k - z) z y ++ (r ∷ ys))))
          go (Ok r) = bind_assoc (every f (suc k) (listed (d - suc k) (suc k) x)) (λ ys. Ok (r ∷ ys)) (λ ys. Ok (listed (k - z) z y ++ ys))
          go (Err q) = refl

      pub left_stop : (q : E) → f k (x k) ≡ Err q → T ≡ Err q
      left_stop q h = opened ∙ rw h

      -- zone k has become y' k; the zones before it stand as they did, and those behind it too
      pub left_more : z ≤ k → (x' : ℕ → X) (y' : ℕ → Y) → f k (x k) ≡ Ok (y' k) → ((j : ℕ) → k < j → j < d → x' j ≡ x j) → ((j : ℕ) → j < k → y' j ≡ y j) → T ≡ Left (k + 1) x' y'
      unfolding listed
      left_more a x' y' h behind before =
          let xs : listed (d - suc k) (suc k) x' ≡ listed (d - suc k) (suc k) x = listed_same (d - suc k) (suc k) x' x (λ j p q. behind j (omega arith) (omega arith)) in
          let ys : listed (k - z) z y' ≡ listed (k - z) z y = listed_same (k - z) z y' y (λ j p q. before j (omega arith)) in
          let c : suc k - z ≡ k - z + 1 = omega arith in
          let n : z + (k - z) ≡ k = omega arith in
          let more : listed (suc k - z) z y' ≡ listed (k - z) z y ++ (y' k ∷ []) = ap (λ (m : ℕ). listed m z y') c ∙ listed_add (k - z) 1 z y' ∙ ap (λ (m : ℕ). listed (k - z) z y' ++ (y' m ∷ [])) n ∙ ap (λ (w : List Y). w ++ (y' k ∷ [])) ys in
          opened
          ∙ ap (λ (o : Result Y E). bind o (λ r. bind (every f (suc k) (listed (d - suc k) (suc k) x)) (λ ys. Ok (listed (k - z) z y ++ (r ∷ ys))))) h
          ∙ ap (λ (w : List X). bind (every f (suc k) w) (λ ys. Ok (listed (k - z) z y ++ (y' k ∷ ys)))) (sym xs)
          ∙ go (every f (suc k) (listed (d - suc k) (suc k) x')) (sym more)
          ∙ rw add-one
        where
          go : (o : Result (List Y) E) {w : List Y} → listed (k - z) z y ++ (y' k ∷ []) ≡ w → bind o (λ ys. Ok (listed (k - z) z y ++ (y' k ∷ ys))) ≡ bind o (λ ys. Ok (w ++ ys))
          go (Ok ys) e = ap Ok (sym (append_assoc (listed (k - z) z y) (y' k ∷ []) ys) ∙ ap (λ (u : List Y). u ++ ys) e)
          go (Err q) e = refl

-- Slots one after another in one list, slot k of `size k` places: where they stand, what they hold, how they are written. Definitions only.
use Rattle.std.specs.Prelude.{◌≡◌, ℕ, zero, suc, ◌+◌, List, [], ◌∷◌, ◌++◌, length, take, drop, replicate}

-- where slot k starts
unfoldable pub offset : (ℕ → ℕ) → ℕ → ℕ
offset size zero = 0
offset size (suc k) = offset size k + size k

module _ {A : Type 0} where
  unfoldable pub slot : (ℕ → ℕ) → ℕ → List A → List A
  slot size k l = take (size k) (drop (offset size k) l)

  -- one slot anew, the rest as it was
  unfoldable pub put : (ℕ → ℕ) → ℕ → List A → List A → List A
  put size k x l = take (offset size k) l ++ (x ++ drop (offset size (suc k)) l)

  -- x in a slot of n places: o stands in the room that x leaves
  unfoldable pub fit : A → ℕ → List A → List A
  fit o n x = take n (x ++ replicate n o)

  -- each in its slot, from slot k on
  unfoldable pub laid : (ℕ → ℕ) → A → ℕ → List (List A) → List A
  laid size o k [] = []
  laid size o k (x ∷ xs) = fit o (size k) x ++ laid size o (suc k) xs

  -- the slots from z up to d written anew, the rest as it was
  unfoldable pub write : (ℕ → ℕ) → A → ℕ → ℕ → List (List A) → List A → List A
  write size o d z xs l = take (offset size z) l ++ (laid size o z xs ++ drop (offset size d) l)

-- written in the slots from z up to d: what stands before slot z and behind the slots is as it was, unused room too
pub record WrittenFrom {A : Type 0} (size : ℕ → ℕ) (z d : ℕ) (l l' : List A) : Type 0 where
  pub before : take (offset size z) l' ≡ take (offset size z) l
  pub behind : drop (offset size d) l' ≡ drop (offset size d) l
  pub long : length l' ≡ length l

-- A list placed within another. Definitions only.
use Rattle.std.specs.Prelude.{ℕ, ◌+◌, List, ◌++◌, length, take, drop}

-- x from place p of l on, the rest of l as it was
unfoldable pub placed : {A : Type 0} → ℕ → List A → List A → List A
placed p x l = take p l ++ (x ++ drop (p + length x) l)

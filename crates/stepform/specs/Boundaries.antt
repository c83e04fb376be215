-- The boundary of an axis, a number with two names, and the wrapped index: which point an index beyond an end comes to (request W6). Definitions only.
use Rattle.std.specs.Prelude.{ℕ, ◌-◌, ◌*◌, Bool, ◌||◌, eqb, leb, ℤ}
use Rattle.numbers.specs.Residues.{wrap}
use Rattle.lists.specs.Lists.{pick}

abbrev pub periodic : ℕ
periodic = 0

abbrev pub reflecting : ℕ
reflecting = 1

-- refusal 7 of a boundary: it is one of the two
unfoldable pub boundary_ok : ℕ → Bool
boundary_ok b = eqb b periodic || eqb b reflecting

-- i becomes 2n - 1 - i if it is n or more
unfoldable pub reflected : ℕ → ℕ → ℕ
reflected n i = pick (leb n i) (2 * n - 1 - i) i

-- the wrapped index: modulo n, or where the axis reflects modulo 2n and then reflected
unfoldable pub wrapped : ℕ → ℕ → ℤ → ℕ
wrapped b n z = pick (eqb b reflecting) (reflected n (wrap (2 * n) z)) (wrap n z)

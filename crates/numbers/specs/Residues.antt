-- Integers modulo n. Definitions only.
use Rattle.std.specs.Prelude.{ℕ, suc, ◌-◌, ◌%◌, ℤ, pos, negsuc}

-- z modulo n, for an n above 0: -1 is n - 1, -n is 0
unfoldable pub wrap : ℕ → ℤ → ℕ
wrap n (pos k) = k % n
wrap n (negsuc k) = n - suc (k % n)

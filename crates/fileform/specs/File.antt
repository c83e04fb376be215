-- The one file of a chain: a contents table, then bodies. Definitions only.
use Rattle.std.specs.Prelude.{ℕ, ◌+◌, ◌*◌, List, [], ◌∷◌, ◌++◌, Float}
use Rattle.lists.specs.Lists.{joined}
use Rattle.lists.specs.Slots.{offset}
use Rattle.lists.specs.Floats.{at}
use Rattle.shape.specs.declared.Shape.{Shape}
use Rattle.shape.specs.Shapes.{left_of, points_of, right_of, core_size, entries_of}
use Rattle.words.specs.Bytes.{u16, u32, f64}

-- ---- where things stand
-- entry k of the table
abbrev pub entry_start : ℕ → ℕ
entry_start k = 8 + 12 * k

-- the body of core k: behind the table, and behind the bodies of the cores before it
unfoldable pub body_start : Shape → ℕ → ℕ
body_start s k = 8 + 12 * s.d + 8 * offset (core_size s) k

unfoldable pub file_length : Shape → ℕ
file_length s = 8 + 12 * s.d + 8 * entries_of s

-- ---- what stands there
-- "TTC1"
abbrev pub mark : List ℕ
mark = 84 ∷ 84 ∷ 67 ∷ 49 ∷ []

-- 8 bytes: the mark, d, and zero
unfoldable pub header : ℕ → List ℕ
header d = mark ++ (u16 d ++ u16 0)

-- 12 bytes: r_left, n, r_right, zero, and the offset of the body
unfoldable pub table_entry : Shape → ℕ → List ℕ
table_entry s k = u16 (left_of s k) ++ (u16 (points_of s k) ++ (u16 (right_of s k) ++ (u16 0 ++ u32 (body_start s k))))

-- the header, d entries, and the chain's N numbers in order: no gaps, nothing after
unfoldable pub file_of : Shape → List Float → List ℕ
file_of s chain = header s.d ++ (joined s.d (table_entry s) ++ joined (entries_of s) (λ (i : ℕ). f64 (at chain i)))

-- Reading a chain file. The call is lent the file's bytes (position 0) and an output with room for at least N numbers (position 1).
-- A read beyond the end counts as 0, but none decides anything: a header, a table and bodies are looked into only behind
-- the check that they are there. Definitions only.
use Rattle.std.specs.Prelude.{ℕ, ◌+◌, List, leb, eqb, length, Float, Ok, Err}
use Rattle.answers.specs.declared.Refusal.TheVariants.{Axes, Size, Length, File}
use Rattle.answers.specs.Outcome.{bind, Answer, Check, ◌then◌, demand}
use Rattle.numbers.specs.Arithmetic.{zero64}
use Rattle.lists.specs.Lists.{tab}
use Rattle.lists.specs.Slots.{fit}
use Rattle.lists.specs.Walks.{turning}
use Rattle.shape.specs.declared.Shape.{Shape}
use Rattle.shape.specs.Limits.{most_axes, within}
use Rattle.shape.specs.Shapes.{left_of, points_of, right_of, size_ok, chain_ok, entries_of}
use Rattle.words.specs.Bytes.{u16_at, u32_at, numbers_from}
use Rattle.fileform.specs.File.{entry_start, body_start, file_length, mark}
use Rattle.fileform.specs.Calls.{Exit, numbers_ok}

-- ---- the header: it answers d
unfoldable pub read_header : List ℕ → Answer ℕ
read_header bytes =
    demand (leb 8 (length bytes)) (File (length bytes))
    then demand (eqb (u32_at bytes 0) (u32_at mark 0)) (File 0)
    then demand (eqb (u16_at bytes 6) 0) (File 6)
    then demand (within most_axes (u16_at bytes 4)) Axes
    then Ok (u16_at bytes 4)

-- ---- the table: it answers the shape
-- d cores of these sizes; the places of its arrays from d on are 0
unfoldable pub shape_with : ℕ → (ℕ → ℕ) → (ℕ → ℕ) → (ℕ → ℕ) → Shape
shape_with d left n right = record { d = d; left = fit 0 most_axes (tab d left); n = fit 0 most_axes (tab d n); right = fit 0 most_axes (tab d right) }

-- the shape as files keep it
unfoldable pub trimmed : Shape → Shape
trimmed s = shape_with s.d (left_of s) (points_of s) (right_of s)

-- the sizes that a table of d entries gives
unfoldable pub shape_in : List ℕ → ℕ → Shape
shape_in bytes d =
    shape_with d (λ (k : ℕ). u16_at bytes (entry_start k)) (λ (k : ℕ). u16_at bytes (entry_start k + 2)) (λ (k : ℕ). u16_at bytes (entry_start k + 4))

-- entry k: sizes, zero, offset
unfoldable pub entry_ok : List ℕ → Shape → ℕ → Check
entry_ok bytes s k =
    demand (size_ok s k) (Size k)
    then demand (eqb (u16_at bytes (entry_start k + 6)) 0) (File (entry_start k + 6))
    then demand (eqb (u32_at bytes (entry_start k + 8)) (body_start s k)) (File (entry_start k + 8))

-- entry by entry, then bonds: 1 and 2 are ruled out by then, so 3 is what `chain_ok` can still refuse (`bonds_only` of proofs/Shapes.antt)
unfoldable pub table_ok : List ℕ → Shape → Check
table_ok bytes s = turning s.d 0 (λ (k : ℕ) _. entry_ok bytes s k) tt then chain_ok s

-- the table is there, and what it says
unfoldable pub read_table : List ℕ → ℕ → Answer Shape
read_table bytes d =
    let s = shape_in bytes d in
    demand (leb (entry_start d) (length bytes)) (File (length bytes))
    then table_ok bytes s
    then Ok s

-- header and table: the contents, bodies aside
unfoldable pub read_contents : List ℕ → Answer Shape
read_contents bytes = bind (read_header bytes) (read_table bytes)

-- ---- the lengths
unfoldable pub lengths_ok : Shape → ℕ → ℕ → Check
lengths_ok s bytes room =
    demand (eqb bytes (file_length s)) (File bytes)
    then demand (leb (entries_of s) room) (Length 1)

-- ---- the numbers: behind the table
unfoldable pub numbers_in : List ℕ → Shape → List Float
numbers_in bytes s = numbers_from bytes (entry_start s.d) (entries_of s)

unfoldable pub read_numbers : List ℕ → Shape → Answer (List Float)
read_numbers bytes s = numbers_ok s (numbers_in bytes s) then Ok (numbers_in bytes s)

-- ---- all of it
pub record Chain : Type 0 where
  pub shape : Shape
  pub numbers : List Float

-- every check, and then the shape: all that is left is to make the numbers
unfoldable pub read_ok : List ℕ → ℕ → Answer Shape
read_ok bytes room =
    bind (read_contents bytes) (λ s.
    lengths_ok s (length bytes) room
    then numbers_ok s (numbers_in bytes s)
    then Ok s)

unfoldable pub reading : List ℕ → List Float → Answer Chain
reading bytes out =
    bind (read_contents bytes) (λ s.
    lengths_ok s (length bytes) (length out)
    then bind (read_numbers bytes s) (λ chain.
    Ok record { shape = s; numbers = chain }))

-- accepted: the shape, and the numbers at the front of the output, +0 in the rest; refused, the output is unwritten
unfoldable pub read_exit : List Float → Answer Chain → Exit (Answer Shape) Float
read_exit out (Ok c) = record { result = Ok c.shape; out = fit zero64 (length out) c.numbers }
read_exit out (Err r) = record { result = Err r; out = out }

-- THE CALL
unfoldable pub read_call : List ℕ → List Float → Exit (Answer Shape) Float
read_call bytes out = read_exit out (reading bytes out)

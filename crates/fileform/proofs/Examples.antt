-- Worked examples, by computation: the scope's file of 52 bytes, a chain of two cores, and each refusal. Assumes nothing.
use mathlib.Core.Path.{◌≡◌, refl}
use Prim.Native.Nat.{ℕ}
use mathlib.Core.List.{List, [], ◌∷◌, ◌++◌, map}
use lib.ListN.{replicate, take, set}
use lib.Ieee.{Float, nan, binary64, of_bits, to_bits}
use Rattle.answers.specs.declared.Refusal.TheVariants.{Axes, Size, Ranks, Length, Number, File}
use Rattle.std.specs.Prelude.{Ok, Err}
use Rattle.answers.specs.Outcome.{demand, demand_each, Answer, Check}
use Rattle.numbers.specs.Arithmetic.{zero64, one64}
use Rattle.lists.specs.Lists.{listed, flat}
use Rattle.lists.specs.Slots.{offset, slot, fit}
use Rattle.lists.specs.Walks.{turning}
use Rattle.lists.specs.Floats.{all_finite}
use Rattle.shape.specs.declared.Shape.{Shape}
use Rattle.shape.specs.Shapes.{shape_ok, size_ok, bond_ok, core_size}
use Rattle.words.specs.Bytes.{bytes_of, number_at, numbers_from}
use Rattle.fileform.specs.File.{file_of, header, table_entry, body_start, file_length}
use Rattle.fileform.specs.Calls.{Exit, numbers_ok}
use Rattle.fileform.specs.Writing.{write_call, write_exit, writing, write_ok, write_lent}
use Rattle.fileform.specs.Reading.{read_call, read_exit, reading, read_contents, read_header, read_table, table_ok, shape_with, shape_in, entry_ok, lengths_ok, numbers_in, read_numbers, trimmed}

-- ---- the two calls, with so much room lent
writes : Shape → List Float → ℕ → Exit Check ℕ
unfolding write_call write_exit writing write_ok write_lent shape_ok demand demand_each size_ok bond_ok core_size offset file_length body_start numbers_ok slot all_finite file_of header table_entry bytes_of to_bits of_bits listed flat
writes s chain room = write_call s chain (replicate room 7)

reads : List ℕ → ℕ → Exit (Answer Shape) Float
unfolding read_call read_exit reading read_contents read_header read_table table_ok shape_with shape_in entry_ok turning
    shape_ok demand demand_each size_ok bond_ok core_size offset file_length body_start lengths_ok
    read_numbers numbers_in numbers_from number_at of_bits numbers_ok slot all_finite listed fit
reads bytes room = read_call bytes (replicate room nan)

abbrev shaped : ℕ → List ℕ → List ℕ → List ℕ → Shape
shaped d left n right = record { d = d; left = left; n = n; right = right }

-- ---- a chain (1, 4, 1) holding 4, 8, 16, 0
abbrev one : Shape
one = shaped 1 (1 ∷ []) (4 ∷ []) (1 ∷ [])

abbrev numbers : List Float
numbers = of_bits binary64 0x4010_0000_0000_0000 ∷ of_bits binary64 0x4020_0000_0000_0000 ∷ of_bits binary64 0x4030_0000_0000_0000 ∷ zero64 ∷ []

abbrev file : List ℕ
file =
    84 ∷ 84 ∷ 67 ∷ 49 ∷ 1 ∷ 0 ∷ 0 ∷ 0
    ∷ 1 ∷ 0 ∷ 4 ∷ 0 ∷ 1 ∷ 0 ∷ 0 ∷ 0 ∷ 20 ∷ 0 ∷ 0 ∷ 0
    ∷ 0 ∷ 0 ∷ 0 ∷ 0 ∷ 0 ∷ 0 ∷ 0x10 ∷ 0x40
    ∷ 0 ∷ 0 ∷ 0 ∷ 0 ∷ 0 ∷ 0 ∷ 0x20 ∷ 0x40
    ∷ 0 ∷ 0 ∷ 0 ∷ 0 ∷ 0 ∷ 0 ∷ 0x30 ∷ 0x40
    ∷ 0 ∷ 0 ∷ 0 ∷ 0 ∷ 0 ∷ 0 ∷ 0 ∷ 0 ∷ []

written : writes one numbers 52 ≡ record { result = Ok tt; out = file }
unfolding writes
written = refl

back : reads file 5 ≡ record { result = Ok (trimmed one); out = numbers ++ (zero64 ∷ []) }
unfolding reads trimmed
back = refl

-- ---- two cores, (1, 2, 2) and (2, 1, 1): their bodies stand at 32 and 64
two : take 32 (writes (shaped 2 (1 ∷ 2 ∷ []) (2 ∷ 1 ∷ []) (2 ∷ 1 ∷ [])) (replicate 6 one64) 80).out
    ≡ 84 ∷ 84 ∷ 67 ∷ 49 ∷ 2 ∷ 0 ∷ 0 ∷ 0
    ∷ 1 ∷ 0 ∷ 2 ∷ 0 ∷ 2 ∷ 0 ∷ 0 ∷ 0 ∷ 32 ∷ 0 ∷ 0 ∷ 0
    ∷ 2 ∷ 0 ∷ 1 ∷ 0 ∷ 1 ∷ 0 ∷ 0 ∷ 0 ∷ 64 ∷ 0 ∷ 0 ∷ 0 ∷ []
unfolding writes
two = refl

-- ---- each refusal of reading, in the order of the checks: bytes with one fault, and the room
read_cases : List (List ℕ × ℕ)
read_cases =
    (take 7 file, 4)
    ∷ (set file 3 50, 4)
    ∷ (set file 6 1, 4)
    ∷ (set file 4 0, 4)
    ∷ (set file 4 17, 4)
    ∷ (take 19 file, 4)
    ∷ (set file 10 65, 4)
    ∷ (set file 14 1, 4)
    ∷ (set file 16 8, 4)
    ∷ (set file 8 2, 4)
    ∷ (take 51 file, 4)
    ∷ (file ++ (0 ∷ []), 4)
    ∷ (file, 3)
    ∷ (set (set file 26 0xf0) 27 0x7f, 4)
    ∷ []

read_refusals : map (λ (c : List ℕ × ℕ). (reads c.0 c.1).result) read_cases
    ≡ map Err (File 7 ∷ File 0 ∷ File 6 ∷ Axes ∷ Axes ∷ File 19 ∷ Size 0 ∷ File 14 ∷ File 16 ∷ Ranks 0 ∷ File 51 ∷ File 53 ∷ Length 1 ∷ Number 0 ∷ [])
unfolding reads read_cases
read_refusals = refl

-- bytes with one fault more each, at ever earlier checks, and room for three: the first check refuses
faults : List (List ℕ)
faults =
    let number = set (set file 26 0xf0) 27 0x7f in
    let long = number ++ (0 ∷ []) in
    let bond = set long 8 2 in
    let place = set bond 16 8 in
    let clear = set place 14 1 in
    let size = set clear 10 65 in
    let axes = set size 4 17 in
    let header = set axes 6 1 in
    number ∷ long ∷ bond ∷ place ∷ clear ∷ size ∷ axes ∷ header ∷ set header 0 0 ∷ []

first_refusals : map (λ (bytes : List ℕ). (reads bytes 3).result) faults
    ≡ map Err (Length 1 ∷ File 53 ∷ Ranks 0 ∷ File 16 ∷ File 14 ∷ Size 0 ∷ Axes ∷ File 6 ∷ File 0 ∷ [])
unfolding reads faults
first_refusals = refl

-- ---- each refusal of writing, with every later fault beside it
write_refusals : (writes (shaped 0 (1 ∷ []) (0 ∷ []) (2 ∷ [])) [] 51).result
    ∷ (writes (shaped 1 (1 ∷ []) (0 ∷ []) (2 ∷ [])) [] 51).result
    ∷ (writes (shaped 1 (1 ∷ []) (4 ∷ []) (2 ∷ [])) [] 51).result
    ∷ (writes one (nan ∷ []) 51).result
    ∷ (writes one (set numbers 2 nan) 51).result
    ∷ (writes one (set numbers 2 nan) 52).result
    ∷ []
    ≡ map Err (Axes ∷ Size 0 ∷ Ranks 0 ∷ Length 0 ∷ Length 1 ∷ Number 0 ∷ [])
unfolding writes
write_refusals = refl

-- Worked examples, by computation: the scope's listing, whole, and texts of a refusal and of a file that is too large. Assumes nothing.
use mathlib.Core.Path.{◌≡◌, refl}
use Prim.Native.Nat.{ℕ}
use mathlib.Core.List.{List, [], ◌∷◌}
use lib.ListN.{replicate}
use lib.Ieee.{of_bits}
use Rattle.answers.specs.Outcome.{demand, demand_each}
use Rattle.lists.specs.Lists.{pick, listed, flat}
use Rattle.lists.specs.Slots.{offset, slot, fit}
use Rattle.lists.specs.Walks.{turning}
use Rattle.lists.specs.Floats.{all_finite}
use Rattle.shape.specs.Shapes.{shape_ok, size_ok, bond_ok, core_size}
use Rattle.words.specs.Bytes.{number_at, numbers_from}
use Rattle.fileform.specs.File.{body_start, file_length}
use Rattle.fileform.specs.Calls.{numbers_ok}
use Rattle.fileform.specs.Reading.{read_call, read_exit, reading, read_contents, read_header, read_table, table_ok, shape_with, shape_in, entry_ok, lengths_ok, numbers_in, read_numbers}
use Rattle.fileform.specs.Text.{digits_in, digits_of, field, headline, axis_line, chain_text, refused_text, read_text, listing_of}

listed_as : List ℕ → List ℕ
unfolding listing_of read_text chain_text refused_text headline axis_line field digits_of digits_in pick listed flat read_call read_exit reading read_contents read_header
    read_table table_ok shape_with shape_in entry_ok turning shape_ok demand demand_each size_ok bond_ok core_size offset file_length body_start lengths_ok read_numbers
    numbers_in numbers_from number_at of_bits numbers_ok slot all_finite fit
listed_as bytes = listing_of bytes

-- (1, 4, 1) holding 4, 8, 16, 0: "axes 1 entries 4", then "0 1 4 1 20"
example : listed_as (
    84 ∷ 84 ∷ 67 ∷ 49 ∷ 1 ∷ 0 ∷ 0 ∷ 0
    ∷ 1 ∷ 0 ∷ 4 ∷ 0 ∷ 1 ∷ 0 ∷ 0 ∷ 0 ∷ 20 ∷ 0 ∷ 0 ∷ 0
    ∷ 0 ∷ 0 ∷ 0 ∷ 0 ∷ 0 ∷ 0 ∷ 0x10 ∷ 0x40
    ∷ 0 ∷ 0 ∷ 0 ∷ 0 ∷ 0 ∷ 0 ∷ 0x20 ∷ 0x40
    ∷ 0 ∷ 0 ∷ 0 ∷ 0 ∷ 0 ∷ 0 ∷ 0x30 ∷ 0x40
    ∷ 0 ∷ 0 ∷ 0 ∷ 0 ∷ 0 ∷ 0 ∷ 0 ∷ 0 ∷ [])
    ≡ 97 ∷ 120 ∷ 101 ∷ 115 ∷ 32 ∷ 49 ∷ 32 ∷ 101 ∷ 110 ∷ 116 ∷ 114 ∷ 105 ∷ 101 ∷ 115 ∷ 32 ∷ 52 ∷ 10
    ∷ 48 ∷ 32 ∷ 49 ∷ 32 ∷ 52 ∷ 32 ∷ 49 ∷ 32 ∷ 50 ∷ 48 ∷ 10 ∷ []
unfolding listed_as
example = refl

-- no bytes at all: "refused 11 at 0"
empty : listed_as [] ≡ 114 ∷ 101 ∷ 102 ∷ 117 ∷ 115 ∷ 101 ∷ 100 ∷ 32 ∷ 49 ∷ 49 ∷ 32 ∷ 97 ∷ 116 ∷ 32 ∷ 48 ∷ 10 ∷ []
unfolding listed_as
empty = refl

-- 8,393 bytes: "too large"; 8,392 zeros: "refused 11 at 0"
large : listed_as (replicate 8393 0) ≡ 116 ∷ 111 ∷ 111 ∷ 32 ∷ 108 ∷ 97 ∷ 114 ∷ 103 ∷ 101 ∷ 10 ∷ []
unfolding listed_as
large = refl

largest : listed_as (replicate 8392 0) ≡ listed_as []
unfolding listed_as
largest = refl

-- The text that `ttlist` prints, in ASCII. Definitions only.
use Rattle.std.specs.Prelude.{ℕ, zero, suc, ◌+◌, ◌/◌, ◌%◌, List, [], ◌∷◌, ◌++◌, ltb, length, Ok, Err}
use Rattle.answers.specs.declared.Refusal.{Refusal}
use Rattle.answers.specs.Outcome.{Answer}
use Rattle.answers.specs.Table.{number_of, place_of}
use Rattle.lists.specs.Lists.{pick, joined}
use Rattle.lists.specs.Floats.{zeros}
use Rattle.shape.specs.declared.Shape.{Shape}
use Rattle.shape.specs.Shapes.{left_of, points_of, right_of, entries_of}
use Rattle.fileform.specs.File.{body_start}
use Rattle.fileform.specs.Reading.{read_call}

-- ---- decimal digits, the highest first: as many as n needs, w at most
unfoldable pub digits_in : ℕ → ℕ → List ℕ
digits_in zero n = []
digits_in (suc w) n = pick (ltb n 10) ((48 + n) ∷ []) (digits_in w (n / 10) ++ ((48 + n % 10) ∷ []))

-- no number in memory needs more than 20
unfoldable pub digits_of : ℕ → List ℕ
digits_of n = digits_in 20 n

-- a number and the byte behind it
unfoldable pub field : ℕ → ℕ → List ℕ
field n after = digits_of n ++ (after ∷ [])

abbrev pub space : ℕ
space = 32

abbrev pub newline : ℕ
newline = 10

-- ---- a chain
-- "axes D entries N"
unfoldable pub headline : Shape → List ℕ
headline s = (97 ∷ 120 ∷ 101 ∷ 115 ∷ 32 ∷ []) ++ (digits_of s.d ++ ((32 ∷ 101 ∷ 110 ∷ 116 ∷ 114 ∷ 105 ∷ 101 ∷ 115 ∷ 32 ∷ []) ++ field (entries_of s) newline))

-- axis, r_left, n, r_right, body offset
unfoldable pub axis_line : Shape → ℕ → List ℕ
axis_line s k = field k space ++ (field (left_of s k) space ++ (field (points_of s k) space ++ (field (right_of s k) space ++ field (body_start s k) newline)))

unfoldable pub chain_text : Shape → List ℕ
chain_text s = headline s ++ joined s.d (axis_line s)

-- ---- a refusal: "refused N at P"
unfoldable pub refused_text : Refusal → List ℕ
refused_text r = (114 ∷ 101 ∷ 102 ∷ 117 ∷ 115 ∷ 101 ∷ 100 ∷ 32 ∷ []) ++ (digits_of (number_of r) ++ ((32 ∷ 97 ∷ 116 ∷ 32 ∷ []) ++ field (place_of r) newline))

-- ---- a file: "too large" above so many bytes, else what reading it answers, with room for so many numbers
abbrev pub most_bytes : ℕ
most_bytes = 8392

abbrev pub room_for : ℕ
room_for = 1049

abbrev pub too_large : List ℕ
too_large = 116 ∷ 111 ∷ 111 ∷ 32 ∷ 108 ∷ 97 ∷ 114 ∷ 103 ∷ 101 ∷ 10 ∷ []

unfoldable pub read_text : Answer Shape → List ℕ
read_text (Ok s) = chain_text s
read_text (Err r) = refused_text r

unfoldable pub listing_of : List ℕ → List ℕ
listing_of bytes = pick (ltb most_bytes (length bytes)) too_large (read_text (read_call bytes (zeros room_for)).result)

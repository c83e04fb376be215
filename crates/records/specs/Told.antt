-- What a call answers as C has it, field by field. Definitions only.
use Rattle.std.specs.Prelude.{List, ℕ, true, false, map, replicate, Float, Option, Some, None, Ok, Err}
use Rattle.numbers.specs.Arithmetic.{zero64}
use Rattle.answers.specs.Outcome.{Answer, Check}
use Rattle.answers.specs.Table.{number_of, place_of, index_of}
use Rattle.shape.specs.declared.Shape.{Shape}
use Rattle.shape.specs.Limits.{most_axes}
use Rattle.cutform.specs.declared.Bond.{Bond}
use Rattle.cutform.specs.declared.Rounded.{Rounded}
use Rattle.pairform.specs.declared.Paired.{Paired}
use Rattle.records.specs.declared.given.CShape.{CShape}
use Rattle.records.specs.declared.told.CRefusal.{CRefusal}
use Rattle.records.specs.declared.told.CBond.{CBond}
use Rattle.records.specs.declared.told.CRounded.{CRounded}
use Rattle.records.specs.declared.told.CFigure.{CFigure}
use Rattle.records.specs.declared.told.CFormed.{CFormed}
use Rattle.records.specs.declared.told.CPaired.{CPaired}
use Rattle.records.specs.declared.told.CSeen.{CSeen}

-- number, place and index of the table; number 0 is no refusal
abbrev pub refusal_of : Check → CRefusal
refusal_of (Ok _) = record { number = 0; place = 0; index = 0 }
refusal_of (Err q) = record { number = number_of q; place = place_of q; index = index_of q }

abbrev pub shape_out : Shape → CShape
shape_out s = record { d = s.d; left = s.left; n = s.n; right = s.right }

abbrev pub bond_out : Bond → CBond
bond_out b = record { rank = b.rank; sweeps = b.sweeps; settled = b.settled; dropped = b.dropped }

abbrev pub rounded_out : Rounded → CRounded
rounded_out w = record { refusal = refusal_of w.verdict; shape = shape_out w.shape; bonds = map bond_out w.bonds }

-- +0 where it is refused
abbrev pub figure_out : Answer Float → CFigure
figure_out (Ok x) = record { refusal = refusal_of (Ok tt); value = x }
figure_out (Err q) = record { refusal = refusal_of (Err q); value = zero64 }

-- the shape that was given where it is refused
abbrev pub started_out : Shape → Answer Shape → CFormed
started_out s (Ok t) = record { refusal = refusal_of (Ok tt); shape = shape_out t }
started_out s (Err q) = record { refusal = refusal_of (Err q); shape = shape_out s }

-- of a file that is refused, the shape is all zeros
abbrev pub read_out : Answer Shape → CFormed
read_out (Ok s) = record { refusal = refusal_of (Ok tt); shape = shape_out s }
read_out (Err q) =
    let none : List ℕ = replicate most_axes 0 in
    record { refusal = refusal_of (Err q); shape = record { d = 0; left = none; n = none; right = none } }

-- rank and passes are 0 after a refusal
abbrev pub paired_out : Answer Paired → CPaired
paired_out (Ok w) = record { refusal = refusal_of (Ok tt); rank = w.rank; passes = w.passes }
paired_out (Err q) = record { refusal = refusal_of (Err q); rank = 0; passes = 0 }

-- +0 outside
abbrev pub seen_out : Option Float → CSeen
seen_out (Some x) = record { inside = true; value = x }
seen_out None = record { inside = false; value = zero64 }

-- Writing a chain file. The call is lent the chain (position 0) and an output of exactly the file's length (position 1). Definitions only.
use Rattle.std.specs.Prelude.{ℕ, List, eqb, length, Float, Ok, Err}
use Rattle.answers.specs.declared.Refusal.TheVariants.{Length}
use Rattle.answers.specs.Outcome.{Answer, Check, ◌then◌, demand}
use Rattle.shape.specs.declared.Shape.{Shape}
use Rattle.shape.specs.Shapes.{chain_ok, entries_of}
use Rattle.fileform.specs.File.{file_length, file_of}
use Rattle.fileform.specs.Calls.{Exit, numbers_ok}

-- the two lengths: refusal 5
unfoldable pub write_lent : Shape → ℕ → ℕ → Check
write_lent s chain out = demand (eqb chain (entries_of s)) (Length 0) then demand (eqb out (file_length s)) (Length 1)

-- refusals 1 to 3, 5 and 6 in the table's order
unfoldable pub write_ok : Shape → List Float → ℕ → Check
write_ok s chain out = chain_ok s then write_lent s (length chain) out then numbers_ok s chain

-- then the file
unfoldable pub writing : Shape → List Float → List ℕ → Answer (List ℕ)
writing s chain out = write_ok s chain (length out) then Ok (file_of s chain)

-- refused, the output is unwritten
unfoldable pub write_exit : List ℕ → Answer (List ℕ) → Exit Check ℕ
write_exit out (Ok file) = record { result = Ok tt; out = file }
write_exit out (Err r) = record { result = Err r; out = out }

-- THE CALL
unfoldable pub write_call : Shape → List Float → List ℕ → Exit Check ℕ
write_call s chain out = write_exit out (writing s chain out)

-- `comparing::same_number`: two numbers are the same where their patterns are (bits_tell).
use denote.Floats.{passes}
use Rattle.comparing.proofs.Equal.{bits_tell}
use Rattle.comparing.proofs.same_number.Goals as goal

pub returns : goal.returns
returns c = bits_tell _ _ _ _ (passes _ c.well_formed.0.1) (passes _ c.well_formed.1.0.1) c.pattern.ensures c.pattern-2.ensures

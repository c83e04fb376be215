-- `listing::put_field`: the digits and the character behind them are the field (field_put).
use native.Mathlib.Omega.{arith}
use Rattle.listing.proofs.Grows.{field_put}
use Rattle.listing.proofs.put_field.Goals as goal

pub returns : goal.returns
returns c = field_put _ _ (omega (arith, c.requires))
    c.put_digits-end.ensures c.put_word.ensures

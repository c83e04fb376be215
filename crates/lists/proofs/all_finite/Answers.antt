-- `lists::all_finite`: the numbers that are settled are finite, so those behind them decide (flag_from).
use Rattle.std.proofs.Common.{◌≡◌, ◌-◌, length, take, drop, length-drop, sym, ap, ◌∙◌, arith}
use lib.Seq.{take_all}
use Rattle.lists.specs.Floats.{all_finite}
use Rattle.lists.proofs.Eighths.{flag_from}
use Rattle.lists.proofs.all_finite.Goals as goal

pub returns : goal.returns
returns c =
    let s = c.args.s.now in
    let r = c.settled.result in
    let whole : take (length s - r) (drop r s) ≡ drop r s = take_all _ _ (omega (arith, length-drop r s)) in
    c.each_finite.ensures ∙ ap all_finite whole ∙ sym (flag_from s r c.settled.ensures.0 c.settled.ensures.1)

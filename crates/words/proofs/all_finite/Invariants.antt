-- `words::all_finite`: the invariant: the flag says whether the first i numbers read are finite (Flag).
use Rattle.lists.proofs.Seen.{Flag}
use Rattle.words.specs.Bytes.{numbers_from}
use Rattle.words.proofs.all_finite.Given as goal

abbrev pub invariant-loop-i : goal.invariant-loop-i
invariant-loop-i l = Flag (numbers_from l.bytes l.p l.m) l.i l.all

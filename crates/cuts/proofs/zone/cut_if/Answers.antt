-- `cuts::zone::cut_if`: by whether there is a bond to the right: the cut (if_cut), or the core as it is and no carry (if_last).
use borrow.Author.Rules.{rules}
use mathlib.Core.Path.{◌≡◌, refl, ap}
use mathlib.Core.Bool.{true, false}
use Rattle.answers.specs.Outcome.{outcome_of}
use Rattle.cutform.specs.declared.Bond.{Bond}
use Rattle.cuts.proofs.Zoned.{if_cut, if_last}
use Rattle.cuts.proofs.zone.cut_if.Goals as goal

pub cut_in-requires : goal.cut_in-requires
cut_in-requires c = let h : c.args.more ≡ true = search rules in (c.requires.0, c.requires.1, c.requires.2, c.requires.3, c.requires.4, c.requires.5, c.requires.6 h)

pub returns-then-more : goal.returns-then-more
returns-then-more c = let h : c.args.more ≡ true = search rules in if_cut _ _ _ _ _ _ h _ _ _ _ c.cut_in.ensures

pub returns : goal.returns
unfolding outcome_of
returns c =
    let h : c.args.more ≡ false = search rules in
    if_last _ _ _ _ _ _ h _ _ _ (ap (λ (b : Bond). b.rank) c.last_in.ensures.0) c.last_in.ensures.1 refl (c.requires.7 h)

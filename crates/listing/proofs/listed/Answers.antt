-- `listing::listed`: what text_of put at the front, by its length, is the text (text_counts, text_front).
use mathlib.Core.Path.{◌∙◌}
use Rattle.listing.proofs.Grows.{text_counts, text_front}
use Rattle.listing.proofs.listed.Goals as goal

pub slice_bounds-text-end : goal.slice_bounds-text-end
slice_bounds-text-end c = (text_counts _ _ _ _ c.text_of-n.ensures).0

pub slice_bounds-try_from-end : goal.slice_bounds-try_from-end
slice_bounds-try_from-end c = (text_counts _ _ _ _ c.text_of-n.ensures).1

pub returns : goal.returns
returns c = (rw c.unwrap.ensures at c.try_from.ensures).0 ∙ text_front _ _ _ _ c.text_of-n.ensures

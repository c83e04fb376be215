-- `listing::put_headline`: the words and fields, one behind the other, are the headline (headline_put).
use borrow.Author.Rules.{rules}
use Rattle.listing.proofs.Grows.{headline_put}
use Rattle.listing.proofs.put_headline.Goals as goal

ruleset ways = (rules, headline_put)

pub returns : goal.returns
returns c = search ways

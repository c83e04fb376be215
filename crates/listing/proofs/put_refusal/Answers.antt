-- `listing::put_refusal`: the words and fields, one behind the other, are the refusal's text (refusal_put).
use borrow.Author.Rules.{rules}
use Rattle.listing.proofs.Grows.{refusal_put}
use Rattle.listing.proofs.put_refusal.Goals as goal

ruleset ways = (rules, refusal_put)

pub returns : goal.returns
returns c = search ways

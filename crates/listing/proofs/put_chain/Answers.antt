-- `listing::put_chain`: the headline and the axes' lines, one behind the other, are the chain's text (chain_put).
use borrow.Author.Rules.{rules}
use Rattle.listing.proofs.Grows.{chain_put}
use Rattle.listing.proofs.put_chain.Goals as goal

ruleset ways = (rules, chain_put)

pub returns : goal.returns
returns c = search ways

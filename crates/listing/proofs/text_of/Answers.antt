-- `listing::text_of`: a file that is too large is named so (large_listed), and of any other the text of what reading answers is put down (chain_listed, refused_listed).
use Rattle.listing.proofs.Grows.{large_listed, refused_listed, chain_listed}
use Rattle.listing.proofs.text_of.Goals as goal

pub returns-then-bytes-gt-MOST_BYTES : goal.returns-then-bytes-gt-MOST_BYTES
returns-then-bytes-gt-MOST_BYTES c = large_listed _ _ _ _ c.if-bytes-gt-MOST_BYTES.true c.put_word.ensures

pub returns-in-Ok : goal.returns-in-Ok
returns-in-Ok c = chain_listed _ _ _ _ c.if-bytes-gt-MOST_BYTES.false _ c.read_chain.ensures.0 _ c.in-Ok.is c.put_chain.ensures

pub returns-in-Err : goal.returns-in-Err
returns-in-Err c = refused_listed _ _ _ _ c.if-bytes-gt-MOST_BYTES.false _ c.read_chain.ensures.0 _ c.in-Err.is c.put_refusal.ensures

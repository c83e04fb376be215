-- `chainfile::read_chain`: a file that is refused leaves the list as it was (call_refused), and one that passed gives its numbers (call_reads).
use Rattle.std.proofs.lemmas.Result.{err_from_is_err_and}
use Rattle.chainfile.proofs.Accepts.{call_refused, call_asks, call_reads}
use Rattle.chainfile.proofs.read_chain.Goals as goal

pub returns-in_err-s : goal.returns-in_err-s
returns-in_err-s c = let p = err_from_is_err_and c.from_residual.result c.from_residual.ensures.1 in rw (p.1, p.2) (call_refused _ _ _ c.read_ok.ensures _ c.in_err-s.was)

pub take_numbers-requires : goal.take_numbers-requires
take_numbers-requires c = let q = call_asks _ c.args.out.now _ c.read_ok.ensures _ c.in_ok-s.was in record { sizes_within = q.0; bytes_len = q.1 }

pub returns : goal.returns
returns c = call_reads _ _ _ c.read_ok.ensures _ c.in_ok-s.was _ c.take_numbers.ensures

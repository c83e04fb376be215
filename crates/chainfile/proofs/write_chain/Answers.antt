-- `chainfile::write_chain`: a refusal leaves the bytes as they were (write_stops), and otherwise the file is made (write_made).
use Rattle.std.proofs.lemmas.Result.{err_from_is_err_and}
use Rattle.chainfile.proofs.Makes.{write_stops, write_asks, write_made}
use Rattle.chainfile.proofs.write_chain.Goals as goal

pub returns-in_err-write_ok : goal.returns-in_err-write_ok
returns-in_err-write_ok c = let p = err_from_is_err_and c.from_residual.result c.from_residual.ensures.1 in rw (p.1, p.2) (write_stops _ _ c.args.out.now _ c.write_ok.ensures _ c.in_err-write_ok.was)

pub put_file-requires : goal.put_file-requires
put_file-requires c = let q = write_asks _ _ c.args.out.now _ c.write_ok.ensures c.in_ok-write_ok.was in record { sizes_within = q.0; chain_len = q.1 }

pub returns : goal.returns
returns c = write_made _ _ c.args.out.now _ c.write_ok.ensures c.in_ok-write_ok.was _ c.put_file.ensures

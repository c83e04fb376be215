-- `chainfile::making::put_file`: header, table and bodies are placed one behind the other, and together are the file (file_made).
use Rattle.chainfile.proofs.Makes.{header_room, table_room, bodies_room, file_made}
use Rattle.chainfile.proofs.making.put_file.Goals as goal

pub put-requires : goal.put-requires
put-requires c = header_room c.args.s c.args.chain.now c.args.out.now c.requires.chain_len.1 _
    c.header_bytes.ensures

pub put_table-requires : goal.put_table-requires
put_table-requires c = record {
  sizes_within = c.requires.sizes_within;
  d_in_bounds = table_room _ c.args.chain.now c.args.out.now c.requires.chain_len.1 _ _
      c.header_bytes.ensures c.put.ensures;
}

pub put_numbers-requires : goal.put_numbers-requires
put_numbers-requires c = bodies_room _ _ _ c.requires.chain_len.1 _ _ c.header_bytes.ensures
    c.put.ensures _ c.put_table.ensures
    c.requires.chain_len.0 c.requires.chain_len.2

pub returns : goal.returns
returns c = file_made _ _ _ c.requires.chain_len.1 _ _
    c.header_bytes.ensures
    c.put.ensures _
    c.put_table.ensures c.requires.chain_len.0 _ c.put_numbers.ensures

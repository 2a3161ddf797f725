use Rattle.el_files.proofs.Heading.{node_made}
use Rattle.el_files.proofs.heads.node_of.Goals as goal

pub returns-clause-is : goal.returns-clause-is
returns-clause-is c =
    node_made c.block_hash.result c.decode_header.result c.args.place.file c.args.place.offset c.args.place.len c.args.header.now
    c.block_hash.ensures c.decode_header.ensures.encoded c.decode_header.ensures.reads

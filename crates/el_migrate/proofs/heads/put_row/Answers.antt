use Rattle.std.proofs.Common.{rules}
use Rattle.el_migrate.proofs.HeadLists.{link_there, heads_put}
use Rattle.el_migrate.proofs.heads.put_row.Goals as goal

pub returns-clause-link : goal.returns-clause-link
returns-clause-link c hashes are n =
    link_there c.args.links.now hashes c.args.hash.now are c.requires.some c.bucket_of-bucket.result (search rules) (search rules) c.link_of.result (search rules)

pub returns-clause-heads : goal.returns-clause-heads
returns-clause-heads c hashes are n =
    heads_put c.args.links.now hashes c.args.hash.now are c.requires.some c.bucket_of-bucket.result (search rules) (search rules) c.args.n n

use Rattle.std.proofs.Common.{arith}
use Rattle.el_row_formats.proofs.Keys.{few_rows}
use Rattle.el_page_cache.proofs.cache.PageCache.find.Goals as goal

pub key_of-requires : goal.key_of-requires
key_of-requires c = omega (arith, c.requires.limit, few_rows c.args.t)

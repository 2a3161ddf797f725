use Rattle.el_row_formats.specs.Tables.{tables_listed}
use Rattle.el_vec_rows.proofs.FirstRows.{few_heads, heads_limited, first_is}
use Rattle.el_vec_rows.proofs.vec_rows.MemRows.first.Goals as goal

pub resize-requires : goal.resize-requires
resize-requires c t = heads_limited c.bucket_count-heads.result (few_heads c.args.bits c.bucket_count-heads.result c.requires c.bucket_count-heads.ensures) t

pub returns : goal.returns
returns c t =
    first_is c.args.bits c.bucket_count-heads.result c.bucket_count-heads.ensures (tables_listed c.resize.new.self) (tables_listed c.clear_heads.new.rows) (tables_listed c.clear_heads-2.new.rows) c.in_ok-resize.ensures.ok.long
    c.clear_heads.ensures.here c.clear_heads.ensures.others c.clear_heads-2.ensures.here c.clear_heads-2.ensures.others t

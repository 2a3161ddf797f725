use Rattle.std.proofs.Common.{refl, ap, arith}
use Rattle.el_rows.specs.Changes.{count_at}
use Rattle.el_redo.specs.RedoBody.{head_bytes}
use Rattle.el_pages.specs.Stores.{beside_in, lists_in}
use Rattle.el_pages.proofs.StoreLemmas.{kept_read, kept_rows}
use Rattle.el_pages.proofs.store.PagesRows.row.Goals as goal

pub cached_row-requires : goal.cached_row-requires
cached_row-requires g c = record { limit = omega (arith, c.requires.below, c.args.self.now.limited c.args.t); sized = c.requires.sized }

pub returns-clause-row : goal.returns-clause-row
returns-clause-row g c told =
    let store = c.args.self.now in
    let kept = c.requires.live told in
    c.cached_row.ensures.row told (lists_in g.D.Disk store.told.value store.counts) (count_at store.counts)
    (kept_rows g.D.Disk (head_bytes g.N.NetworkMagic.magic store.bits) store.told.value store.counts store.cache store.disk kept) kept.agrees c.requires.below

pub returns-clause-reads : goal.returns-clause-reads
returns-clause-reads g c =
    let store = c.args.self.now in
    record {
      same = refl;
      count = refl;
      as_many = refl;
      live = λ told. let kept = c.requires.live told in
          kept_read g.D.Disk (head_bytes g.N.NetworkMagic.magic store.bits) store.told.value store.counts store.cache store.disk c.cached_row.new.disk (c.cached_row.ensures.seen told) (c.cached_row.ensures.left told) c.cached_row.new.cache
          (c.cached_row.ensures.agrees told (lists_in g.D.Disk store.told.value store.counts) (count_at store.counts)
          (kept_rows g.D.Disk (head_bytes g.N.NetworkMagic.magic store.bits) store.told.value store.counts store.cache store.disk kept) kept.agrees) kept;
      below = record {
        crash = λ told. let run = c.cached_row.ensures.no_more told in record { later = run.later; before = λ t i le left. (left.0, run.before t i le left.1) };
        files = λ told. ap beside_in (c.cached_row.ensures.seen told);
      };
    }

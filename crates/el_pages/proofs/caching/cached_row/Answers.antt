use Rattle.el_pages.proofs.caching.cached_row.Goals as goal

pub returns-then-read-clause-agrees : goal.returns-then-read-clause-agrees
returns-then-read-clause-agrees g c told lists counts have agrees = c.read.ensures.agrees lists counts agrees

pub returns-in-Some-clause-agrees : goal.returns-in-Some-clause-agrees
returns-in-Some-clause-agrees g c told lists counts have agrees = c.keep_row.ensures.agrees told lists counts have (c.take_page.ensures.agrees lists counts (c.read.ensures.agrees lists counts agrees))

pub returns-in-None-clause-agrees : goal.returns-in-None-clause-agrees
returns-in-None-clause-agrees g c told lists counts have agrees = c.take_page.ensures.agrees lists counts (c.read.ensures.agrees lists counts agrees)

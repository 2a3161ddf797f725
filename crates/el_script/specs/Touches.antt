-- When a script can't be touched.
use Rattle.std.specs.Prelude.{ℕ, Option, length}
use Rattle.std.specs.Option.{option_or}
use Rattle.el_base.specs.declared.hash.Hash32.{Hash32}
use Rattle.el_chain.specs.Faults.{full}
use Rattle.el_chain.specs.declared.fault.ConnectFault.{ConnectFault}
use Rattle.el_tables.specs.Lists.{Lists, add_entry}

-- the first table, by its number, that would need more rows than a table may have: 6 of scripts, 8 of entries
abbrev pub touch_full : Hash32 → ℕ → Lists → Option ConnectFault
touch_full s tx l =
    option_or (full 6 (length (add_entry s tx l).scripts)) (full 8 (length (add_entry s tx l).entries))

-- The script that a hash names, with its row.
use Rattle.std.specs.Prelude.{◌<◌, length, Option, option_map}
use Rattle.el_base.specs.declared.hash.Hash32.{Hash32}
use Rattle.el_tables.specs.Lists.{Lists}
use Rattle.el_tables.specs.Tables.{HeadCounts, script_row}
use Rattle.el_buckets.specs.Buckets.{newest_of}
use Rattle.el_schema.specs.Rows.{script_fields}
use Rattle.el_script.specs.declared.lookup.FoundScript.{FoundScript}

-- where there is a script, there are heads
abbrev pub HasHeads : HeadCounts → Lists → Type 0
HasHeads counts l = 0 < length l.scripts → 0 < counts.scripts

-- the newest script with the hash, with its row
abbrev pub script_in : Hash32 → HeadCounts → Lists → Option FoundScript
script_in s counts l =
    option_map (λ n. record { number = n; row = script_fields (script_row counts.scripts l n s) })
    (newest_of s l.scripts)

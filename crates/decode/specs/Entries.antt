-- The table of calls, read for seven numbers. Assumes nothing.
use Rattle.std.specs.Prelude.{Option}
use Rattle.std.specs.Option.{option_map}
use Rattle.rules.specs.declared.Seven.{Seven}
use Rattle.rules.specs.Call as Table
use Rattle.decode.specs.declared.Entry.{Entry}

-- the kinds of the four fields, and the call with its fields named; none where no call has the number
abbrev pub entry_of : Seven → Option Entry
entry_of s = option_map (λ c. record { form = (Table.entry_of s.call).form; call = c }) (Table.named s)

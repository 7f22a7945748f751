-- A text of calls, line by line (01, "The journal"). Assumes nothing.
use Rattle.std.specs.Prelude.{ℕ, List}
use Rattle.columns.specs.LinesIn.{lines_in}
use Rattle.rules.specs.declared.Seven.{Seven}
use Rattle.calls.specs.CallLine.{line_in}

-- the calls on the lines of a text, at most n: "it stops before a malformed call line"; a last line cut short is one
abbrev pub calls_in : ℕ → List ℕ → List Seven
calls_in n text = lines_in line_in 43 n text

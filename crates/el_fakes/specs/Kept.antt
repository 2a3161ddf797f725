-- What a link in memory keeps of its trace.
use Rattle.el_outside.specs.Trace.{Message, Closing}
use Rattle.el_fakes.specs.declared.kept.Sent.{Sent}
use Rattle.el_fakes.specs.declared.kept.Closed.{Closed}

-- a text that was sent, as the trace has it
abbrev pub trace_message : Sent → Message
trace_message s = record { peer = s.peer; text = s.text }

-- a peer that was closed and why, as the trace has it
abbrev pub trace_closing : Closed → Closing
trace_closing c = record { peer = c.peer; why = c.why }

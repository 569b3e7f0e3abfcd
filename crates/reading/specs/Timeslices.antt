-- Document 01's timeslice query as a query of any kind.
-- Assumes nothing.
use Rattle.grid.specs.declared.Query.{Query}
use Rattle.grid.specs.declared.When.TheVariants.{At}
use Rattle.reading.specs.declared.timeslices.Timeslice.{Timeslice}

abbrev pub query_of : Timeslice → Query
query_of s = record { rect = s.rect; when = At s.time }

-- What a report shows.
use Rattle.std.specs.Prelude.{ℕ, List, ◌++◌, codes, decimal}
use Rattle.sour_syntax.specs.Program.{ProgramView}
use Rattle.sour_syntax.specs.Trap.{trap_number}
use Rattle.sour_semantics.specs.Block.{BlockEnd, finished, trap, cut, memory, block}
use Rattle.sour_semantics.specs.Text.{text_with_cells}
use Rattle.sour_machine.specs.declared.report.End.{End}
use Rattle.sour_machine.specs.declared.report.End.TheVariants.{Returned, Stopped, Trapped, Cut, Memory}
use Rattle.sour_machine.specs.declared.report.Report.{Report}

-- the last line of the block, without its line feed, where the array that was returned, if one was, has so many cells
abbrev pub end_line : ProgramView → ℕ → End → List ℕ
end_line program cells (Returned value) = codes "end " ++ text_with_cells program cells value
end_line program cells Stopped = codes "stopped"
end_line program cells (Trapped why) = codes "trap " ++ decimal (trap_number why)
end_line program cells Cut = codes "cut"
end_line program cells Memory = codes "memory"

-- how the block ends
abbrev pub end_kind : End → BlockEnd
end_kind (Returned value) = finished
end_kind Stopped = finished
end_kind (Trapped why) = trap
end_kind Cut = cut
end_kind Memory = memory

-- the block of a report
abbrev pub report_block : ProgramView → Report → List ℕ
report_block program report = block report.input report.output (end_line program report.cells report.end)

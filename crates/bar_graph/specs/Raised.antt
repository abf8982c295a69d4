-- A bar as its own rows show it, moved up to row 0.
-- What contracts of private functions cite, and no rule.
-- Assumes nothing.
use Rattle.std.specs.Prelude.{◌-◌}
use Rattle.bar_graph.specs.declared.Bar.{Bar}

abbrev pub raised_of : Bar → Bar
raised_of b = record { kind = b.kind; x1 = b.x1; y1 = 0; x2 = b.x2; y2 = b.y2 - b.y1; value = b.value }

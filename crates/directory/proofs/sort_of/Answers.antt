use Rattle.directory.proofs.RecordKinds.{sort_font, sort_bitmap, sort_none}
use Rattle.directory.proofs.sort_of.Goals as goal

pub returns-in-1 : goal.returns-in-1
returns-in-1 c = sort_font _ c.in-1.is

pub returns-in-2 : goal.returns-in-2
returns-in-2 c = sort_bitmap _ c.in-2.is

pub returns-in_default : goal.returns-in_default
returns-in_default c = sort_none _ c.in_default.in_default-own.rest.0.1 c.in_default.in_default-own.rest.1

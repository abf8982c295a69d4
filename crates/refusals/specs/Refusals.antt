-- The numbers of the refusals: why a command or a character was not obeyed. Each stands here and nowhere else.
-- Assumes nothing.
use Rattle.std.specs.Prelude.{◌≡◌, ℕ, ◌≤◌}
use Rattle.refusals.specs.declared.Refusal.{Refusal}
use Rattle.refusals.specs.declared.Refusal.TheVariants.{UnknownCommand, OutOfBounds, CornersOutOfOrder, NumberOutOfRange, UnknownType, NotSetUp, NoSuchFile, MalformedFile, NoSpace, NumberInUse, UploadAborted, BadWatermarks, GlyphDoesNotFit}

-- unknown code
abbrev pub unknown_command : ℕ
unknown_command = 16

-- off the glass
abbrev pub out_of_bounds : ℕ
out_of_bounds = 17

abbrev pub corners_out_of_order : ℕ
corners_out_of_order = 18

abbrev pub number_out_of_range : ℕ
number_out_of_range = 19

-- unknown type, or purge bytes
abbrev pub unknown_type : ℕ
unknown_type = 20

-- a bar or a strip
abbrev pub not_set_up : ℕ
not_set_up = 21

abbrev pub no_such_file : ℕ
no_such_file = 22

abbrev pub malformed_file : ℕ
malformed_file = 23

-- size 0, more than 255 bytes of records, or more than the file area has unused
abbrev pub no_space : ℕ
no_space = 24

abbrev pub number_in_use : ℕ
number_in_use = 25

-- upload broken off
abbrev pub upload_aborted : ℕ
upload_aborted = 26

-- flow thresholds that sum to 80 or more
abbrev pub bad_watermarks : ℕ
bad_watermarks = 27

-- character outside the font: no longer given, since it shows as a box
abbrev pub no_glyph : ℕ
no_glyph = 28

-- no room for the character
abbrev pub glyph_does_not_fit : ℕ
glyph_does_not_fit = 29

-- the numbers that a refusal can have: 16 to 29, but for 28
abbrev pub Given : ℕ → Type 0
Given n = (unknown_command ≤ n) × (n ≤ glyph_does_not_fit) × (n ≡ no_glyph → ⊥)

-- an answer that is no refusal
abbrev pub accepted : ℕ
accepted = 0

-- a refusal's number
abbrev pub number_of : Refusal → ℕ
number_of UnknownCommand = unknown_command
number_of OutOfBounds = out_of_bounds
number_of CornersOutOfOrder = corners_out_of_order
number_of NumberOutOfRange = number_out_of_range
number_of UnknownType = unknown_type
number_of NotSetUp = not_set_up
number_of NoSuchFile = no_such_file
number_of MalformedFile = malformed_file
number_of NoSpace = no_space
number_of NumberInUse = number_in_use
number_of UploadAborted = upload_aborted
number_of BadWatermarks = bad_watermarks
number_of GlyphDoesNotFit = glyph_does_not_fit

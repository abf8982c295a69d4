-- A command that stands whole at the front of the bytes that are left.
-- No rule: obeyed at once it comes to what the rules say of its bytes one by one (proofs, One).
-- Assumes nothing.
use Rattle.std.specs.Prelude.{List, Bool, true, false, cond, not, ◌&&◌, ℕ, ◌+◌, eqb, leb, length, get_or, take, drop}
use Rattle.std.proofs.lemmas.List.Edits.{sets}
use Rattle.state.specs.declared.Command.{Command}
use Rattle.state.specs.declared.Phase.{Phase}
use Rattle.state.specs.declared.Phase.TheVariants.{Idle, Prefix, Gathering, Inline, Upload}
use Rattle.state.specs.State.{no_args}
use Rattle.state.specs.Commands.{command_of, arguments_of}

-- outside a command
abbrev pub is_idle : Phase → Bool
is_idle Idle = true
is_idle Prefix = false
is_idle (Gathering code got) = false
is_idle (Inline x1 y1 x2 y2 came) = false
is_idle (Upload sort number size stored waiting held waited) = false

-- by the code behind the prefix
abbrev pub command_in : List ℕ → Command
command_in l = command_of (get_or l 1 0)

-- six, with zeros behind those that there are in edition e
abbrev pub fixed_arguments : ℕ → List ℕ → List ℕ
fixed_arguments e l = sets no_args 0 (take (arguments_of e (command_in l)) (drop 2 l))

-- prefix, code, arguments
abbrev pub length_in : ℕ → List ℕ → ℕ
length_in e l = 2 + arguments_of e (command_in l)

-- the number of a saved bitmap may end its command, so that this one goes byte by byte
unfoldable pub is_whole : ℕ → List ℕ → Bool
is_whole e l = eqb (get_or l 0 0) 254 && not (eqb (get_or l 1 0) 98) && leb (length_in e l) (length l)

-- how many bytes it has; 0 where none stands
unfoldable pub whole_in : ℕ → Phase → List ℕ → ℕ
whole_in e p l = cond (is_idle p && is_whole e l) (length_in e l) 0

-- What is asked of each part of a record: what it says is sound and canonical, and is written as it stands.
-- Assumes nothing.
use Rattle.std.specs.Prelude.{Bool, true, ◌&&◌, List, [], ◌∷◌, ℕ, zero, suc, ◌+◌, eqb, drop, replicate}
use Rattle.queue.specs.Record.{at}
use Rattle.state.specs.declared.Phase.{Phase}
use Rattle.state.specs.Soundness.{sound_phase, sound_text, sound_port, thresholds_fit, sound_bar, sound_strip, sound_panel}
use Rattle.state.specs.Canonical.{canonical_phase, canonical_arguments, canonical_port, canonical_bar, canonical_strip, canonical_panel}
use Rattle.record.specs.Layout.{phase_at, arguments_at, inline_at, upload_at, text_at, drawing_at, flow_at}
use Rattle.record.specs.Reading.{phase_of, arguments_in, text_of, flow_of, port_of, slot_of, strip_of, panel_of, edition_in}
use Rattle.record.specs.Writing.{gathering_bytes, data_bytes, upload_bytes, text_bytes, other_bytes, port_bytes, slot_bytes, strip_bytes, panel_bytes}

-- the bytes l stand in r from index k on
unfoldable pub stands : List ℕ → ℕ → List ℕ → Bool
stands [] k r = true
stands (a ∷ l) k r = eqb (at r k) a && stands l (k + 1) r

-- n bytes from index k on are 0
abbrev pub clear : ℕ → ℕ → List ℕ → Bool
clear k n r = stands (replicate n 0) k r

-- a test of n things, each `size` bytes behind the one before
unfoldable pub every_of : (List ℕ → Bool) → ℕ → List ℕ → ℕ → Bool
every_of one size l zero = true
every_of one size l (suc n) = one l && every_of one size (drop size l) n

-- ---- one line

-- the phase p with the arguments, part after part, in edition e
unfoldable pub phase_stands : ℕ → Phase → List ℕ → Bool
phase_stands e p r =
    sound_phase e p
    && canonical_phase p
    && (stands (gathering_bytes p) phase_at r
    && (canonical_arguments p (arguments_in (drop arguments_at r))
    && (stands (data_bytes p) inline_at r && stands (upload_bytes p) upload_at r)))

abbrev pub phase_holds : List ℕ → Bool
phase_holds r = phase_stands (edition_in r) (phase_of r) r

unfoldable pub text_holds : List ℕ → Bool
text_holds r = sound_text (text_of (drop text_at r)) && stands (text_bytes (text_of (drop text_at r))) text_at r

unfoldable pub other_holds : List ℕ → Bool
other_holds r = thresholds_fit (flow_of (drop flow_at r)) && stands (other_bytes (port_of r)) drawing_at r

unfoldable pub port_holds : List ℕ → Bool
port_holds r = sound_port (edition_in r) (port_of r) && thresholds_fit (port_of r).flow && canonical_port (port_of r) && stands (port_bytes (port_of r)) phase_at r

-- ---- the display

unfoldable pub slot_holds : ℕ → List ℕ → Bool
slot_holds h l = sound_bar h (slot_of l) && canonical_bar (slot_of l) && stands (slot_bytes (slot_of l)) 0 l

unfoldable pub strip_holds : ℕ → List ℕ → Bool
strip_holds h l = sound_strip h (strip_of l) && canonical_strip (strip_of l) && stands (strip_bytes (strip_of l)) 0 l

unfoldable pub panel_holds : ℕ → List ℕ → Bool
panel_holds h l = sound_panel h (panel_of l) && canonical_panel (panel_of l) && stands (panel_bytes (panel_of l)) 0 l

-- The parts of a record put together: lengths, and what the writing of part after part comes to.
-- Assumes nothing.
use mathlib.Core.Path.{◌≡◌, refl, ◌∙◌}
use mathlib.Core.List.{List, ◌++◌, append-nil}
use Prim.Native.Nat.{ℕ, ◌+◌}
use native.Mathlib.Omega.{arith}
use lib.ListN.{length, length-append, drop_of_length-le}
use lib.Seq.{take_all}
use Rattle.state.specs.declared.Phase.{Phase}
use Rattle.state.specs.declared.Phase.TheVariants.{Idle, Prefix, Gathering, Inline, Upload}
use Rattle.state.specs.declared.Port.{Port}
use Rattle.state.specs.declared.Panel.{Panel}
use Rattle.state.specs.declared.State.{State}
use Rattle.record.specs.Layout.{port_size, panel_size, record_size}
use Rattle.record.specs.Writing.{many_bytes, gathering_bytes, data_bytes, upload_bytes, phase_bytes, port_bytes}
use Rattle.record.specs.Writing.{slot_bytes, strip_bytes, panel_bytes, encode_of}
use Rattle.record.specs.Record.{encoded_in}
use Rattle.record.proofs.Overwriting.{length-many_bytes}

-- ---- lengths

pub length-gathering : (p : Phase) → length (gathering_bytes p) ≡ 3
length-gathering Idle = refl
length-gathering Prefix = refl
length-gathering (Gathering code got) = refl
length-gathering (Inline x1 y1 x2 y2 came) = refl
length-gathering (Upload sort number size stored waiting byte waited) = refl

pub length-data : (p : Phase) → length (data_bytes p) ≡ 6
length-data Idle = refl
length-data Prefix = refl
length-data (Gathering code got) = refl
length-data (Inline x1 y1 x2 y2 came) = refl
length-data (Upload sort number size stored waiting byte waited) = refl

pub length-upload : (p : Phase) → length (upload_bytes p) ≡ 11
length-upload Idle = refl
length-upload Prefix = refl
length-upload (Gathering code got) = refl
length-upload (Inline x1 y1 x2 y2 came) = refl
length-upload (Upload sort number size stored waiting byte waited) = refl

-- a part, and what follows it
part : (l m : List ℕ) (a b : ℕ) → length l ≡ a → length m ≡ b → length (l ++ m) ≡ a + b
part l m a b e f = length-append l m ∙ rw (e, f)

-- the arrays of the program
pub record Sized (s : State) : Type 0 where
  pub args : length s.port.line.args ≡ 6
  pub bars : length s.panel.bars ≡ 16
  pub strips : length s.panel.strips ≡ 8

pub length-phase : (p : Port) → length p.line.args ≡ 6 → length (phase_bytes p) ≡ 26
unfolding phase_bytes
length-phase p e =
    part (gathering_bytes p.line.phase) _ 3 23 (length-gathering p.line.phase)
    (part p.line.args _ 6 17 e
    (part (data_bytes p.line.phase) _ 6 11 (length-data p.line.phase) (length-upload p.line.phase)))

pub length-port : (p : Port) → length p.line.args ≡ 6 → length (port_bytes p) ≡ port_size
unfolding port_bytes
length-port p e = part (phase_bytes p) _ 26 21 (length-phase p e) refl

pub length-bars : (q : Panel) → length q.bars ≡ 16 → length (many_bytes slot_bytes q.bars) ≡ 112
length-bars q e = length-many_bytes slot_bytes 7 (λ a. refl) q.bars ∙ rw e

pub length-strips : (q : Panel) → length q.strips ≡ 8 → length (many_bytes strip_bytes q.strips) ≡ 40
length-strips q e = length-many_bytes strip_bytes 5 (λ a. refl) q.strips ∙ rw e

pub length-panel : (q : Panel) → length q.bars ≡ 16 → length q.strips ≡ 8 → length (panel_bytes q) ≡ panel_size
unfolding panel_bytes
length-panel q e f = part (many_bytes slot_bytes q.bars) _ 112 48 (length-bars q e) (part (many_bytes strip_bytes q.strips) _ 40 8 (length-strips q f) refl)

pub length-sized : (s : State) → Sized s → length (encode_of s) ≡ record_size
unfolding encode_of
length-sized s z = part (port_bytes s.port) _ port_size (2 + panel_size) (length-port s.port z.args) (rw (length-panel s.panel z.bars z.strips))

-- ---- a slice of just that size

pub written_whole : (s : State) (g : List ℕ) → Sized s → length g ≡ record_size → encoded_in s g ≡ encode_of s
unfolding encoded_in
written_whole s g z e =
    rw (take_all (length g) (encode_of s) (omega (arith, length-sized s z)), drop_of_length-le g {i = record_size} (omega arith)) (append-nil (encode_of s))

-- Part after part is written: what it comes to.
-- Assumes nothing.
use mathlib.Core.Path.{◌≡◌, refl, sym, ap, ◌∙◌}
use mathlib.Core.Bool.{Bool}
use mathlib.Core.List.{List, [], ◌∷◌, ◌++◌}
use Prim.Native.Nat.{ℕ}
use lib.ListN.{length, take, drop}
use Rattle.queue.specs.Record.{bit}
use Rattle.state.specs.declared.Phase.{Phase}
use Rattle.state.specs.declared.Phase.TheVariants.{Upload}
use Rattle.state.specs.declared.Port.{Port}
use Rattle.state.specs.declared.Panel.{Panel}
use Rattle.state.specs.declared.State.{State}
use Rattle.record.specs.Layout.{port_size, height_at, panel_at, bars_at, strips_at, serial_at}
use Rattle.record.specs.Writing.{low, high, many_bytes, gathering_bytes, data_bytes, upload_bytes, text_bytes, other_bytes, phase_bytes, port_bytes}
use Rattle.record.specs.Writing.{slot_bytes, strip_bytes, last_bytes, panel_bytes, encode_of, over}
use Rattle.record.specs.Record.{encoded_in}
use Rattle.record.proofs.Overwriting.{over_next, over_front, over_all}
use Rattle.record.proofs.Whole.{Sized, length-gathering, length-data, length-phase, length-port, length-bars, length-strips, length-sized}

-- ---- writing: the phase, in the form that holds fields

pub upload_written : (p : Phase) (k n z s : ℕ) (w : Bool) (b m n1 n2 z1 z2 s1 s2 w1 m1 m2 : ℕ) → p ≡ Upload k n z s w b m → n1 ≡ low n → n2 ≡ high n → z1 ≡ low z → z2 ≡ high z
    → s1 ≡ low s → s2 ≡ high s → w1 ≡ bit w → m1 ≡ low m → m2 ≡ high m → (k ∷ n1 ∷ n2 ∷ z1 ∷ z2 ∷ s1 ∷ s2 ∷ w1 ∷ b ∷ m1 ∷ m2 ∷ []) ≡ upload_bytes p
upload_written p k n z s w b m n1 n2 z1 z2 s1 s2 w1 m1 m2 e a1 a2 b1 b2 c1 c2 d f1 f2 = rw (e, a1, a2, b1, b2, c1, c2, d, f1, f2)

-- ---- part after part

same_over : (l m : List ℕ) (k : ℕ) (g h : List ℕ) → l ≡ m → h ≡ over l k g → h ≡ over m k g
same_over l m k g h e f = f ∙ ap (λ (x : List ℕ). over x k g) e

pub phase_written : (p : Port) (g g1 g2 g3 g4 a c d : List ℕ) → length p.line.args ≡ 6 → a ≡ gathering_bytes p.line.phase → g1 ≡ over a 0 g → g2 ≡ over p.line.args 3 g1
    → c ≡ data_bytes p.line.phase → g3 ≡ over c 9 g2 → d ≡ upload_bytes p.line.phase → g4 ≡ over d 15 g3 → g4 ≡ over (phase_bytes p) 0 g
unfolding phase_bytes
phase_written p g g1 g2 g3 g4 a c d s ea e1 e2 ec e3 ed e4 =
    let middle = data_bytes p.line.phase in
    let rest = upload_bytes p.line.phase in
    sym (over_next (gathering_bytes p.line.phase) (p.line.args ++ (middle ++ rest)) 0 3 g g1 (length-gathering p.line.phase) (same_over a _ 0 g g1 ea e1)
    ∙ over_next p.line.args (middle ++ rest) 3 6 g1 g2 s e2
    ∙ over_next middle rest 9 6 g2 g3 (length-data p.line.phase) (same_over c _ 9 g2 g3 ec e3)
    ∙ sym (same_over d _ 15 g3 g4 ed e4))

pub port_written : (p : Port) (g g1 g2 g3 t o : List ℕ) → length p.line.args ≡ 6 → g1 ≡ over (phase_bytes p) 0 g → t ≡ text_bytes p.text → g2 ≡ over t 26 g1
    → o ≡ other_bytes p → g3 ≡ over o 38 g2 → g3 ≡ over (port_bytes p) 0 g
unfolding port_bytes
port_written p g g1 g2 g3 t o s e1 et e2 eo e3 =
    sym (over_next (phase_bytes p) (text_bytes p.text ++ other_bytes p) 0 26 g g1 (length-phase p s) e1
    ∙ over_next (text_bytes p.text) (other_bytes p) 26 12 g1 g2 refl (same_over t _ 26 g1 g2 et e2)
    ∙ sym (same_over o _ 38 g2 g3 eo e3))

-- w, of the size of a port, is written and then put over g
pub port_short : (p : Port) (g g1 w w1 : List ℕ) → length p.line.args ≡ 6 → length w ≡ port_size → w1 ≡ over (port_bytes p) 0 w → g1 ≡ over w1 0 g → g1 ≡ over (port_bytes p) 0 g
port_short p g g1 w w1 s n ew e1 = same_over w1 (port_bytes p) 0 g g1 (ew ∙ over_all (port_bytes p) w (length-port p s ∙ sym n)) e1

pub panel_written : (q : Panel) (g g1 g2 g3 l : List ℕ) → length q.bars ≡ 16 → length q.strips ≡ 8 → g1 ≡ over (many_bytes slot_bytes q.bars) bars_at g
    → g2 ≡ over (many_bytes strip_bytes q.strips) strips_at g1 → l ≡ last_bytes q → g3 ≡ over l serial_at g2 → g3 ≡ over (panel_bytes q) bars_at g
unfolding panel_bytes
panel_written q g g1 g2 g3 l s z e1 e2 el e3 =
    sym (over_next (many_bytes slot_bytes q.bars) (many_bytes strip_bytes q.strips ++ last_bytes q) bars_at 112 g g1 (length-bars q s) e1
    ∙ over_next (many_bytes strip_bytes q.strips) (last_bytes q) strips_at 40 g1 g2 (length-strips q z) e2
    ∙ sym (same_over l _ serial_at g2 g3 el e3))

all_written : (s : State) (g : List ℕ) → Sized s → over (port_bytes s.port ++ (s.config.height ∷ s.config.edition ∷ panel_bytes s.panel)) 0 g ≡ encoded_in s g
unfolding encode_of encoded_in
all_written s g z = over_front (encode_of s) g ∙ ap (λ (n : ℕ). take (length g) (encode_of s) ++ drop n g) (length-sized s z)

pub state_written : (s : State) (g g1 g2 g3 : List ℕ) → Sized s → g1 ≡ over (port_bytes s.port) 0 g → g2 ≡ over (s.config.height ∷ s.config.edition ∷ []) height_at g1
    → g3 ≡ over (panel_bytes s.panel) panel_at g2 → g3 ≡ encoded_in s g
state_written s g g1 g2 g3 z e1 e2 e3 =
    e3
    ∙ sym (over_next (port_bytes s.port) (s.config.height ∷ s.config.edition ∷ panel_bytes s.panel) 0 port_size g g1 (length-port s.port z.args) e1
    ∙ over_next (s.config.height ∷ s.config.edition ∷ []) (panel_bytes s.panel) height_at 2 g1 g2 refl e2)
    ∙ all_written s g z

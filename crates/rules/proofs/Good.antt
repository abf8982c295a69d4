-- A good world by its parts: what is good of each part that a command puts anew, with the board's choice and the length of the store beside them; both directions.
-- Assumes nothing.
use mathlib.Core.Path.{◌≡◌, refl, sym, subst}
use mathlib.Core.Bool.{Bool, true, false}
use mathlib.Core.List.{List, []}
use Prim.Native.Nat.{ℕ, ◌+◌, ◌≤◌, ◌<◌}
use native.Mathlib.Omega.{arith}
use lib.Dec.{leb}
use lib.ListN.{length, get_or}
use borrow.Author.Tests.{leb-true, ltb-true, le-leb, lt-ltb}
use Rattle.refusals.specs.Refusals.{Given}
use Rattle.pixels.proofs.Tests.{by_test}
use Rattle.canvas.specs.Sizes.{is_height}
use Rattle.queue.specs.declared.Flow.{Flow}
use Rattle.queue.specs.Record.{Bytes}
use Rattle.directory.specs.Directory.{entries, sizes_in, valid_of}
use Rattle.file_laws.proofs.Written.{valid, and_both}
use Rattle.state.specs.declared.Phase.{Phase}
use Rattle.state.specs.declared.Text.{Text}
use Rattle.state.specs.declared.Drawing.{Drawing}
use Rattle.state.specs.declared.Refusals.{Refusals}
use Rattle.state.specs.declared.Port.{Port}
use Rattle.state.specs.declared.BarSlot.{BarSlot}
use Rattle.state.specs.declared.Strip.{Strip}
use Rattle.state.specs.declared.Serial.{Serial}
use Rattle.state.specs.declared.Panel.{Panel}
use Rattle.state.specs.declared.Config.{Config}
use Rattle.state.specs.State.{no_bar, no_strip, with_phase, with_drawing, with_flow, with_refusals, with_bars, with_strips}
use Rattle.state.specs.Editions.{is_edition}
use Rattle.state.specs.Soundness.{every, sound_phase, sound_text, sound_port, sound_bar, sound_strip, sound_panel, sound_config, sound_state, thresholds_fit}
use Rattle.state.specs.Canonical.{canonical_phase, canonical_arguments, canonical_port, canonical_bar, canonical_strip, canonical_serial, canonical_panel, canonical_state}
use Rattle.state.specs.Fits.{PhaseFits, ArgsFit, TextFits, DrawingFits, FlowFits, RefusalsFit, PortFits, BarFits, StripFits, SerialFits, PanelFits, ConfigFits}
use Rattle.rules.specs.World.{World, height, edition, port, panel, used, with_framebuffer, with_store, with_port, with_panel, with_used, put_text, Outcome, done, refused, refuse_if}
use Rattle.rules.specs.Sound.{store_most, Welcome, Good}

-- ---- the parts

-- in edition e
pub record PhaseGood (e : ℕ) (p : Phase) (a s : List ℕ) : Type 0 where
  pub sound : sound_phase e p ≡ true
  pub canonical : canonical_phase p ≡ true
  pub zeros : canonical_arguments p a ≡ true
  pub fits : PhaseFits p
  pub args : ArgsFit a
  pub welcome : Welcome e p s

-- the text point is at most at column 495
pub record TextGood (t : Text) : Type 0 where
  pub near : t.x ≤ 495
  pub fits : TextFits t

pub record FlowGood (f : Flow) : Type 0 where
  pub sum : f.full + f.empty < 80
  pub fits : FlowFits f

pub record PortGood (e : ℕ) (p : Port) (s : List ℕ) : Type 0 where
  pub phase : PhaseGood e p.line.phase p.line.args s
  pub text : TextGood p.text
  pub drawing : DrawingFits p.drawing
  pub flow : FlowGood p.flow
  pub refusals : RefusalsFit p.refusals

pub record BarsGood (h : ℕ) (l : List BarSlot) : Type 0 where
  pub sound : every (sound_bar h) l ≡ true
  pub canonical : every canonical_bar l ≡ true
  pub long : length l ≡ 16
  pub fits : (i : ℕ) → BarFits (get_or l i no_bar)

pub record StripsGood (h : ℕ) (l : List Strip) : Type 0 where
  pub sound : every (sound_strip h) l ≡ true
  pub canonical : every canonical_strip l ≡ true
  pub long : length l ≡ 8
  pub fits : (i : ℕ) → StripFits (get_or l i no_strip)

pub record SerialGood (s : Serial) : Type 0 where
  pub canonical : canonical_serial s ≡ true
  pub fits : SerialFits s

pub record PanelGood (h : ℕ) (q : Panel) : Type 0 where
  pub bars : BarsGood h q.bars
  pub strips : StripsGood h q.strips
  pub serial : SerialGood q.serial
  pub contrast : q.contrast < 256
  pub minutes : q.backlight.minutes < 256

-- m bytes of store, of whose file area u are used
pub record StoreGood (m u : ℕ) (s : List ℕ) : Type 0 where
  pub bytes : Bytes s
  pub valid : valid_of s ≡ true
  pub most : length s ≤ store_most
  pub long : length s ≡ m
  pub sum : u ≡ sizes_in (entries s)

-- two bytes hold it
pub used_fits : {m u : ℕ} {s : List ℕ} → StoreGood m u s → u < 65536
used_fits {m} {u} {s} g = omega (arith, g.sum, g.most, (valid s g.valid).room)

-- c is what was chosen at start
pub record ConfigGood (c d : Config) : Type 0 where
  pub same : d ≡ c
  pub known : sound_config d ≡ true
  pub fits : ConfigFits d

pub record Parts (c : Config) (m : ℕ) (w : World) : Type 0 where
  pub config : ConfigGood c w.state.config
  pub port_good : PortGood (edition w) (port w) w.store
  pub panel_good : PanelGood (height w) (panel w)
  pub store : StoreGood m (used w) w.store
  pub framebuffer : Bytes w.framebuffer

-- ---- from a good world to its parts

port_parts : (e : ℕ) (p : Port) (s : List ℕ) → sound_port e p ≡ true → thresholds_fit p.flow ≡ true → canonical_port p ≡ true → PortFits p → Welcome e p.line.phase s → PortGood e p s
unfolding sound_port sound_text canonical_port
port_parts e p s h t k f u =
    let a = and_both _ _ h in
    let b = and_both (leb p.text.x 495) (leb p.text.y 255) a.1 in
    let c = and_both _ _ k in
    record {
      phase = record { sound = a.0; canonical = c.0; zeros = c.1; fits = f.phase; args = f.args; welcome = u };
      text = record { near = leb-true p.text.x 495 b.0; fits = f.text };
      drawing = f.drawing;
      flow = record { sum = ltb-true (p.flow.full + p.flow.empty) 80 t; fits = f.flow };
      refusals = f.refusals;
    }

panel_parts : (h : ℕ) (q : Panel) → sound_panel h q ≡ true → canonical_panel q ≡ true → PanelFits q → PanelGood h q
unfolding sound_panel canonical_panel
panel_parts h q e k f =
    let a = and_both _ _ e in
    let b = and_both _ _ k in
    let c = and_both _ _ b.0 in
    record {
      bars = record { sound = a.0; canonical = c.0; long = f.sixteen; fits = f.bars };
      strips = record { sound = a.1; canonical = c.1; long = f.eight; fits = f.strips };
      serial = record { canonical = b.1; fits = f.serial };
      contrast = f.contrast;
      minutes = f.minutes;
    }

pub parts : {w : World} → Good w → Parts w.state.config (length w.store) w
unfolding sound_state canonical_state
parts {w} g =
    let s = and_both _ _ g.sound in
    let t = and_both (sound_config w.state.config) (sound_port (edition w) (port w)) s.0 in
    let k = and_both _ _ g.canonical in
    record {
      config = record { same = refl; known = t.0; fits = g.fits.config };
      port_good = port_parts (edition w) (port w) w.store t.1 g.thresholds k.0 g.fits.port g.upload;
      panel_good = panel_parts (height w) (panel w) s.1 k.1 g.fits.panel;
      store = record { bytes = g.store.bytes; valid = g.store.valid; most = g.store.most; long = refl; sum = g.sum };
      framebuffer = g.framebuffer;
    }

pub height_known : {c : Config} {m : ℕ} {w : World} → Parts c m w → is_height (height w) ≡ true
unfolding sound_config
height_known {c} {m} {w} p = (and_both (is_height (height w)) (is_edition (edition w)) p.config.known).0

pub edition_known : {c : Config} {m : ℕ} {w : World} → Parts c m w → is_edition (edition w) ≡ true
unfolding sound_config
edition_known {c} {m} {w} p = (and_both (is_height (height w)) (is_edition (edition w)) p.config.known).1

-- ---- and from the parts back

port_sound : {e : ℕ} {p : Port} {s : List ℕ} → PortGood e p s → sound_port e p ≡ true
unfolding sound_port sound_text
port_sound {e} {p} g = rw (g.phase.sound, le-leb p.text.x 495 g.text.near, le-leb p.text.y 255 (omega (arith, g.text.fits.y)))

port_canonical : {e : ℕ} {p : Port} {s : List ℕ} → PortGood e p s → canonical_port p ≡ true
unfolding canonical_port
port_canonical g = rw g.phase.canonical g.phase.zeros

panel_sound : {h : ℕ} {q : Panel} → PanelGood h q → sound_panel h q ≡ true
unfolding sound_panel
panel_sound g = rw g.bars.sound g.strips.sound

panel_canonical : {h : ℕ} {q : Panel} → PanelGood h q → canonical_panel q ≡ true
unfolding canonical_panel
panel_canonical g = rw (g.bars.canonical, g.strips.canonical) g.serial.canonical

pub good : {c : Config} {m : ℕ} {w : World} → Parts c m w → Good w
unfolding sound_state canonical_state
good {c} {m} {w} p =
    let q = p.port_good in
    let r = p.panel_good in
    record {
      sound = rw (p.config.known, port_sound q) (panel_sound r);
      thresholds = lt-ltb ((port w).flow.full + (port w).flow.empty) 80 q.flow.sum;
      canonical = rw (port_canonical q) (panel_canonical r);
      fits = record {
        config = p.config.fits;
        port = record { phase = q.phase.fits; args = q.phase.args; text = q.text.fits; drawing = q.drawing; flow = q.flow.fits; refusals = q.refusals };
        panel = record { sixteen = r.bars.long; bars = r.bars.fits; eight = r.strips.long; strips = r.strips.fits; serial = r.serial.fits; contrast = r.contrast; minutes = r.minutes; used = used_fits p.store };
      };
      store = record { bytes = p.store.bytes; valid = p.store.valid; most = p.store.most };
      framebuffer = p.framebuffer;
      upload = q.phase.welcome;
      sum = p.store.sum;
    }

-- ---- a part put anew

module _ {n : Config} {m : ℕ} {w : World} (p : Parts n m w) where
  pub put_port : {q : Port} → PortGood (edition w) q w.store → Parts n m (with_port w q)
  put_port g = record { port_good = g; panel_good = p.panel_good; store = p.store; framebuffer = p.framebuffer; config = p.config }

  pub put_panel : {q : Panel} → PanelGood (height w) q → q.used ≡ used w → Parts n m (with_panel w q)
  put_panel g e =
      record {
        port_good = p.port_good;
        panel_good = g;
        store = subst (λ (u : ℕ). StoreGood m u w.store) (sym e) p.store;
        framebuffer = p.framebuffer;
        config = p.config;
      }

  pub put_framebuffer : {g : List ℕ} → Bytes g → Parts n m (with_framebuffer w g)
  put_framebuffer g = record { port_good = p.port_good; panel_good = p.panel_good; store = p.store; framebuffer = g; config = p.config }

  pub put_text_lem : {t : Text} → TextGood t → Parts n m (put_text w t)
  put_text_lem g = let q = p.port_good in put_port (record { phase = q.phase; text = g; drawing = q.drawing; flow = q.flow; refusals = q.refusals })

  pub put_drawing_lem : {d : Drawing} → DrawingFits d → Parts n m (with_port w (with_drawing (port w) d))
  put_drawing_lem g = let q = p.port_good in put_port (record { phase = q.phase; text = q.text; drawing = g; flow = q.flow; refusals = q.refusals })

  pub put_flow : {f : Flow} → FlowGood f → Parts n m (with_port w (with_flow (port w) f))
  put_flow g = let q = p.port_good in put_port (record { phase = q.phase; text = q.text; drawing = q.drawing; flow = g; refusals = q.refusals })

  pub put_refusals : {r : Refusals} → RefusalsFit r → Parts n m (with_port w (with_refusals (port w) r))
  put_refusals g = let q = p.port_good in put_port (record { phase = q.phase; text = q.text; drawing = q.drawing; flow = q.flow; refusals = g })

  pub put_phase : {f : Phase} {a : List ℕ} → PhaseGood (edition w) f a w.store → Parts n m (with_port w (with_phase (port w) f a))
  put_phase g = let q = p.port_good in put_port (record { phase = g; text = q.text; drawing = q.drawing; flow = q.flow; refusals = q.refusals })

  pub put_bars : {l : List BarSlot} → BarsGood (height w) l → Parts n m (with_panel w (with_bars (panel w) l))
  put_bars g = let q = p.panel_good in put_panel (record { bars = g; strips = q.strips; serial = q.serial; contrast = q.contrast; minutes = q.minutes }) refl

  pub put_strips : {l : List Strip} → StripsGood (height w) l → Parts n m (with_panel w (with_strips (panel w) l))
  put_strips g = let q = p.panel_good in put_panel (record { bars = q.bars; strips = g; serial = q.serial; contrast = q.contrast; minutes = q.minutes }) refl

  -- the store with its used room, and with the phase as it stands for the new one
  pub put_store : {u : ℕ} {s : List ℕ} → StoreGood m u s → PhaseGood (edition w) (port w).line.phase (port w).line.args s → Parts n m (with_used (with_store w s) u)
  put_store g f =
      let q = p.port_good in
      let r = p.panel_good in
      record {
        port_good = record { phase = f; text = q.text; drawing = q.drawing; flow = q.flow; refusals = q.refusals };
        panel_good = record { bars = r.bars; strips = r.strips; serial = r.serial; contrast = r.contrast; minutes = r.minutes };
        store = g;
        framebuffer = p.framebuffer;
        config = p.config;
      }

  -- both at once
  pub put_both : {u : ℕ} {f : Phase} {a s : List ℕ} → StoreGood m u s → PhaseGood (edition w) f a s → Parts n m (with_port (with_used (with_store w s) u) (with_phase (port w) f a))
  put_both g f =
      let q = p.port_good in
      let r = p.panel_good in
      record {
        port_good = record { phase = f; text = q.text; drawing = q.drawing; flow = q.flow; refusals = q.refusals };
        panel_good = record { bars = r.bars; strips = r.strips; serial = r.serial; contrast = r.contrast; minutes = r.minutes };
        store = g;
        framebuffer = p.framebuffer;
        config = p.config;
      }

-- ---- outcomes

-- what is done leaves a good world, and a refusal's number is one that is given
abbrev pub Leaves : Config → ℕ → Outcome → Type 0
Leaves n m (done v r) = Parts n m v
Leaves n m (refused k r) = Given k

-- a reason to refuse stands before
pub passes : (n : Config) (m : ℕ) (bad : Bool) (k : ℕ) (o : Outcome) → Given k → (bad ≡ false → Leaves n m o) → Leaves n m (refuse_if bad k o)
passes n m bad k o h f = by_test (Leaves n m) bad (refused k []) o (λ _. h) f

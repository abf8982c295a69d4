-- A record and its state are one thing, both ways, and a record is accepted exactly when it is that of a sound, canonical state.
-- Assumes nothing.
use mathlib.Core.Path.{◌≡◌, sym, ap, ◌∙◌}
use mathlib.Core.Logic.{◌↔◌}
use mathlib.Core.Bool.{true, ◌&&◌}
use mathlib.Core.List.{List}
use Prim.Native.Nat.{ℕ, ◌+◌, ◌*◌, ◌<◌}
use lib.Dec.{eqb}
use lib.ListN.{length, drop}
use lib.Seq.{get_or-drop}
use borrow.Author.Tests.{eq-eqb, eqb-true}
use Rattle.pixels.proofs.Tests.{and_one}
use Rattle.queue.specs.Record.{at, Bytes}
use Rattle.queue.specs.declared.Flow.{Flow}
use Rattle.canvas.specs.Sizes.{is_height}
use Rattle.canvas.proofs.Heights.{height_fits}
use Rattle.state.specs.declared.Refusals.{Refusals}
use Rattle.state.specs.declared.Panel.{Panel}
use Rattle.state.specs.declared.Config.{Config}
use Rattle.state.specs.declared.State.{State}
use Rattle.state.specs.Editions.{is_edition}
use Rattle.state.specs.State.{start_state}
use Rattle.state.specs.Soundness.{sound_port, sound_config, sound_state, thresholds_fit}
use Rattle.state.specs.Canonical.{canonical_state}
use Rattle.state.specs.Fits.{ConfigFits, Fits}
use Rattle.state.proofs.Editions.{edition_fits}
use Rattle.state.proofs.Start.{start_sound, start_thresholds, start_canonical, start_fits}
use Rattle.record.specs.Layout.{flow_at, flow_full_at, flow_empty_at, refusals_at, last_refusal_at, panel_at, contrast_at, backlight_at, minutes_at, height_at, edition_at, record_size}
use Rattle.record.specs.Reading.{pair_at, flag_at, port_of, panel_of, config_in, used_in, decode_of}
use Rattle.record.specs.Writing.{encode_of}
use Rattle.record.specs.Record.{encoded_in, same_bytes, recognised, sound_record}
use Rattle.record.proofs.Same.{both, same_refl, same_equal}
use Rattle.record.proofs.Whole.{Sized, length-sized, written_whole}
use Rattle.record.proofs.Back.{height_read, edition_read, phase_read, arguments_read, text_read, drawing_read, flow_read, refusals_read, panel_read}
use Rattle.record.proofs.Bytes.{decoded_fits, encoded_bytes}

pub sized : (s : State) → Fits s → Sized s
sized s f = record { args = f.port.args.six; bars = f.panel.sixteen; strips = f.panel.eight }

-- ---- what is written

pub length-encode : (s : State) → Fits s → length (encode_of s) ≡ record_size
length-encode s f = length-sized s (sized s f)

pub bytes_encode : (s : State) → Fits s → Bytes (encode_of s)
bytes_encode s f = encoded_bytes s f

-- in a slice of just that size
pub encoded_whole : (s : State) (g : List ℕ) → Fits s → length g ≡ record_size → encoded_in s g ≡ encode_of s
encoded_whole s g f e = written_whole s g (sized s f) e

-- ---- both ways

-- READING WHAT WAS WRITTEN
pub decode_encode : (s : State) → Fits s → decode_of (encode_of s) ≡ s
unfolding decode_of port_of
decode_encode s f =
    let z = sized s f in
    rw (
      height_read s z,
      edition_read s z,
      phase_read s z,
      arguments_read s z,
      text_read s z,
      drawing_read s z,
      flow_read s z,
      refusals_read s z,
      panel_read s z,
    )

pub record Passed (r : List ℕ) : Type 0 where
  pub long : length r ≡ record_size
  pub sound : sound_state (decode_of r) ≡ true
  pub thresholds : thresholds_fit (decode_of r).port.flow ≡ true
  pub canonical : canonical_state (decode_of r) ≡ true
  pub again : encode_of (decode_of r) ≡ r

pub passed : (r : List ℕ) → sound_record r ≡ true → Passed r
unfolding sound_record
passed r e =
    let a = eqb (length r) record_size in
    let b = sound_state (decode_of r) in
    let c = thresholds_fit (decode_of r).port.flow in
    let d = canonical_state (decode_of r) in
    let p = both (a && b && c && d) (same_bytes (encode_of (decode_of r)) r) e in
    let q = both (a && b && c) d p.0 in
    let t = both (a && b) c q.0 in
    let u = both a b t.0 in
    record { long = eqb-true (length r) record_size u.0; sound = u.1; thresholds = t.1; canonical = q.1; again = same_equal (encode_of (decode_of r)) r p.1 }

pub passes : (r : List ℕ) → Passed r → sound_record r ≡ true
unfolding sound_record
passes r p = rw (eq-eqb (length r) record_size p.long, p.sound, p.thresholds, p.canonical, p.again) (same_refl r)

-- WRITING WHAT WAS READ
pub encode_decode : (r : List ℕ) → sound_record r ≡ true → encode_of (decode_of r) ≡ r
encode_decode r e = (passed r e).again

-- what is accepted at all is recognised
pub sound_recognised : (r : List ℕ) → sound_record r ≡ true → recognised r ≡ true
unfolding recognised sound_state sound_config decode_of
sound_recognised r e =
    let p = passed r e in
    let c = config_in r in
    let q = and_one (sound_config c && sound_port c.edition (port_of r)) _ p.sound in
    rw (eq-eqb (length r) record_size p.long) (and_one (is_height c.height) _ (and_one (sound_config c) _ q))

-- ---- sound both ways

pub encoded_sound : (s : State) → Fits s → sound_state s ≡ true → thresholds_fit s.port.flow ≡ true → canonical_state s ≡ true
    → sound_record (encode_of s) ≡ true
encoded_sound s f e t c =
    let d = decode_encode s f in
    passes (encode_of s) (record {
      long = length-encode s f;
      sound = ap sound_state d ∙ e;
      thresholds = ap (λ (x : State). thresholds_fit x.port.flow) d ∙ t;
      canonical = ap canonical_state d ∙ c;
      again = ap encode_of d;
    })

-- A RECORD OF BYTES IS ACCEPTED EXACTLY WHEN IT IS THAT OF A SOUND STATE, with thresholds below 80 and canonical
pub sound_exactly : (r : List ℕ) → Bytes r
    → (sound_record r ≡ true) ↔ ((s : State) × Fits s × (sound_state s ≡ true) × (thresholds_fit s.port.flow ≡ true) × (canonical_state s ≡ true) × (encode_of s ≡ r))
sound_exactly r b = (
  λ e. let p = passed r e in (decode_of r, decoded_fits r b, p.sound, p.thresholds, p.canonical, p.again),
  λ w. rw (← w.5) (encoded_sound w.0 w.1 w.2 w.3 w.4),
)

-- ---- the start, and what a board shows

pub config_fits : (c : Config) → sound_config c ≡ true → ConfigFits c
unfolding sound_config
config_fits c k =
    let p = both (is_height c.height) (is_edition c.edition) k in
    record { height = height_fits c.height p.0; edition = edition_fits c.edition p.1 }

pub start_record : (c : Config) (u : ℕ) → sound_config c ≡ true → u < 65536 → sound_record (encode_of (start_state c u)) ≡ true
start_record c u k h = encoded_sound (start_state c u) (start_fits c u (config_fits c k) h) (start_sound c u k) (start_thresholds c.height) (start_canonical c u)

pub record Shown (s : State) (r : List ℕ) : Type 0 where
  pub height : at r height_at ≡ s.config.height
  pub edition : at r edition_at ≡ s.config.edition
  pub contrast : at r contrast_at ≡ s.panel.contrast
  pub backlight : flag_at r backlight_at ≡ s.panel.backlight.on
  pub minutes : at r minutes_at ≡ s.panel.backlight.minutes
  pub used : used_in r ≡ s.panel.used
  pub count : pair_at r refusals_at ≡ s.port.refusals.count
  pub last : at r last_refusal_at ≡ s.port.refusals.last
  pub flow : flag_at r flow_at ≡ s.port.flow.on
  pub full : at r flow_full_at ≡ s.port.flow.full
  pub empty : at r flow_empty_at ≡ s.port.flow.empty

cong_pair : {a b c d : ℕ} → a ≡ b → c ≡ d → a + 256 * c ≡ b + 256 * d
cong_pair e f = rw (e, f)

panel_contrast_lem : (r : List ℕ) → at r contrast_at ≡ (panel_of (drop panel_at r)).contrast
unfolding panel_of
panel_contrast_lem r = sym (get_or-drop panel_at r 155 0)

panel_backlight_lem : (r : List ℕ) → flag_at r backlight_at ≡ (panel_of (drop panel_at r)).backlight.on
unfolding panel_of
panel_backlight_lem r = sym (ap (λ (n : ℕ). eqb n 1) (get_or-drop 156 (drop panel_at r) 0 0 ∙ get_or-drop panel_at r 156 0))

panel_minutes_lem : (r : List ℕ) → at r minutes_at ≡ (panel_of (drop panel_at r)).backlight.minutes
unfolding panel_of
panel_minutes_lem r = sym (get_or-drop 156 (drop panel_at r) 1 0 ∙ get_or-drop panel_at r 157 0)

pub panel_used_lem : (r : List ℕ) → used_in r ≡ (panel_of (drop panel_at r)).used
unfolding panel_of
panel_used_lem r = sym (cong_pair (get_or-drop panel_at r 158 0) (get_or-drop panel_at r 159 0))

pub shown : (s : State) → Fits s → Shown s (encode_of s)
shown s f =
    let z = sized s f in
    let r = encode_of s in
    record {
      height = height_read s z;
      edition = edition_read s z;
      contrast = panel_contrast_lem r ∙ ap (λ (q : Panel). q.contrast) (panel_read s z);
      backlight = panel_backlight_lem r ∙ ap (λ (q : Panel). q.backlight.on) (panel_read s z);
      minutes = panel_minutes_lem r ∙ ap (λ (q : Panel). q.backlight.minutes) (panel_read s z);
      used = panel_used_lem r ∙ ap (λ (q : Panel). q.used) (panel_read s z);
      count = sym (cong_pair (get_or-drop 44 r 0 0) (get_or-drop 44 r 1 0)) ∙ ap (λ (n : Refusals). n.count) (refusals_read s z);
      last = sym (get_or-drop 44 r 2 0) ∙ ap (λ (n : Refusals). n.last) (refusals_read s z);
      flow = sym (ap (λ (n : ℕ). eqb n 1) (get_or-drop 41 r 0 0)) ∙ ap (λ (w : Flow). w.on) (flow_read s z);
      full = sym (get_or-drop 41 r 1 0) ∙ ap (λ (w : Flow). w.full) (flow_read s z);
      empty = sym (get_or-drop 41 r 2 0) ∙ ap (λ (w : Flow). w.empty) (flow_read s z);
    }

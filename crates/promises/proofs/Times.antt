-- TIME, of any world: outside an upload nothing happens; within one it adds up from the start, the last data byte or the last confirmation on, and at 2,100
-- milliseconds the upload is dropped.
-- Assumes nothing.
use mathlib.Core.Path.{◌≡◌, ◌∙◌, refl, sym, ap}
use mathlib.Core.List.{[], ◌∷◌}
use mathlib.Core.Bool.{Bool, true, false, true≢false}
use Prim.Native.Nat.{ℕ, ◌+◌, ◌<◌, ◌≤◌}
use native.Mathlib.Omega.{arith}
use native.Mathlib.Decide.{dec_lt}
use borrow.Author.Tests.{lt-ltb, le-leb, lt-leb}
use Rattle.refusals.specs.Refusals.{upload_aborted}
use Rattle.directory.specs.Directory.{entries, bytes_in}
use Rattle.files.specs.Files.{unused_of, stored_byte}
use Rattle.state.specs.declared.Phase.{Phase}
use Rattle.state.specs.declared.Phase.TheVariants.{Idle, Prefix, Gathering, Inline, Upload}
use Rattle.state.specs.Editions.{patience}
use Rattle.rules.specs.World.{World, edition, port, used, with_store, done, quietly, refused}
use Rattle.rules.specs.Pictures.{in_phase}
use Rattle.rules.specs.Files.{in_use, kind_of, lacks_space, begin_upload, upload_data, upload_waits}
use Rattle.rules.specs.Numbers.{too_high}
use Rattle.rules.specs.Step.{byte, time, by_phase, waits, outcome, refuse, after, step, replies}
use Rattle.rules.specs.Refused.{Unaltered}
use Rattle.rules.proofs.Refusals.{demand_1, refused_step, refused_replies}
use Rattle.promises.specs.Uploads.{uploads}

-- ---- outside an upload

unminded : (p : Phase) (w : World) (ms : ℕ) → uploads p ≡ false → waits p w ms ≡ quietly w
unfolding waits
unminded Idle w ms e = refl
unminded Prefix w ms e = refl
unminded (Gathering code got) w ms e = refl
unminded (Inline x1 y1 x2 y2 came) w ms e = refl
unminded (Upload sort number size stored waiting held waited) w ms e = absurd (true≢false e)

pub outside_an_upload : (w : World) (ms : ℕ) → uploads (port w).line.phase ≡ false → (step w (time ms) ≡ w) × (replies w (time ms) ≡ [])
unfolding step replies after
outside_an_upload w ms e = rw (unminded (port w).line.phase w ms e) (refl, refl)

unheard : (w : World) (a b : ℕ) → uploads (port w).line.phase ≡ false → step (step w (time a)) (time b) ≡ step w (time (a + b))
unheard w a b e =
    ap (λ (v : World). step v (time b)) (outside_an_upload w a e).0 ∙ (outside_an_upload w b e).0 ∙ sym (outside_an_upload w (a + b) e).0

-- ---- within one

module _ (w : World) (sort number size stored : ℕ) (waiting : Bool) (held waited : ℕ) (e : (port w).line.phase ≡ Upload sort number size stored waiting held waited) where
  drops : (ms : ℕ) → patience ≤ waited + ms → outcome w (time ms) ≡ refused upload_aborted (254 ∷ 212 ∷ [])
  unfolding waits upload_waits
  drops ms h = rw (e, le-leb patience (waited + ms) h)

  goes_on : (ms : ℕ) → waited + ms < patience → outcome w (time ms) ≡ quietly (in_phase w (Upload sort number size stored waiting held (waited + ms)))
  unfolding waits upload_waits
  goes_on ms h = rw (e, lt-leb patience (waited + ms) h)

  -- at 2,100 or more it is dropped in that very call, with 254 212: no pixel, no byte of the store and no setting changes, and the refusal is 26
  pub dropped : (ms : ℕ) → patience ≤ waited + ms → Unaltered w (step w (time ms)) upload_aborted × (replies w (time ms) ≡ 254 ∷ 212 ∷ [])
  dropped ms h = (demand_1 w (time ms) upload_aborted _ (drops ms h), refused_replies w (time ms) upload_aborted _ (drops ms h))

  -- before that the sum alone changes
  pub adds_up : (ms : ℕ) → waited + ms < patience
      → (step w (time ms) ≡ in_phase w (Upload sort number size stored waiting held (waited + ms))) × (replies w (time ms) ≡ [])
  unfolding step replies after
  adds_up ms h = rw (goes_on ms h) (refl, refl)

-- ---- what sets the sum to 0

-- the start of an upload
pub start_resets : (w : World) (sort number size : ℕ) → too_high number ≡ false → in_use w.store sort number ≡ false
    → lacks_space (bytes_in (entries w.store)) (unused_of w.store (used w)) (kind_of (edition w) sort) size ≡ false
    → begin_upload w sort number size ≡ done (in_phase w (Upload sort number size 0 false 0 0)) (1 ∷ [])
unfolding begin_upload
start_resets w sort number size a b c = rw (a, b, c)

module _ (w : World) (sort number size stored held waited b : ℕ) where
  -- each data byte
  pub data_resets : (port w).line.phase ≡ Upload sort number size stored false held waited → step w (byte b) ≡ in_phase w (Upload sort number size stored true b 0)
  unfolding step after by_phase upload_data
  data_resets e = rw e

  -- each confirmation
  pub confirmation_resets : (port w).line.phase ≡ Upload sort number size stored true held waited → stored + 1 < size
      → step w (byte 1) ≡ in_phase (with_store w (stored_byte w.store (used w) stored held)) (Upload sort number size (stored + 1) false 0 0)
  unfolding step after by_phase upload_data
  confirmation_resets e h = rw (e, lt-ltb (stored + 1) size h)

-- ---- time told in parts

module _ (w : World) (sort number size stored : ℕ) (waiting : Bool) (held waited : ℕ) (e : (port w).line.phase ≡ Upload sort number size stored waiting held waited)
    (a b : ℕ) where
  abbrev at : ℕ → World
  at n = in_phase w (Upload sort number size stored waiting held n)

  once_dropped : patience ≤ waited + a → step (step w (time a)) (time b) ≡ step w (time (a + b))
  unfolding refuse
  once_dropped h =
      let d = refused_step w (time a) upload_aborted _ (drops w sort number size stored waiting held waited e a h) in
      let f = refused_step w (time (a + b)) upload_aborted _ (drops w sort number size stored waiting held waited e (a + b) (omega (arith, h))) in
      ap (λ (v : World). step v (time b)) d ∙ (outside_an_upload (refuse w upload_aborted) b refl).0 ∙ sym f

  then_dropped : waited + a < patience → patience ≤ waited + (a + b) → step (step w (time a)) (time b) ≡ step w (time (a + b))
  unfolding refuse
  then_dropped h k =
      let d = (adds_up w sort number size stored waiting held waited e a h).0 in
      let c = refused_step (at (waited + a)) (time b) upload_aborted _ (drops (at (waited + a)) sort number size stored waiting held (waited + a) refl b (omega (arith, k))) in
      let f = refused_step w (time (a + b)) upload_aborted _ (drops w sort number size stored waiting held waited e (a + b) k) in
      ap (λ (v : World). step v (time b)) d ∙ c ∙ sym f

  still_waiting : waited + a < patience → waited + (a + b) < patience → step (step w (time a)) (time b) ≡ step w (time (a + b))
  still_waiting h k =
      let d = (adds_up w sort number size stored waiting held waited e a h).0 in
      let c = (adds_up (at (waited + a)) sort number size stored waiting held (waited + a) refl b (omega (arith, k))).0 in
      let f = (adds_up w sort number size stored waiting held waited e (a + b) k).0 in
      let n : (waited + a) + b ≡ waited + (a + b) = omega arith in
      ap (λ (v : World). step v (time b)) d ∙ c ∙ ap at n ∙ sym f

  within : step (step w (time a)) (time b) ≡ step w (time (a + b))
  within =
      elim (dec_lt (waited + a) patience) [
        | no h ↦ once_dropped (omega arith)
        | yes h ↦ elim (dec_lt (waited + (a + b)) patience) [
          | yes k ↦ still_waiting h k
          | no k ↦ then_dropped h (omega arith)
        ]
      ]

parts_at : (p : Phase) (w : World) (a b : ℕ) → (port w).line.phase ≡ p → step (step w (time a)) (time b) ≡ step w (time (a + b))
parts_at Idle w a b e = unheard w a b (ap uploads e)
parts_at Prefix w a b e = unheard w a b (ap uploads e)
parts_at (Gathering code got) w a b e = unheard w a b (ap uploads e)
parts_at (Inline x1 y1 x2 y2 came) w a b e = unheard w a b (ap uploads e)
parts_at (Upload sort number size stored waiting held waited) w a b e = within w sort number size stored waiting held waited e a b

-- however the time was told, the world is the same
pub told_in_parts : (w : World) (a b : ℕ) → step (step w (time a)) (time b) ≡ step w (time (a + b))
told_in_parts w a b = parts_at (port w).line.phase w a b refl

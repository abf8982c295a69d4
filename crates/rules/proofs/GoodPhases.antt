-- What begins, goes on and ends over many bytes leaves a good world: data in line, uploads; and the commands on files.
-- Assumes nothing.
use mathlib.Core.Path.{◌≡◌, refl}
use mathlib.Core.Bool.{Bool, true, false, not, ◌&&◌}
use mathlib.Core.List.{List}
use Prim.Native.Nat.{ℕ, ◌+◌, ◌-◌, ◌*◌, ◌≤◌, ◌<◌}
use native.Mathlib.Omega.{arith}
use native.Mathlib.Nat.{mul-le-mul}
use lib.Dec.{eqb, leb, ltb}
use lib.ListN.{length-set}
use borrow.Author.Tests.{ltb-true, lt-ltb, leb-false, eqb-false, not-false}
use Rattle.pixels.proofs.Painting.{bytes_repaint}
use Rattle.pixels.proofs.Tests.{by_test}
use Rattle.bitmap.specs.Bitmaps.{row_bytes}
use Rattle.directory.specs.Directory.{entries, bytes_in, has_file}
use Rattle.files.specs.Files.{unused_of, deleted, purged, stored_byte}
use Rattle.file_laws.proofs.Written.{and_both}
use Rattle.state.specs.declared.Phase.{Phase}
use Rattle.state.specs.declared.Phase.TheVariants.{Idle, Inline, Upload}
use Rattle.state.specs.declared.Config.{Config}
use Rattle.state.specs.Editions.{older, patience}
use Rattle.state.specs.State.{no_args, start_text}
use Rattle.state.specs.Soundness.{every, inline_bytes, sound_phase, sound_inline, sound_upload}
use Rattle.state.specs.Canonical.{gathered, canonical_upload, canonical_phase}
use Rattle.state.specs.Fits.{PhaseFits}
use Rattle.rules.specs.World.{World, height, edition, port, used}
use Rattle.rules.specs.Numbers.{too_high}
use Rattle.rules.specs.Drawing.{ordered}
use Rattle.rules.specs.Pictures.{begin_inline, inline_data}
use Rattle.rules.specs.Files.{in_use, kind_of, lacks_space, begin_upload, confirmed, upload_data, upload_waits, delete_file, purge}
use Rattle.rules.specs.Sound.{Welcome}
use Rattle.rules.proofs.Good.{PhaseGood, TextGood, StoreGood, Parts, edition_known, put_framebuffer, put_text_lem, put_phase, put_store, put_both, Leaves, passes}
use Rattle.rules.proofs.GoodLists.{no_args_lem}
use Rattle.rules.proofs.GoodStore.{is_sort, nameable, tight, room, same_entries, stored_good, appended_good, deleted_good, purged_good}
use Rattle.rules.proofs.GoodText.{font_good}

-- a phase with no arguments
pub settled : (n : ℕ) (f : Phase) (s : List ℕ) → sound_phase n f ≡ true → canonical_phase f ≡ true → gathered f ≡ 0 → PhaseFits f → Welcome n f s → PhaseGood n f no_args s
unfolding every
settled n f s h c e k u = record { sound = h; canonical = c; zeros = rw e; fits = k; args = no_args_lem; welcome = u }

pub idle_good : (n : ℕ) (s : List ℕ) → PhaseGood n Idle no_args s
unfolding sound_phase canonical_phase
idle_good n s = settled n Idle s refl refl refl tt tt

-- ---- data in line: the bytes of a rectangle are some, and few

inline_some : (x1 y1 x2 y2 : ℕ) → 0 < inline_bytes x1 y1 x2 y2
inline_some x1 y1 x2 y2 =
    let a : 1 ≤ row_bytes x1 x2 = omega arith in
    let b : 1 ≤ y2 - y1 + 1 = omega arith in
    let c : 1 * 1 ≤ row_bytes x1 x2 * (y2 - y1 + 1) = mul-le-mul a b in omega (arith, c)

inline_few : (x1 y1 x2 y2 : ℕ) → x2 < 256 → y2 < 256 → inline_bytes x1 y1 x2 y2 ≤ 8192
inline_few x1 y1 x2 y2 h k =
    let a : row_bytes x1 x2 ≤ 32 = omega arith in
    let b : y2 - y1 + 1 ≤ 256 = omega arith in
    let c : row_bytes x1 x2 * (y2 - y1 + 1) ≤ 32 * 256 = mul-le-mul a b in omega (arith, c)

-- ---- uploads: a stored byte changes nothing that the tests ask for

still_fresh : {m u : ℕ} {s : List ℕ} → StoreGood m u s → (k n j c : ℕ) → in_use s k n ≡ false → in_use (stored_byte s u j c) k n ≡ false
still_fresh {m} {u} {s} g k n j c h = rw (same_entries g j c) h

pub still_room : {m u : ℕ} {s : List ℕ} → StoreGood m u s → (k z j c : ℕ) → tight s k z ≡ false → tight (stored_byte s u j c) k z ≡ false
still_room {m} {u} {s} g k z j c h = rw (same_entries g j c, length-set s (256 + u + j) c) h

start_text_lem : (h : ℕ) → h < 256 → TextGood (start_text h)
start_text_lem h k = omega arith

module _ {n : Config} {m : ℕ} {w : World} (p : Parts n m w) where
  pub corners_good : (x1 y1 x2 y2 : ℕ) → x1 < 256 → y1 < 256 → x2 < 256 → y2 < 256 → Leaves n m (begin_inline w x1 y1 x2 y2)
  unfolding begin_inline sound_phase sound_inline canonical_phase
  corners_good x1 y1 x2 y2 a b c d =
      passes n m (not (ordered x1 y1 x2 y2)) 18 _ (omega arith) (λ h.
      put_phase p (settled (edition w) (Inline x1 y1 x2 y2 0) w.store (rw (not-false (ordered x1 y1 x2 y2) h, lt-ltb 0 (inline_bytes x1 y1 x2 y2) (inline_some x1 y1 x2 y2))) refl refl (a, b, c, d, omega arith) tt))

  pub inline_good : (x1 y1 x2 y2 d b : ℕ) → PhaseGood (edition w) (Inline x1 y1 x2 y2 d) (port w).line.args w.store → Leaves n m (inline_data w x1 y1 x2 y2 d b)
  unfolding inline_data sound_phase sound_inline canonical_phase
  inline_good x1 y1 x2 y2 d b q =
      let f = q.fits in
      let o = (and_both (ordered x1 y1 x2 y2) (ltb d (inline_bytes x1 y1 x2 y2)) q.sound).0 in
      put_phase (put_framebuffer p (bytes_repaint _ _))
      (by_test (λ (f : Phase). PhaseGood (edition w) f no_args w.store) (ltb (d + 1) (inline_bytes x1 y1 x2 y2)) _ _
      (λ h. settled (edition w) (Inline x1 y1 x2 y2 (d + 1)) w.store (rw (o, h)) refl refl
      (f.0, f.1, f.2, f.3, omega (arith, ltb-true (d + 1) (inline_bytes x1 y1 x2 y2) h, inline_few x1 y1 x2 y2 f.2 f.3)) tt)
      (λ _. idle_good (edition w) w.store))

  pub upload_good : (k i z : ℕ) → is_sort k ≡ true → k < 256 → i < 65536 → (edition w ≡ older → i < 256) → Leaves n m (begin_upload w k i z)
  unfolding begin_upload sound_phase sound_upload canonical_phase canonical_upload
  upload_good k i z e hk hi ho =
      by_test (Leaves n m) (too_high i) _ _ (λ _. omega arith) (λ t.
      by_test (Leaves n m) (in_use w.store k i) _ _ (λ _. omega arith) (λ u.
      let end = bytes_in (entries w.store) in
      let free = unused_of w.store (used w) in
      by_test (Leaves n m) (lacks_space end free (kind_of (edition w) k) z) _ _ (λ _. omega arith) (λ v.
      let r = room end free (kind_of (edition w) k) z v in
      let v' : tight w.store (kind_of (edition w) k) z ≡ false = rw p.store.sum at v in
      put_phase p (settled (edition w) (Upload k i z 0 false 0 0) w.store (rw (lt-ltb 0 z (omega (arith, eqb-false z 0 r.some)))) (rw e) refl
      (hk, hi, r.small, omega arith, omega arith, omega arith) (nameable (edition w) i (edition_known p) t ho, u, v')))))

  -- it begins to wait anew
  again : (k i z s : ℕ) (v : Bool) (c t : ℕ) → sound_phase (edition w) (Upload k i z s v c t) ≡ true → sound_upload z s 0 ≡ true
  unfolding sound_phase sound_upload
  again k i z s v c t h = rw (and_both (ltb s z) (ltb t patience) h).0

  confirmed_good : (k i z s c t : ℕ) → PhaseGood (edition w) (Upload k i z s true c t) (port w).line.args w.store → Parts n m (confirmed w k i z s c)
  unfolding sound_phase sound_upload canonical_phase canonical_upload
  confirmed_good k i z s c t q =
      let f = q.fits in
      let u = q.welcome in
      let e = (and_both (is_sort k) true q.canonical).0 in
      let g = stored_good p.store s c f.4 in
      let x = still_fresh p.store k i s c u.1 in
      let y = still_room p.store (kind_of (edition w) k) z s c u.2 in
      by_test (Parts n m) (ltb (s + 1) z) _ _
      (λ h. put_both p g (settled (edition w) (Upload k i z (s + 1) false 0 0) (stored_byte w.store (used w) s c) (rw h) (rw e) refl
      (f.0, f.1, f.2, omega (arith, ltb-true (s + 1) z h, f.2), omega arith, omega arith) (u.0, x, y)))
      (λ _. put_both p (appended_good g (edition w) k i z (edition_known p) e u.0 f.2 x y) (idle_good (edition w) _))

  pub data_good : (k i z s : ℕ) (v : Bool) (c t b : ℕ) → PhaseGood (edition w) (Upload k i z s v c t) (port w).line.args w.store → b < 256 → Leaves n m (upload_data w k i z s v c b)
  unfolding upload_data sound_phase canonical_phase canonical_upload
  data_good k i z s false c t b q h =
      let f = q.fits in
      let e = (and_both (is_sort k) (eqb c 0) q.canonical).0 in
      put_phase p (settled (edition w) (Upload k i z s true b 0) w.store (again k i z s false c t q.sound) (rw e) refl (f.0, f.1, f.2, f.3, h, omega arith) q.welcome)
  data_good k i z s true c t b q h = passes n m (not (eqb b 1)) 26 _ (omega arith) (λ _. confirmed_good k i z s c t q)

  -- time: what is not dropped has not waited too long
  pub waits_good : (k i z s : ℕ) (v : Bool) (c t ms : ℕ) → PhaseGood (edition w) (Upload k i z s v c t) (port w).line.args w.store → Leaves n m (upload_waits w k i z s v c t ms)
  unfolding upload_waits sound_phase sound_upload canonical_phase
  waits_good k i z s v c t ms q =
      let f = q.fits in
      by_test (Leaves n m) (leb patience (t + ms)) _ _ (λ _. omega arith) (λ h.
      let l = leb-false patience (t + ms) h in
      put_phase p (settled (edition w) (Upload k i z s v c (t + ms)) w.store (rw ((and_both (ltb s z) (ltb t patience) q.sound).0, lt-ltb (t + ms) patience l)) q.canonical refl
      (f.0, f.1, f.2, f.3, f.4, omega (arith, l)) q.welcome))

  -- outside a command
  pub delete_good : ((s : List ℕ) → PhaseGood (edition w) (port w).line.phase (port w).line.args s) → (t i : ℕ) → Leaves n m (delete_file w t i)
  unfolding delete_file
  delete_good f t i =
      passes n m (leb 2 t) 20 _ (omega arith) (λ _. passes n m (too_high i) 19 _ (omega arith) (λ _. passes n m (not (has_file (entries w.store) (t + 1) i)) 22 _ (omega arith) (λ h.
      let q = put_store p (deleted_good p.store (t + 1) i (not-false (has_file (entries w.store) (t + 1) i) h)) (f (deleted w.store (t + 1) i)) in
      by_test (Parts n m) (eqb (t + 1) 1 && eqb i (port w).text.font) _ _ (λ _. put_text_lem q (font_good p.port_good.text 1 (omega arith))) (λ _. q))))

  pub purge_good : ((s : List ℕ) → PhaseGood (edition w) (port w).line.phase (port w).line.args s) → (a b : ℕ) → Leaves n m (purge w a b)
  unfolding purge
  purge_good f a b =
      passes n m (not (eqb a 89 && eqb b 33)) 20 _ (omega arith) (λ _.
      put_text_lem (put_store p (purged_good p.store) (f (purged w.store))) (start_text_lem (height w) (omega (arith, p.config.fits))))

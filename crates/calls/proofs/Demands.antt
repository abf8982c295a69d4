-- WHAT IS PROMISED OF A LIST OF CALLS, in memory as a caller lends it.
-- Assumes nothing.
use mathlib.Core.Path.{◌≡◌, refl, sym, ap, ◌∙◌, subst}
use mathlib.Core.List.{List, [], ◌∷◌}
use mathlib.Core.Bool.{Bool, true, false, cond, not, ◌&&◌, ◌||◌, true≢false}
use Prim.Native.Nat.{ℕ, zero, suc, ◌<◌, ◌≤◌}
use native.Mathlib.Omega.{arith}
use lib.Dec.{eqb, leb, ltb}
use lib.ListN.{length, get_or, take, replicate, length-replicate}
use borrow.Author.Tests.{eq-eqb, eqb-true, leb-true}
use Rattle.canvas.specs.Sizes.{is_height, length_for}
use Rattle.pixels.proofs.Tests.{by_test}
use Rattle.directory.specs.Directory.{entries, sizes_in, valid_of}
use Rattle.state.specs.declared.Phase.{Phase}
use Rattle.state.specs.declared.Phase.TheVariants.{Idle, Prefix, Gathering, Inline, Upload}
use Rattle.refusals.specs.Refusals.{no_glyph}
use Rattle.state.specs.declared.Refusals.{Refusals}
use Rattle.state.specs.declared.State.{State}
use Rattle.state.specs.declared.Config.{Config}
use Rattle.state.specs.Editions.{is_edition}
use Rattle.state.specs.Soundness.{sound_config}
use Rattle.state.specs.State.{config}
use Rattle.queue.specs.Record as queue-record
use Rattle.queue.specs.Record.{Bytes}
use Rattle.record.specs.Layout.{record_size}
use Rattle.record.specs.Reading.{height_in, edition_in, config_in, used_in, decode_of}
use Rattle.record.specs.Writing.{encode_of}
use Rattle.record.specs.Record.{recognised, sound_record}
use Rattle.record.proofs.Bytes.{decoded_fits}
use Rattle.record.proofs.Same.{both}
use Rattle.record.proofs.Round.{decode_encode, encode_decode, encoded_sound, sound_recognised, passed, config_fits, panel_used_lem, shown}
use Rattle.rules.specs.World.{World, height, edition, port}
use Rattle.rules.specs.Files.{in_use, kind_of}
use Rattle.rules.proofs.GoodStore.{tight}
use Rattle.rules.specs.Step.{Input, outcome, step}
use Rattle.rules.specs.History.{last_in, last_of}
use Rattle.rules.specs.Calls.{run, taken}
use Rattle.rules.specs.Chunks.{joined, EnoughAll}
use Rattle.rules.specs.Sound.{store_most, Comes, ComesAll, highest, Welcome}
use Rattle.rules.proofs.ByByte.{demand_3}
use Rattle.rules.proofs.Replies.{said_fits}
use Rattle.rules.proofs.Counts.{refusal_count, last_refusal}
use Rattle.rules.proofs.Missing.{never_28}
use Rattle.rules.proofs.GoodByte.{good_step, good_start, take_comes, config_stays, framebuffer_length, store_length}
use Rattle.calls.specs.Memory.{framebuffer_fits, Memory, store_fits, upload_refused, checked, loaded, saved, Kept}
use Rattle.calls.specs.Feed.{Fed, fed, fed_inputs, feed_of}
use Rattle.calls.specs.Line.{both_sound}
use Rattle.calls.specs.Start.{emptied, start_checked, start_of, start_world}
use Rattle.calls.specs.List.{Board, board, Call, consumed_all, chunks_in}
use Rattle.calls.specs.Bytes.{BytesInAll, ByteMemory}
use Rattle.calls.specs.Served.{Served}
use Rattle.calls.proofs.Inside.{bars_inside, consumed_comes}
use Rattle.calls.proofs.LineCalls.{emptied_sound}
use Rattle.calls.proofs.Lists.{both_true, good_run, fed_saved, streamed, consumed_whole}

-- ---- worlds that every check passes

pub kept_step : (w : World) (i : Input) → Kept w → Comes i → Kept (step w i)
kept_step w i k h =
    record {
      good = good_step w i k.good h;
      framebuffer = framebuffer_length w i k.good ∙ k.framebuffer ∙ ap (λ (c : Config). length_for c.height) (sym (config_stays w i k.good h));
      store = rw (store_length w i k.good h) k.store;
    }

back : (w : World) → Kept w → decode_of (encode_of w.state) ≡ w.state
back w k = decode_encode w.state k.good.fits

record_sound : (w : World) → Kept w → sound_record (encode_of w.state) ≡ true
record_sound w k = encoded_sound w.state k.good.fits k.good.sound k.good.thresholds k.good.canonical

height_back : (w : World) → Kept w → height_in (encode_of w.state) ≡ height w
height_back w k = (shown w.state k.good.fits).height

edition_back : (w : World) → Kept w → edition_in (encode_of w.state) ≡ edition w
edition_back w k = (shown w.state k.good.fits).edition

all_false : (a b c : Bool) → a ≡ false → b ≡ false → c ≡ false → (a || b || c) ≡ false
all_false a b c e f g = rw (e, f, g)

welcome_passes : (e : ℕ) (f : Phase) (s : List ℕ) → Welcome e f s → upload_refused e s f ≡ false
welcome_passes e Idle s h = refl
welcome_passes e Prefix s h = refl
welcome_passes e (Gathering code got) s h = refl
welcome_passes e (Inline x1 y1 x2 y2 came) s h = refl
welcome_passes e (Upload sort number size stored waiting held waited) s h =
    all_false (ltb (highest e) number) (in_use s sort number) (tight s (kind_of e sort) size) h.0 h.1 h.2

used_back : (w : World) → Kept w → used_in (encode_of w.state) ≡ sizes_in (entries w.store)
used_back w k = (shown w.state k.good.fits).used ∙ k.good.sum

pass : (w : World) → Kept w → checked (saved w) ≡ 0
unfolding checked
pass w k =
    let d = back w k in
    let u = welcome_passes (edition w) w.state.port.line.phase w.store k.good.upload in
    let s = record_sound w k in
    rw (
      sound_recognised (encode_of w.state) s,
      height_back w k,
      edition_back w k,
      eq-eqb (length w.framebuffer) (length_for (height w)) k.framebuffer,
      k.store,
      s,
      k.good.store.valid,
      d,
      u,
      eq-eqb (used_in (encode_of w.state)) (sizes_in (entries w.store)) (used_back w k),
    )

pub kept_run : (w : World) (l : List Input) → Kept w → ComesAll l → Kept (run w l)
kept_run = good_run Kept kept_step back pass record_sound

config_run : (w : World) (l : List Input) → Kept w → ComesAll l → (run w l).state.config ≡ w.state.config
unfolding run
config_run w [] k h = refl
config_run w (i ∷ l) k h = config_run (step w i) l (kept_step w i k h.0) h.1 ∙ config_stays w i k.good h.0

never_run : (w : World) (l : List Input) (n : ℕ) → Kept w → ComesAll l → (n ≡ no_glyph → ⊥) → last_of w l n ≡ no_glyph → ⊥
unfolding last_of
never_run w [] n k h f = f
never_run w (i ∷ l) n k h f = never_run (step w i) l (last_in (outcome w i) n) (kept_step w i k h.0) h.1 (never_28 w i n k.good h.0 f)

config_back : (w : World) → Kept w → config_in (encode_of w.state) ≡ w.state.config
config_back w k = rw (height_back w k, edition_back w k)

-- written and read back
pub loaded_saved : (w : World) → Kept w → loaded (saved w) ≡ w
loaded_saved w k = rw (back w k)

-- what a piece comes to, and when the line is served
pub fed_kept : (w : World) (p : List Input) (room : ℕ) → Kept w → feed_of (saved w) p room ≡ fed_inputs w p (taken w room p)
fed_kept = fed_saved Kept kept_step back pass record_sound

pub line_kept : (w : World) (q : List ℕ) → Kept w → both_sound (encode_of w.state) q ≡ queue-record.sound_record q
line_kept w q k = rw (record_sound w k)

-- ---- memory that passes the checks is such a world, written

never : (k : ℕ) → suc k ≡ 0 → ⊥
never k e = omega (arith, e)

-- a check that did not answer
unanswered : (t : Bool) (k r : ℕ) → cond (not t) (suc k) r ≡ 0 → (t ≡ true) × (r ≡ 0)
unanswered true k r e = (refl, e)
unanswered false k r e = absurd (never k e)

neither : (v u : Bool) → (not v || u) ≡ false → (v ≡ true) × (u ≡ false)
neither true u e = (refl, e)
neither false u e = absurd (true≢false e)

-- one that asks whether something is wrong
no_answer : (t : Bool) (k r : ℕ) → cond t (suc k) r ≡ 0 → (t ≡ false) × (r ≡ 0)
no_answer true k r e = absurd (never k e)
no_answer false k r e = (refl, e)

pub record Checks (m : Memory) : Type 0 where
  pub framebuffer : length m.framebuffer ≡ length_for (height_in m.state)
  pub store : store_fits m.store ≡ true
  pub state : sound_record m.state ≡ true
  pub valid : valid_of m.store ≡ true
  pub upload : upload_refused (edition_in m.state) m.store (decode_of m.state).port.line.phase ≡ false
  pub sum : used_in m.state ≡ sizes_in (entries m.store)

pub checks : (m : Memory) → checked m ≡ 0 → Checks m
unfolding checked
checks m e =
    let r = unanswered (recognised m.state) 2 _ e in
    let a = unanswered (framebuffer_fits (height_in m.state) m.framebuffer) 0 _ r.1 in
    let b = unanswered (store_fits m.store) 1 _ a.1 in
    let c = unanswered (sound_record m.state) 2 _ b.1 in
    let d = no_answer _ 3 _ c.1 in
    let f = neither (valid_of m.store) _ d.0 in
    let s = unanswered (eqb (used_in m.state) (sizes_in (entries m.store))) 2 0 d.1 in
    record {
      framebuffer = eqb-true (length m.framebuffer) (length_for (height_in m.state)) a.0;
      store = b.0;
      state = c.0;
      valid = f.0;
      upload = f.1;
      sum = eqb-true (used_in m.state) (sizes_in (entries m.store)) s.0;
    }

none_of : (a b c : Bool) → (a || b || c) ≡ false → (a ≡ false) × (b ≡ false) × (c ≡ false)
none_of true b c e = absurd (true≢false e)
none_of false true c e = absurd (true≢false e)
none_of false false c e = (refl, refl, e)

passes_welcome : (e : ℕ) (f : Phase) (s : List ℕ) → upload_refused e s f ≡ false → Welcome e f s
passes_welcome e Idle s h = tt
passes_welcome e Prefix s h = tt
passes_welcome e (Gathering code got) s h = tt
passes_welcome e (Inline x1 y1 x2 y2 came) s h = tt
passes_welcome e (Upload sort number size stored waiting held waited) s h = none_of (ltb (highest e) number) (in_use s sort number) (tight s (kind_of e sort) size) h

store_most_lem : (s : List ℕ) → store_fits s ≡ true → length s ≤ store_most
store_most_lem s e = leb-true (length s) store_most (both (leb 1024 (length s)) (leb (length s) store_most) e).1

pub checked_kept : (m : Memory) → ByteMemory m → checked m ≡ 0 → Kept (loaded m)
unfolding decode_of
checked_kept m b e =
    let c = checks m e in
    let p = passed m.state c.state in
    record {
      good = record {
        sound = p.sound;
        thresholds = p.thresholds;
        canonical = p.canonical;
        fits = decoded_fits m.state b.state;
        store = record { bytes = b.store; valid = c.valid; most = store_most_lem m.store c.store };
        framebuffer = b.framebuffer;
        upload = passes_welcome (edition_in m.state) (decode_of m.state).port.line.phase m.store c.upload;
        sum = sym (panel_used_lem m.state) ∙ c.sum;
      };
      framebuffer = c.framebuffer;
      store = c.store;
    }

pub saved_loaded : (m : Memory) → checked m ≡ 0 → saved (loaded m) ≡ m
saved_loaded m e = rw (encode_decode m.state (checks m e).state)

-- ---- any list of calls

served_saved : (w : World) (q : List ℕ) (cs : List Call) → Kept w → BytesInAll cs → Served (board (saved w) q) cs
served_saved w q cs k h =
    let s = streamed Kept kept_step back pass record_sound w q cs k h in
    let d = back w k in
    let l = consumed_all (board (saved w) q) cs in
    let v = run w l in
    let z = k.good.fits.panel.sixteen in
    let c = k.good.fits.port.refusals.count in
    let e = ap (λ (m : Memory). (decode_of m.state).port.refusals) s.left ∙ ap (λ (t : State). t.port.refusals) (back v s.kept) in
    let i = ap (λ (r : Refusals). r.last) e ∙ last_refusal w l z c in
    let b = consumed_comes (board (saved w) q) cs h in
    record {
      stream = rw d s.left;
      reads = rw d (ap loaded s.left ∙ loaded_saved v s.kept);
      sent = rw d s.sent;
      bars = rw d (demand_3 w z l);
      inside = rw d (λ n. bars_inside (run w (take n l)) (kept_run w (take n l) k (take_comes n l b)));
      count = rw d (ap (λ (r : Refusals). r.count) e ∙ refusal_count w l z c);
      last = rw d i;
      never_28 = rw d (λ f g. never_run w l (port w).refusals.last k b f (sym i ∙ g));
      config = ap (λ (m : Memory). config_in m.state) s.left ∙ config_back v s.kept ∙ config_run w l k b ∙ sym (config_back w k);
      used = rw s.left (used_back v s.kept);
      used_along = rw d (λ n. (kept_run w (take n l) k (take_comes n l b)).good.sum);
      again = ap checked s.left ∙ pass v s.kept;
      line_again = λ f. both_true _ _ (ap (λ (m : Memory). sound_record m.state) s.left ∙ record_sound v s.kept) (s.queue_kept f);
    }

-- THE THEOREM, from any memory that passes the checks and any queue record
pub calls_served : (m : Memory) (q : List ℕ) (cs : List Call) → ByteMemory m → checked m ≡ 0 → BytesInAll cs → Served (board m q) cs
calls_served m q cs b e h = subst (λ (n : Memory). Served (board n q) cs) (saved_loaded m e) (served_saved (loaded m) q cs (checked_kept m b e) h)

-- DEMAND 2: with two free reply bytes before each input the pieces are consumed whole, whatever calls come between
pub pieces_whole : (m : Memory) (q : List ℕ) (cs : List Call) → ByteMemory m → checked m ≡ 0 → BytesInAll cs → EnoughAll (loaded m) (chunks_in cs)
    → consumed_all (board m q) cs ≡ joined (chunks_in cs)
pieces_whole m q cs b e h t =
    subst (λ (n : Memory). consumed_all (board n q) cs ≡ joined (chunks_in cs)) (saved_loaded m e)
    (consumed_whole Kept kept_step back pass record_sound (loaded m) q cs (checked_kept m b e) h t)

-- a piece refused with 1 to 4 alters nothing, consumes nothing and sends nothing
pub refused_untouched : (m : Memory) (p : List Input) (room : ℕ) → eqb (checked m) 0 ≡ false → feed_of m p room ≡ fed m (checked m) 0 []
unfolding feed_of
refused_untouched m p room e = rw e

-- one that passes answers 0 where it is consumed whole, and 5 where it is not
pub passed_answers : (m : Memory) (p : List Input) (room : ℕ) → checked m ≡ 0 → (feed_of m p room).answer ≡ cond (eqb (feed_of m p room).consumed (length p)) 0 5
unfolding feed_of
passed_answers m p room e = rw e

-- no piece sends more than its reply room
pub sent_fits : (m : Memory) (p : List Input) (room : ℕ) → length (feed_of m p room).sent ≤ room
unfolding feed_of
sent_fits m p room = by_test (λ (f : Fed). length f.sent ≤ room) (eqb (checked m) 0) _ _ (λ _. said_fits (loaded m) room p) (λ _. omega arith)

-- ---- the start

zeros : (n i : ℕ) → get_or (replicate n 0) i 0 < 256
zeros zero i = omega arith
zeros (suc n) zero = omega arith
zeros (suc n) (suc i) = zeros n i

pub record StartChecks (d : Config) (m : Memory) (q : List ℕ) : Type 0 where
  pub known : sound_config d ≡ true
  pub queue_size : length q ≡ 85
  pub store : store_fits m.store ≡ true
  pub valid : valid_of m.store ≡ true

start_checks : (h : Config) (m : Memory) (q : List ℕ) → start_checked h m q ≡ 0 → StartChecks h m q
unfolding start_checked sound_config
start_checks h m q e =
    let c = unanswered (is_height h.height && eqb (length m.state) record_size && eqb (length q) queue-record.record_size) 2 _ e in
    let a = unanswered (framebuffer_fits h.height m.framebuffer) 0 _ c.1 in
    let b = unanswered (store_fits m.store) 1 _ a.1 in
    let f = unanswered (is_edition h.edition) 2 _ b.1 in
    let d = both (is_height h.height && eqb (length m.state) record_size) (eqb (length q) queue-record.record_size) c.0 in
    record {
      known = rw (both (is_height h.height) (eqb (length m.state) record_size) d.0).0 f.0;
      queue_size = eqb-true (length q) 85 d.1;
      store = b.0;
      valid = (unanswered (valid_of m.store) 3 0 f.1).0;
    }

pub start_kept : (h : Config) (m : Memory) (q : List ℕ) → Bytes m.store → start_checked h m q ≡ 0 → Kept (start_world h m.store)
start_kept h m q b e =
    let c = start_checks h m q e in
    let g : List ℕ = replicate (length_for h.height) 0 in
    record {
      good = good_start h g m.store c.known (config_fits h c.known) (zeros (length_for h.height)) b c.valid (store_most_lem m.store c.store);
      framebuffer = length-replicate {A = ℕ} (length_for h.height) 0;
      store = c.store;
    }

-- after a start that answers 0 every check passes, and the world is the start's
pub start_passes : (h : Config) (m : Memory) (q : List ℕ) → Bytes m.store → start_checked h m q ≡ 0
    → (checked (start_of h m q).left ≡ 0) × (loaded (start_of h m q).left ≡ start_world h m.store)
unfolding start_of
start_passes h m q b e =
    let k = start_kept h m q b e in
    rw e (pass (start_world h m.store) k, rw (back (start_world h m.store) k))

-- and the queue record is sound
pub start_queue : (h : Config) (m : Memory) (q : List ℕ) → start_checked h m q ≡ 0 → queue-record.sound_record (start_of h m q).queue ≡ true
unfolding start_of
start_queue h m q e = rw e (emptied_sound q (start_checks h m q e).queue_size)

-- what it leaves is that world, written, and an empty queue
pub start_left : (h : Config) (m : Memory) (q : List ℕ) → start_checked h m q ≡ 0 → board (saved (start_world h m.store)) (emptied q) ≡ board (start_of h m q).left (start_of h m q).queue
unfolding start_of
start_left h m q e = rw e

pub started_whole : (h : Config) (m : Memory) (q : List ℕ) (cs : List Call) → Bytes m.store → start_checked h m q ≡ 0 → BytesInAll cs → EnoughAll (start_world h m.store) (chunks_in cs)
    → consumed_all (board (start_of h m q).left (start_of h m q).queue) cs ≡ joined (chunks_in cs)
started_whole h m q cs b e k t =
    subst (λ (x : Board). consumed_all x cs ≡ joined (chunks_in cs)) (start_left h m q e)
    (consumed_whole Kept kept_step back pass record_sound (start_world h m.store) (emptied q) cs (start_kept h m q b e) k t)

-- THE THEOREM, from a start that answers 0
pub started_served : (h : Config) (m : Memory) (q : List ℕ) (cs : List Call) → Bytes m.store → start_checked h m q ≡ 0 → BytesInAll cs
    → Served (board (start_of h m q).left (start_of h m q).queue) cs
unfolding start_of
started_served h m q cs b e k =
    rw e (served_saved (start_world h m.store) (emptied q) cs (start_kept h m q b e) k)

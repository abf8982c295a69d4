-- The loop over a piece: what has been done so far, and what is left to take.
-- Assumes nothing.
use mathlib.Core.Path.{◌≡◌, ◌∙◌, refl, sym, ap, subst}
use mathlib.Core.Bool.{true}
use mathlib.Core.List.{List, [], ◌∷◌, ◌++◌}
use Prim.Native.Nat.{ℕ, zero, suc, ◌+◌, ◌-◌, ◌<◌, ◌≤◌}
use native.Mathlib.Omega.{arith}
use lib.ListN.{length, get_or, take, drop, replicate, length-append, length-drop, take-append-drop, drop_of_length-le}
use lib.Seq.{sets, take_all, length-sets, length-take-le, take-add, drop-cons, drop-drop}
use borrow.Author.Tests.{eq-eqb, ne_eqb, eqb-true, lt-ltb}
use Rattle.file_laws.proofs.Written.{and_both}
use Rattle.state.specs.declared.Phase.{Phase}
use Rattle.state.specs.declared.Phase.TheVariants.{Idle}
use Rattle.state.specs.declared.Line.{Line}
use Rattle.state.specs.declared.Port.{Port}
use Rattle.state.specs.declared.Panel.{Panel}
use Rattle.state.specs.State.{state, line_of, no_args}
use Rattle.state.specs.Soundness.{every}
use Rattle.state.specs.Canonical.{is_zero, canonical_phase, canonical_arguments, canonical_port, canonical_panel, canonical_state}
use Rattle.record.specs.Reading.{panel_of}
use Rattle.record.specs.Writing.{panel_bytes}
use Rattle.record.proofs.Back.{panel_back}
use Rattle.panel.proofs.Laws.{revised_whole}
use Rattle.rules.specs.World.{World, world, edition, port, panel, with_port, Outcome as Ruled}
use Rattle.rules.specs.Step.{obey, outside, Input, byte, outcome, after, sent}
use Rattle.rules.specs.Calls.{bytes, run, said, taken}
use Rattle.rules.proofs.Streams.{run_append, said_append, bytes_length, bytes_take, bytes_drop}
use Rattle.rules.specs.Sound.{ComesAll}
use Rattle.rules.proofs.GoodByte.{take_comes}
use Rattle.outcome.specs.Contract.{Held, world_of, Came}
use Rattle.calls.specs.Memory.{Kept}
use Rattle.calls.proofs.Demands.{kept_run}
use Rattle.whole_command.specs.Whole.{command_in, fixed_arguments, whole_in}
use Rattle.whole_command.proofs.Whole.{sets_append}
use Rattle.whole_command.proofs.One.{AsOne, whole_one, input_one, whole_fits}
use Rattle.feed.specs.Running.{Written, Ran}

-- ---- so far

pub record Feeding (w₀ : World) (p : List Input) (r₀ : List ℕ) (w : World) (r : List ℕ) (at i : ℕ) : Type 0 where
  pub kept : Kept w
  pub within : i ≤ length p
  pub next : w ≡ run w₀ (take i p)
  pub sent : r ≡ sets r₀ 0 (said w₀ (take i p))
  pub long : at ≡ length (said w₀ (take i p))
  pub room : at ≤ length r₀
  pub left : taken w₀ (length r₀) p ≡ i + taken w (length r₀ - at) (drop i p)

pub feeding_start : (w : World) (p : List Input) (r : List ℕ) → Kept w → Feeding w p r w r 0 0
unfolding run said
feeding_start w p r k =
    let n : length r - 0 ≡ length r = omega arith in
    let z : taken w (length r) p ≡ 0 + taken w (length r) p = omega arith in
    record { kept = k; within = omega arith; next = refl; sent = refl; long = refl; room = omega arith; left = z ∙ ap (λ (m : ℕ). 0 + taken w m p) (sym n) }

pub room_known : {w₀ w : World} {p : List Input} {r₀ r : List ℕ} {at i : ℕ} → Feeding w₀ p r₀ w r at i → (length r ≡ length r₀) × (at ≤ length r)
room_known {w₀ = w₀} {p = p} {r₀ = r₀} {r = r} {i = i} f =
    let n : length r ≡ length r₀ = ap length f.sent ∙ length-sets r₀ 0 (said w₀ (take i p)) in
    (n, omega (arith, n, f.room))

taken_stop : (w : World) (room : ℕ) (i : Input) (l : List Input) → room < 2 → taken w room (i ∷ l) ≡ 0
unfolding taken
taken_stop w room i l h = rw (lt-ltb room 2 h)

taken_none : (w : World) (room : ℕ) → taken w room [] ≡ 0
unfolding taken
taken_none w room = refl

further : (a m n k : ℕ) → n ≡ m → a + (n + k) ≡ a + m + k
further a m n k e = omega (arith, e)

-- ---- bytes obeyed at once

zeros_are : (l : List ℕ) → every is_zero l ≡ true → l ≡ replicate (length l) 0
unfolding every
zeros_are [] e = refl
zeros_are (a ∷ l) e = let p = and_both (is_zero a) (every is_zero l) e in rw (eqb-true a 0 p.0) (ap (λ (m : List ℕ). 0 ∷ m) (zeros_are l p.1))

-- outside a command no argument stands
calm : (w : World) → Kept w → (port w).line.phase ≡ Idle → outside w ≡ w
unfolding canonical_state canonical_port
calm w k f =
    let t : Port = port w in
    let c = (and_both (canonical_port t) (canonical_panel (panel w)) k.good.canonical).0 in
    let z = (and_both (canonical_phase t.line.phase) (canonical_arguments t.line.phase t.line.args) c).1 in
    let a : t.line.args ≡ no_args =
    zeros_are t.line.args (subst (λ (x : Phase). canonical_arguments x t.line.args ≡ true) f z) ∙ ap (λ (n : ℕ). replicate n 0) k.good.fits.port.args.six in
    ap (λ (x : Line). with_port w (record { line = x; text = t.text; drawing = t.drawing; flow = t.flow; refusals = t.refusals }))
    (sym (ap (λ (x : Phase). line_of x t.line.args) f ∙ ap (line_of Idle) a))

drop_comes : (n : ℕ) (l : List Input) → ComesAll l → ComesAll (drop n l)
drop_comes zero l h = h
drop_comes (suc n) [] h = h
drop_comes (suc n) (i ∷ l) h = drop_comes n l h.1

-- what is lent of a piece at byte i: all that is left
abbrev rest : List ℕ → ℕ → List ℕ
rest p i = take (length p - i) (drop i p)

rest_is : (p : List ℕ) (i : ℕ) → rest p i ≡ drop i p
rest_is p i = take_all (length p - i) (drop i p) (omega (arith, length-drop i p))

pub one_kept : (w : World) (p : List Input) (i n : ℕ) → Kept w → {v : World} {l : List ℕ} → ComesAll p → AsOne w (take n (drop i p)) v l → Kept v
one_kept w p i n k b o = subst Kept o.next (kept_run w (take n (drop i p)) k (take_comes n (drop i p) (drop_comes i p b)))

-- so many bytes of a piece from byte i on
some_bytes : (p : List ℕ) (i n : ℕ) → bytes (take n (drop i p)) ≡ take n (drop i (bytes p))
some_bytes p i n = bytes_take n (drop i p) ∙ ap (take n) (bytes_drop i p)

-- a command that stands whole
pub command_one : (w : World) (p : List ℕ) (i n : ℕ) → Kept w → 0 < whole_in (edition w) (port w).line.phase (rest p i) → n ≡ whole_in (edition w) (port w).line.phase (rest p i)
    → AsOne w (take n (drop i (bytes p))) (after w (obey (command_in (rest p i)) (fixed_arguments (edition w) (rest p i)) w))
    (sent (obey (command_in (rest p i)) (fixed_arguments (edition w) (rest p i)) w))
command_one w p i n k h e =
    let r : List ℕ = rest p i in
    subst (λ (x : List Input). AsOne w x (after w (obey (command_in r) (fixed_arguments (edition w) r) w)) (sent (obey (command_in r) (fixed_arguments (edition w) r) w)))
    (ap (λ (m : ℕ). bytes (take m r)) (sym e) ∙ ap (λ (x : List ℕ). bytes (take n x)) (rest_is p i) ∙ some_bytes p i n) (whole_one w r (calm w k) h)

pub command_fits : (p : List ℕ) (i n d : ℕ) (f : Phase) → i < length p → 0 < whole_in d f (rest p i) → n ≡ whole_in d f (rest p i) → i + n ≤ length p
command_fits p i n d f h there e =
    let long : length (rest p i) ≡ length p - i = ap length (rest_is p i) ∙ length-drop i p in
    omega (arith, e, long, whole_fits d f (rest p i) there)

-- a byte
pub byte_there : (w : World) (p : List ℕ) (i b : ℕ) → i < length p → b ≡ get_or p i 0 → AsOne w (take 1 (drop i (bytes p))) (after w (outcome w (byte b))) (sent (outcome w (byte b)))
unfolding bytes
byte_there w p i b h e =
    let d : drop i (bytes p) ≡ byte b ∷ bytes (drop (suc i) p) = sym (bytes_drop i p) ∙ ap bytes (drop-cons p i 0 h) ∙ ap (λ (x : ℕ). byte x ∷ bytes (drop (suc i) p)) (sym e) in
    rw d (input_one w (byte b))

pub feeding_more : {w₀ w v' : World} {p : List Input} {r₀ r l' : List ℕ} {at i : ℕ} (n : ℕ) (v : World) (l q : List ℕ) (at' : ℕ) → Feeding w₀ p r₀ w r at i → ComesAll p
    → AsOne w (take n (drop i p)) v' l' → i + n ≤ length p → 2 ≤ length r - at → v ≡ v' → l ≡ l' → at' ≡ at + length l → q ≡ sets r at l → Feeding w₀ p r₀ v q at' (i + n)
feeding_more {w₀} {w} {v'} {p} {r₀} {r} {l'} {at} {i} n v l q at' f bytes o fits free ev el ea eq =
    let s : List Input = take n (drop i p) in
    let L : List ℕ = said w₀ (take i p) in
    let known = room_known f in
    let sized : length s ≡ n = length-take-le n (drop i p) (omega (arith, length-drop i p)) in
    let t : take (i + n) p ≡ take i p ++ s = take-add i n p in
    let d : drop i p ≡ s ++ drop (i + n) p = sym (take-append-drop n (drop i p)) ∙ ap (λ (x : List Input). s ++ x) (drop-drop n i p) in
    let sd : said w₀ (take (i + n) p) ≡ L ++ l =
    ap (said w₀) t ∙ said_append w₀ (take i p) s ∙ ap (λ (x : World). L ++ said x s) (sym f.next) ∙ ap (λ (x : List ℕ). L ++ x) (o.sends ∙ sym el) in
    let nx : v ≡ run w₀ (take (i + n) p) =
    ev ∙ sym o.next ∙ ap (λ (x : World). run x s) f.next ∙ sym (run_append w₀ (take i p) s) ∙ ap (run w₀) (sym t) in
    let at0 : at ≡ 0 + length L = omega (arith, f.long) in
    let st : q ≡ sets r₀ 0 (said w₀ (take (i + n) p)) =
    eq ∙ ap (λ (x : List ℕ). sets x at l) f.sent ∙ ap (λ (k : ℕ). sets (sets r₀ 0 L) k l) at0 ∙ sym (sets_append r₀ 0 L l) ∙ ap (sets r₀ 0) (sym sd) in
    let lg : at' ≡ length (said w₀ (take (i + n) p)) = ea ∙ ap (λ (k : ℕ). k + length l) f.long ∙ sym (length-append L l) ∙ ap length (sym sd) in
    let few : length l ≤ 2 = subst (λ (x : List ℕ). length x ≤ 2) (sym el) o.few in
    let z : length r₀ - at' ≡ length r₀ - at - length l' = omega (arith, ea, ap length el) in
    let lf : taken w₀ (length r₀) p ≡ i + n + taken v (length r₀ - at') (drop (i + n) p) =
    f.left ∙ ap (λ (x : List Input). i + taken w (length r₀ - at) x) d ∙ ap (λ (k : ℕ). i + k) (o.whole (length r₀ - at) (drop (i + n) p) (omega (arith, known.0)))
    ∙ further i n (length s) (taken v' (length r₀ - at - length l') (drop (i + n) p)) sized ∙ ap (λ (k : ℕ). i + n + taken v' k (drop (i + n) p)) (sym z)
    ∙ ap (λ (x : World). i + n + taken x (length r₀ - at') (drop (i + n) p)) (sym ev) in
    record {
      kept = subst Kept (sym ev) (one_kept w p i n f.kept bytes o);
      within = fits;
      next = nx;
      sent = st;
      long = lg;
      room = omega (arith, few, known.0, f.room);
      left = lf;
    }

-- ---- what came of them: the panel's bytes are written as the layout has it, before and after

pub record Stepped (m n : Held) (o : Ruled) (l : List ℕ) : Type 0 where
  pub next : world_of n ≡ after (world_of m) o
  pub sends : l ≡ sent o
  pub written : Written n.panel_bytes

pub stepped : (m n : Held) (o : Ruled) (l : List ℕ) → Kept (after (world_of m) o) → Written m.panel_bytes → Came m o n l → Stepped m n o l
stepped m n o l k written came =
    let v : World = after (world_of m) o in
    let f = k.good.fits.panel in
    let e : n.panel_bytes ≡ panel_bytes v.state.panel =
    ap (λ (x : Held). x.panel_bytes) came.next ∙ revised_whole m.panel_bytes v.state.panel written.again f.sixteen f.eight in
    let q : panel_of n.panel_bytes ≡ v.state.panel = ap panel_of e ∙ panel_back v.state.panel f.sixteen f.eight in
    record {
      next = ap (λ (x : Held). world x.framebuffer x.store (state x.config x.port (panel_of n.panel_bytes))) came.next ∙ ap (λ (y : Panel). world v.framebuffer v.store (state v.state.config v.state.port y)) q;
      sends = came.sends;
      written = record { again = e ∙ ap panel_bytes (sym q) };
    }

-- ---- the ends

feeding_stop : {w₀ w : World} {p : List Input} {r₀ r : List ℕ} {at i : ℕ} → Feeding w₀ p r₀ w r at i → i < length p → length r - at < 2 → Ran w₀ p r₀ w r 5 i at
feeding_stop {w₀} {w} {p} {r₀} {r} {at} {i} f h full =
    let n = room_known f in
    let z : taken w (length r₀ - at) (drop i p) ≡ 0 =
    ap (taken w (length r₀ - at)) (drop-cons p i (byte 0) h) ∙ taken_stop w (length r₀ - at) (get_or p i (byte 0)) (drop (suc i) p) (omega (arith, n.0)) in
    record {
      kept = f.kept;
      count = omega (arith, f.left, z);
      next = f.next;
      sent = f.sent;
      long = f.long;
      says = rw (ne_eqb i (length p) (λ e. absurd (omega (arith, e))));
    }

feeding_end : {w₀ w : World} {p : List Input} {r₀ r : List ℕ} {at i : ℕ} → Feeding w₀ p r₀ w r at i → length p ≤ i → Ran w₀ p r₀ w r 0 i at
feeding_end {w₀} {w} {p} {r₀} {r} {at} {i} f h =
    let z : taken w (length r₀ - at) (drop i p) ≡ 0 = ap (taken w (length r₀ - at)) (drop_of_length-le p {i = i} h) ∙ taken_none w (length r₀ - at) in
    record {
      kept = f.kept;
      count = omega (arith, f.left, z);
      next = f.next;
      sent = f.sent;
      long = f.long;
      says = rw (eq-eqb i (length p) (omega (arith, f.within)));
    }

-- ---- of the bytes of a piece

pub in_piece : (p : List ℕ) (n : ℕ) → n ≤ length p → n ≤ length (bytes p)
in_piece p n h = omega (arith, bytes_length p)

pub piece_stop : (p : List ℕ) {w₀ w : World} {r₀ r : List ℕ} {at i : ℕ} → Feeding w₀ (bytes p) r₀ w r at i → i < length p → length r - at < 2 → Ran w₀ (bytes p) r₀ w r 5 i at
piece_stop p f h full = feeding_stop f (omega (arith, bytes_length p)) full

pub piece_end : (p : List ℕ) {w₀ w : World} {r₀ r : List ℕ} {at i : ℕ} → Feeding w₀ (bytes p) r₀ w r at i → length p ≤ i → Ran w₀ (bytes p) r₀ w r 0 i at
piece_end p f h = feeding_end f (omega (arith, bytes_length p))

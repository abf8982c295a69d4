-- Every way through the feed of a piece, by itself.
-- Assumes nothing.
use mathlib.Core.Path.{◌≡◌, ◌∙◌, sym, ap, subst}
use mathlib.Core.List.{List, [], ◌∷◌, ◌++◌, append-nil}
use mathlib.Core.Bool.{Bool, true, false, cond}
use Prim.Native.Nat.{ℕ, ◌+◌, ◌-◌, ◌<◌, ◌≤◌}
use native.Mathlib.Omega.{arith}
use native.Mathlib.Nat.{zero-add}
use lib.Dec.{eqb}
use lib.ListN.{length, get_or, take, drop, length-drop, length-append, take-append-drop, drop_of_length-le}
use lib.Seq.{sets, sets-eq, take_all, drop_at, drop-cons, drop-drop, drop-append-le, get_or-take, length-take-le}
use borrow.Rule.Slice.PartMut.{put_mid, mid_of}
use borrow.Author.Tests.{eq-eqb, ne_eqb, lt-ltb, le-ltb}
use Rattle.canvas.specs.Sizes.{length_for}
use Rattle.directory.specs.declared.Totals.{Totals}
use Rattle.directory.specs.Directory.{entries, sizes_in, totals_of, valid_of}
use Rattle.state.specs.declared.Phase.{Phase}
use Rattle.state.specs.declared.Config.{Config}
use Rattle.state.specs.declared.Port.{Port}
use Rattle.state.specs.declared.State.{State}
use Rattle.state.specs.State.{state}
use Rattle.state.specs.Fits.{Fits}
use Rattle.record.specs.Layout.{phase_at, port_size, edition_at, panel_at, panel_size, record_size}
use Rattle.record.specs.Reading.{port_of, panel_of, height_in, edition_in, config_in, used_in, decode_of}
use Rattle.record.specs.Writing.{port_bytes, panel_bytes, encode_of, over}
use Rattle.record.specs.Record.{recognised, sound_record}
use Rattle.record.proofs.Bytes.{decoded_fits}
use Rattle.record.proofs.Overwriting.{over_front}
use Rattle.record.proofs.Round.{passed}
use Rattle.record.proofs.Whole.{length-port}
use Rattle.rules.specs.World.{World, world}
use Rattle.rules.specs.Step.{Input, time, outcome, sent, step, replies}
use Rattle.rules.specs.Calls.{run, said, taken}
use Rattle.rules.proofs.Replies.{replies_most, said_fits}
use Rattle.outcome.specs.declared.Outcome.{Outcome}
use Rattle.outcome.specs.Outcome.{sent_by}
use Rattle.outcome.specs.Contract.{unlent, untold, held, Obeys}
use Rattle.calls.specs.Memory.{Memory, memory, store_fits, upload_refused, checked, loaded, saved, Kept}
use Rattle.calls.specs.Feed.{fed_inputs, feed_of}
use Rattle.calls.proofs.Demands.{checked_kept, checks, saved_loaded, kept_step}
use Rattle.feed.specs.declared.Fault.{Fault}
use Rattle.feed.specs.declared.Fault.TheVariants.{BadFramebuffer, BadStore, BadRecord, BadDirectory, NoReplyRoom}
use Rattle.feed.specs.Faults.{fault_number}
use Rattle.feed.specs.Called.{called, called_by, inputs_call, timed, timed_by, time_call}
use Rattle.feed.specs.Running.{Written, Ran, RanOn}
use Rattle.feed.proofs.Feeding.{stepped}

-- ---- the checks

-- past the checks of what stands before the directory
module _ (g s st : List ℕ) (known : recognised st ≡ true) (size : length g ≡ length_for (height_in st)) (fits : store_fits s ≡ true) (sound : sound_record st ≡ true) where
  pub check_4 : valid_of s ≡ false → 4 ≡ checked (memory g s st)
  unfolding checked
  check_4 n = rw (known, eq-eqb (length g) (length_for (height_in st)) size, fits, sound, n)

  module _ (orderly : valid_of s ≡ true) (f : Phase) (b : Bool) (read : f ≡ (port_of st).line.phase) (blocked : b ≡ upload_refused (edition_in st) s f) where
    in_record : b ≡ upload_refused (edition_in st) s (decode_of st).port.line.phase
    unfolding decode_of
    in_record = blocked ∙ ap (upload_refused (edition_in st) s) read

    pub check_4_upload : b ≡ true → 4 ≡ checked (memory g s st)
    unfolding checked
    check_4_upload n = rw (known, eq-eqb (length g) (length_for (height_in st)) size, fits, sound, orderly, ← in_record, n)

    -- x the used room that the record keeps
    module _ (free : b ≡ false) (t : Totals) (counted : t ≡ totals_of (entries s)) (x : ℕ) (kept : x ≡ used_in st) where
      own : sizes_in (entries s) ≡ t.used
      own = sym (ap (λ (y : Totals). y.used) counted)

      pub check_3_sum : (x ≡ t.used → ⊥) → 3 ≡ checked (memory g s st)
      unfolding checked
      check_3_sum n =
          rw (known, eq-eqb (length g) (length_for (height_in st)) size, fits, sound, orderly, ← in_record, free, ← kept, own, ne_eqb x t.used n)

      pub check_0 : x ≡ t.used → 0 ≡ checked (memory g s st)
      unfolding checked
      check_0 n =
          rw (known, eq-eqb (length g) (length_for (height_in st)) size, fits, sound, orderly, ← in_record, free, ← kept, own, eq-eqb x t.used n)

pub read_both : (st : List ℕ) (h : Config) (t : Port) → h ≡ config_in st → t ≡ port_of st → (h ≡ config_in st) × (t.line.phase ≡ (port_of st).line.phase)
read_both st h t e f = (e, ap (λ (x : Port). x.line.phase) f)

-- ---- inputs

pub not_passed : (m : Memory) (p : List Input) (r : List ℕ) (a : ℕ) → a ≡ checked m → (a ≡ 0 → ⊥) → called a m r 0 0 ≡ inputs_call m p r
unfolding inputs_call feed_of
not_passed m p r a e n = rw (← e, ne_eqb a 0 n)

-- no fault is answered with 0
pub some_number : (f : Fault) → fault_number f ≡ 0 → ⊥
some_number BadFramebuffer e = absurd (omega arith)
some_number BadStore e = absurd (omega arith)
some_number BadRecord e = absurd (omega arith)
some_number BadDirectory e = absurd (omega arith)
some_number NoReplyRoom e = absurd (omega arith)

fed_0 : (m : Memory) (p : List Input) (r : List ℕ) → checked m ≡ 0 → inputs_call m p r ≡ called_by (fed_inputs (loaded m) p (taken (loaded m) (length r) p)) r
unfolding inputs_call feed_of
fed_0 m p r e = rw e

ran_0 : (w : World) (p : List Input) (r : List ℕ) (v : World) (st q : List ℕ) (a n k : ℕ) → Ran w p r v q a n k → st ≡ encode_of v.state
    → called a (memory v.framebuffer v.store st) q n k ≡ called_by (fed_inputs w p (taken w (length r) p)) r
ran_0 w p r v st q a n k ran e =
    let l : List ℕ = said w (take n p) in
    let room : length l ≤ length r = subst (λ (i : ℕ). length (said w (take i p)) ≤ length r) (sym ran.count) (said_fits w (length r) p) in
    let wrote : q ≡ l ++ drop (length l) r = ran.sent ∙ sets-eq l r 0 (omega (arith, room)) ∙ ap (λ (i : ℕ). l ++ drop i r) (zero-add (length l)) in
    rw (← ran.count, wrote, ran.long, ran.says, e) (ap (λ (x : World). called (cond (eqb n (length p)) 0 5) (saved x) (l ++ drop (length l) r) n (length l)) ran.next)

feed_0 : (m : Memory) (p : List Input) (r : List ℕ) (v : World) (st q : List ℕ) (a n k : ℕ) → checked m ≡ 0 → Ran (loaded m) p r v q a n k → st ≡ encode_of v.state
    → called a (memory v.framebuffer v.store st) q n k ≡ inputs_call m p r
feed_0 m p r v st q a n k c ran e = ran_0 (loaded m) p r v st q a n k ran e ∙ sym (fed_0 m p r c)

-- ---- the record's port by value, its panel where it stands

decoded : (st : List ℕ) (h : Config) (t : Port) → h ≡ config_in st → t ≡ port_of st → state h t (panel_of (drop panel_at st)) ≡ decode_of st
unfolding decode_of
decoded st h t e f = rw (e, f)

encoded_panel : (z : State) → Fits z → drop panel_at (encode_of z) ≡ panel_bytes z.panel
unfolding encode_of
encoded_panel z f =
    sym (drop-drop 2 port_size (encode_of z))
    ∙ ap (drop 2) (drop_at (port_bytes z.port) (z.config.height ∷ z.config.edition ∷ panel_bytes z.panel) port_size (length-port z.port f.port.args.six))

-- what memory that passes the checks holds
pub ready : (g s st : List ℕ) (h : Config) (t : Port) (a : ℕ) → ((i : ℕ) → get_or g i 0 < 256) → ((i : ℕ) → get_or s i 0 < 256) → ((i : ℕ) → get_or st i 0 < 256)
    → a ≡ checked (memory g s st) → a ≡ 0 → h ≡ config_in st → t ≡ port_of st
    → Kept (world g s (state h t (panel_of (drop panel_at st)))) × Written (drop panel_at st) × (length st ≡ record_size) × (h ≡ config_in st)
    × (encode_of (state h t (panel_of (drop panel_at st))) ≡ st)
unfolding decode_of
ready g s st h t a bg bs bt e z read-config read =
    let c : checked (memory g s st) ≡ 0 = sym e ∙ z in
    let k : Kept (world g s (decode_of st)) = checked_kept (memory g s st) (record { framebuffer = bg; store = bs; state = bt }) c in
    let p = passed st (checks (memory g s st) c).state in (
      subst (λ (x : State). Kept (world g s x)) (sym (decoded st h t read-config read)) k,
      record { again = ap (drop panel_at) (sym p.again) ∙ encoded_panel (decode_of st) (decoded_fits st bt) },
      p.long,
      read-config,
      ap encode_of (decoded st h t read-config read) ∙ p.again,
    )

pub feed_end : (g s st : List ℕ) (p : List Input) (r : List ℕ) (h : Config) (t : Port) (g' s' st' : List ℕ) (t' : Port) (q : List ℕ) (a n k c : ℕ) → c ≡ checked (memory g s st) → c ≡ 0 → h ≡ config_in st → t ≡ port_of st
    → RanOn g s st h t p r g' s' st' t' q a n k → called a (memory g' s' st') q n k ≡ inputs_call (memory g s st) p r
feed_end g s st p r h t g' s' st' t' q a n k c e z read-config read ran =
    feed_0 (memory g s st) p r (world g' s' (state h t' (panel_of (drop panel_at st')))) st' q a n k (sym e ∙ z)
    (subst (λ (x : State). Ran (world g s x) p r (world g' s' (state h t' (panel_of (drop panel_at st')))) q a n k) (decoded st h t read-config read) ran.ran) ran.record_is

-- ---- the panel lent on

lent_panel : (m : List ℕ) → length m ≡ record_size → mid_of panel_at (record_size - panel_at) m ≡ drop panel_at m
lent_panel m e = take_all panel_size (drop panel_at m) (omega (arith, e, length-drop panel_at m))

pub lent_ready : (g s m : List ℕ) (h : Config) (t : Port)
    → Kept (world g s (state h t (panel_of (drop panel_at m)))) × Written (drop panel_at m) × (length m ≡ record_size) × (h ≡ config_in m)
    × (encode_of (state h t (panel_of (drop panel_at m))) ≡ m)
    → Kept (world g s (state h t (panel_of (mid_of panel_at (record_size - panel_at) m)))) × Written (mid_of panel_at (record_size - panel_at) m)
lent_ready g s m h t k =
    (subst (λ (x : List ℕ). Kept (world g s (state h t (panel_of x)))) (sym (lent_panel m k.2)) k.0, subst Written (sym (lent_panel m k.2)) k.1)

-- what stands in front of the panel: the port, and height and edition behind it
front_config : (m : List ℕ) → length m ≡ record_size → drop port_size (take panel_at m) ≡ height_in m ∷ edition_in m ∷ []
front_config m e =
    let l : length (take panel_at m) ≡ panel_at = length-take-le panel_at m (omega (arith, e)) in
    drop-cons (take panel_at m) port_size 0 (omega (arith, l))
    ∙ rw (
      get_or-take panel_at m port_size 0 (omega arith),
      drop-cons (take panel_at m) edition_at 0 (omega (arith, l)),
      get_or-take panel_at m edition_at 0 (omega arith),
      drop_of_length-le (take panel_at m) {i = panel_at} (omega (arith, l)),
    )

pub ran_on : (g s m : List ℕ) (h : Config) (t : Port) (p : List Input) (r g' s' l m' : List ℕ) (t' : Port) (q : List ℕ) (a n k : ℕ) → length m ≡ record_size → h ≡ config_in m
    → Ran (world g s (state h t (panel_of (mid_of panel_at (record_size - panel_at) m)))) p r (world g' s' (state h t' (panel_of l))) q a n k → Written l → length t'.line.args ≡ 6
    → m' ≡ over (port_bytes t') phase_at (put_mid panel_at (record_size - panel_at) m l) → RanOn g s m h t p r g' s' m' t' q a n k
unfolding encode_of
ran_on g s m h t p r g' s' l m' t' q a n k e read-config ran written six wrote =
    let z = length-port t' six in
    let front = take panel_at m in
    let lt : length front ≡ panel_at = length-take-le panel_at m (omega (arith, e)) in
    let post : drop panel_size (drop panel_at m) ≡ [] = drop_of_length-le (drop panel_at m) {i = panel_size} (omega (arith, e, length-drop panel_at m)) in
    let x : front ++ (l ++ drop panel_size (drop panel_at m)) ≡ front ++ l = ap (λ (y : List ℕ). front ++ (l ++ y)) post ∙ ap (λ (y : List ℕ). front ++ y) (append-nil l) in
    let d : m' ≡ port_bytes t' ++ (h.height ∷ h.edition ∷ l) =
    wrote ∙ ap (over (port_bytes t') 0) x ∙ over_front (port_bytes t') (front ++ l)
    ∙ rw (take_all (length (front ++ l)) (port_bytes t') (omega (arith, length-append front l, lt, z)), z, drop-append-le port_size front l (omega (arith, lt)), front_config m e, read-config) in
    let f : drop panel_at m' ≡ l = ap (drop panel_at) d ∙ sym (drop-drop 2 port_size (port_bytes t' ++ (h.height ∷ h.edition ∷ l))) ∙ ap (drop 2) (drop_at (port_bytes t') (h.height ∷ h.edition ∷ l) port_size z) in
    record {
      ran =
          subst (λ (y : List ℕ). Ran (world g s (state h t (panel_of (drop panel_at m)))) p r (world g' s' (state h t' (panel_of y))) q a n k) (sym f)
          (subst (λ (y : List ℕ). Ran (world g s (state h t (panel_of y))) p r (world g' s' (state h t' (panel_of l))) q a n k) (lent_panel m e) ran);
      record_is = d ∙ ap (λ (y : List ℕ). port_bytes t' ++ (h.height ∷ h.edition ∷ y)) (written.again ∙ ap (λ (y : List ℕ). panel_bytes (panel_of y)) (sym f));
    }

-- where no byte was obeyed the record is as it was
pub ran_none : (g s m : List ℕ) (h : Config) (t : Port) (p : List Input) (r g' s' l m' : List ℕ) (t' : Port) (q : List ℕ) (a n k : ℕ) → length m ≡ record_size → Written (drop panel_at m)
    → encode_of (state h t (panel_of (drop panel_at m))) ≡ m → n ≡ 0
    → Ran (world g s (state h t (panel_of (mid_of panel_at (record_size - panel_at) m)))) p r (world g' s' (state h t' (panel_of l))) q a n k → Written l
    → m' ≡ put_mid panel_at (record_size - panel_at) m l → RanOn g s m h t p r g' s' m' t' q a n k
unfolding run
ran_none g s m h t p r g' s' l m' t' q a n k e before again none ran written wrote =
    let b : List ℕ = drop panel_at m in
    let start : Ran (world g s (state h t (panel_of b))) p r (world g' s' (state h t' (panel_of l))) q a n k =
    subst (λ (y : List ℕ). Ran (world g s (state h t (panel_of y))) p r (world g' s' (state h t' (panel_of l))) q a n k) (lent_panel m e) ran in
    let same : world g' s' (state h t' (panel_of l)) ≡ world g s (state h t (panel_of b)) =
    start.next ∙ ap (λ (i : ℕ). run (world g s (state h t (panel_of b))) (take i p)) none in
    let f : l ≡ b = written.again ∙ ap (λ (w : World). panel_bytes w.state.panel) same ∙ sym before.again in
    let post : drop panel_size b ≡ [] = drop_of_length-le b {i = panel_size} (omega (arith, e, length-drop panel_at m)) in
    let d : m' ≡ m = wrote ∙ rw (f, post, append-nil b) (take-append-drop panel_at m) in
    let i : drop panel_at m' ≡ l = ap (drop panel_at) d ∙ sym f in
    record {
      ran = subst (λ (y : List ℕ). Ran (world g s (state h t (panel_of b))) p r (world g' s' (state h t' (panel_of y))) q a n k) (sym i) start;
      record_is = d ∙ sym again ∙ ap (λ (w : World). encode_of w.state) (sym same) ∙ ap (λ (y : List ℕ). encode_of (state h t' (panel_of y))) (sym i);
    }

-- ---- time

module _ (m : Memory) (ms : ℕ) (r : List ℕ) (a : ℕ) (e : a ≡ checked m) where
  pub time_not_passed : (a ≡ 0 → ⊥) → timed a m r 0 ≡ time_call m ms r
  time_not_passed n = ap timed_by (not_passed m (time ms ∷ []) r a e n)

  pub time_5 : a ≡ 0 → length r < 2 → timed 5 m r 0 ≡ time_call m ms r
  unfolding inputs_call feed_of run said taken
  time_5 z l = let c : checked m ≡ 0 = sym e ∙ z in rw (c, lt-ltb (length r) 2 l, saved_loaded m c)

-- the port's bytes written over a record, whose panel stays
port_over : (st : List ℕ) (t : Port) → length st ≡ record_size → Written (drop panel_at st) → length t.line.args ≡ 6
    → over (port_bytes t) phase_at st ≡ encode_of (state (config_in st) t (panel_of (drop panel_at st)))
unfolding encode_of
port_over st t e w six =
    let z = length-port t six in
    let d : drop port_size st ≡ height_in st ∷ edition_in st ∷ drop panel_at st = drop-cons st port_size 0 (omega (arith, e)) ∙ rw (drop-cons st edition_at 0 (omega (arith, e))) in
    over_front (port_bytes t) st
    ∙ rw (take_all (length st) (port_bytes t) (omega (arith, e, z)), z, d) (ap (λ (y : List ℕ). port_bytes t ++ (height_in st ∷ edition_in st ∷ y)) w.again)

pub time_0 : (g s st : List ℕ) (ms : ℕ) (r : List ℕ) (a : ℕ) (h : Config) (t : Port) (st' : List ℕ) (o : Outcome) (q : List ℕ) (n : ℕ)
    → ((i : ℕ) → get_or g i 0 < 256) → ((i : ℕ) → get_or s i 0 < 256) → ((i : ℕ) → get_or st i 0 < 256)
    → a ≡ checked (memory g s st) → a ≡ 0 → h ≡ config_in st → t ≡ port_of st → 2 ≤ length r
    → Obeys untold (λ w. outcome w (time ms)) t unlent unlent unlent o → st' ≡ over (port_bytes o.port) phase_at st → length o.port.line.args ≡ 6
    → n ≡ 0 + length (sent_by o.reply) → q ≡ sets r 0 (sent_by o.reply) → timed 0 (memory g s st') q n ≡ time_call (memory g s st) ms r
unfolding inputs_call feed_of run said taken step replies
time_0 g s st ms r a h t st' o q n bg bs bt e z read-config read room obeys wrote six long sends =
    let c : checked (memory g s st) ≡ 0 = sym e ∙ z in
    let y = ready g s st h t a bg bs bt e z read-config read in
    let w : World = world g s (state h t (panel_of (drop panel_at st))) in
    let k = kept_step w (time ms) y.0 tt in
    let b = stepped (held h g s (drop panel_at st) t) (held h g s (drop panel_at st) o.port) (outcome w (time ms)) (sent_by o.reply) k y.1 (obeys.came h g s (drop panel_at st)) in
    let f : loaded (memory g s st) ≡ w = ap (world g s) (sym (decoded st h t read-config read)) in
    let l = sent_by o.reply in
    let d : st' ≡ encode_of (state h o.port (panel_of (drop panel_at st))) =
    wrote ∙ port_over st o.port y.2 y.1 six ∙ ap (λ (x : Config). encode_of (state x o.port (panel_of (drop panel_at st)))) (sym read-config) in
    let fits : length l ≤ length r = subst (λ (x : List ℕ). length x ≤ length r) (sym b.sends) (omega (arith, room, replies_most w (time ms))) in
    let wrote-replies : q ≡ l ++ drop (length l) r = sends ∙ sets-eq l r 0 (omega (arith, fits)) ∙ ap (λ (i : ℕ). l ++ drop i r) (zero-add (length l)) in
    let count : n ≡ length l = long ∙ zero-add (length l) in
    rw (c, le-ltb (length r) 2 room, f, append-nil (sent (outcome w (time ms))), ← b.sends, ← b.next, wrote-replies, count, d)

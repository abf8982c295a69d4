-- The panel read and written byte by byte, each way by itself. The same panel leaves every byte.
-- Assumes nothing.
use mathlib.Core.Path.{◌≡◌, sym, ap, ◌∙◌}
use mathlib.Core.Bool.{Bool, true, false}
use mathlib.Core.List.{List, [], ◌∷◌}
use Prim.Native.Nat.{ℕ, ◌+◌, ◌*◌, ◌/◌, ◌%◌, ◌<◌, ◌≤◌}
use native.Mathlib.Omega.{arith}
use lib.Dec.{eqb}
use lib.ListN.{length, drop, set, get_or-eq_default}
use lib.Seq.{get_or-drop, drop-drop, set_out}
use borrow.Author.Tests.{ne_eqb}
use Rattle.bar_graph.specs.declared.Bar.{Bar}
use Rattle.queue.specs.Record.{at, Bytes, bytes_from}
use Rattle.state.specs.declared.BarSlot.{BarSlot}
use Rattle.state.specs.declared.Strip.{Strip}
use Rattle.state.specs.declared.Panel.{Panel}
use Rattle.state.specs.State.{bar_slot, strip, bar_at, strip_at, no_bar, no_strip, with_bars, with_strips, with_backlight, with_used}
use Rattle.record.specs.Reading.{slot_of, strip_of, panel_of}
use Rattle.record.specs.Writing.{slot_bytes, strip_bytes, panel_bytes, over}
use Rattle.record.proofs.Whole.{length-panel}
use Rattle.panel.specs.Revised.{merged, revised, backlight}
use Rattle.panel.proofs.Merging.{merged_same, merged_all}
use Rattle.panel.proofs.Parts.{bars_count, strips_count, bar_in, strip_in, bar_written, strip_written, used_written}

pub revised_same : (l : List ℕ) → revised l (panel_of l) ≡ l
unfolding revised
revised_same l = merged_same l _

-- ---- reading

module _ (p : List ℕ) (n i : ℕ) (number : i ≡ n) where
  pub no_bar_lem : 16 ≤ i → no_bar ≡ bar_at (panel_of p) n
  no_bar_lem h = sym (get_or-eq_default (panel_of p).bars no_bar {n = n} (omega (arith, bars_count p)))

  pub bar_read : (l : List ℕ) → i < 16 → l ≡ bytes_from (drop (7 * i) p) 0 7 → slot_of l ≡ bar_at (panel_of p) n
  unfolding bytes_from
  bar_read l h e = rw (e, ← number, bar_in p i h)

  pub no_strip_lem : 8 ≤ i → no_strip ≡ strip_at (panel_of p) n
  no_strip_lem h = sym (get_or-eq_default (panel_of p).strips no_strip {n = n} (omega (arith, strips_count p)))

  pub strip_read : (l : List ℕ) → i < 8 → l ≡ bytes_from (drop (112 + 5 * i) p) 0 5 → strip_of l ≡ strip_at (panel_of p) n
  unfolding bytes_from
  strip_read l h e = rw (e, ← number, strip_in p i h, drop-drop (5 * i) 112 p)

-- ---- writing

module _ (p : List ℕ) (n i : ℕ) (number : i ≡ n) where
  pub bar_out : (b : Bar) → 16 ≤ i → p ≡ revised p (with_bars (panel_of p) (set (panel_of p).bars n (bar_slot true b)))
  bar_out b h = sym (ap (λ (l : List BarSlot). revised p (with_bars (panel_of p) l)) (set_out (panel_of p).bars n (bar_slot true b) (omega (arith, bars_count p))) ∙ revised_same p)

  pub bar_put : (b : Bar) (q : List ℕ) → i < 16 → q ≡ over (slot_bytes (bar_slot true b)) (7 * i) p → q ≡ revised p (with_bars (panel_of p) (set (panel_of p).bars n (bar_slot true b)))
  bar_put b q h w = w ∙ bar_written p i b h ∙ ap (λ (k : ℕ). revised p (with_bars (panel_of p) (set (panel_of p).bars k (bar_slot true b)))) number

  pub strip_out : (x1 y1 x2 y2 : ℕ) → 8 ≤ i → p ≡ revised p (with_strips (panel_of p) (set (panel_of p).strips n (strip true x1 y1 x2 y2)))
  strip_out x1 y1 x2 y2 h =
      sym (ap (λ (l : List Strip). revised p (with_strips (panel_of p) l)) (set_out (panel_of p).strips n (strip true x1 y1 x2 y2) (omega (arith, strips_count p))) ∙ revised_same p)

  pub strip_put : (x1 y1 x2 y2 : ℕ) (q : List ℕ) → i < 8 → q ≡ over (strip_bytes (strip true x1 y1 x2 y2)) (112 + 5 * i) p
      → q ≡ revised p (with_strips (panel_of p) (set (panel_of p).strips n (strip true x1 y1 x2 y2)))
  strip_put x1 y1 x2 y2 q h w =
      w ∙ strip_written p i x1 y1 x2 y2 h ∙ ap (λ (k : ℕ). revised p (with_strips (panel_of p) (set (panel_of p).strips k (strip true x1 y1 x2 y2)))) number

pub dark_kept : (p : List ℕ) (f : ℕ) → f ≡ at p 156 → (f ≡ 1 → ⊥) → p ≡ revised p (with_backlight (panel_of p) (backlight false (panel_of p).backlight.minutes))
unfolding panel_of
dark_kept p f d h =
    let e : eqb (at (drop 156 p) 0) 1 ≡ false = ap (λ (x : ℕ). eqb x 1) (get_or-drop 156 p 0 0 ∙ sym d) ∙ ne_eqb f 1 h in
    sym (ap (λ (t : Bool). revised p (with_backlight (panel_of p) (backlight t (panel_of p).backlight.minutes))) (sym e) ∙ revised_same p)

pub used_read : (p l : List ℕ) (u : ℕ) → l ≡ bytes_from (drop 158 p) 0 2 → u ≡ at l 0 + at l 1 * 256 → u ≡ (panel_of p).used
unfolding panel_of bytes_from
used_read p l u e f = f ∙ rw (e, get_or-drop 158 p 0 0, get_or-drop 158 p 1 0) (omega arith)

pub used_put : (p q l : List ℕ) (u : ℕ) → Bytes p → u < 65536 → l ≡ u % 256 ∷ u / 256 % 256 ∷ [] → q ≡ over l 158 p → q ≡ revised p (with_used (panel_of p) u)
used_put p q l u b h e f =
    let i : u / 256 % 256 ≡ u / 256 = omega arith in
    f ∙ rw (e, i) (used_written p b u)

-- ---- bytes that are written as the layout has it become those of the other panel

pub revised_whole : (l : List ℕ) (q : Panel) → l ≡ panel_bytes (panel_of l) → length q.bars ≡ 16 → length q.strips ≡ 8 → revised l q ≡ panel_bytes q
unfolding revised
revised_whole l q e b s =
    ap (λ (m : List ℕ). merged l m (panel_bytes q)) (sym e)
    ∙ merged_all l (panel_bytes q) (ap length e ∙ length-panel (panel_of l) (bars_count l) (strips_count l) ∙ sym (length-panel q b s))

-- DEMAND 2 of the exported functions: a stream of bytes and times cut into calls in any way, with two free reply bytes before each input, gives what the whole gives,
-- whatever arrivals, takes and refused calls come between.
-- Assumes nothing.
use mathlib.Core.Path.{◌≡◌, ◌∙◌, sym, ap}
use mathlib.Core.List.{List}
use Prim.Native.Nat.{ℕ}
use Rattle.state.specs.declared.Config.{Config}
use Rattle.rules.specs.Step.{Input}
use Rattle.queue.specs.Record.{Bytes}
use Rattle.rules.specs.Calls.{run, said}
use Rattle.rules.specs.Chunks.{joined, EnoughAll}
use Rattle.calls.specs.Memory.{Memory, checked, loaded, saved}
use Rattle.calls.specs.Start.{Started, start_checked, start_of, start_world}
use Rattle.calls.specs.List.{Board, board, chunks_in, consumed_all}
use Rattle.calls.specs.Bytes.{BytesInAll, ByteMemory}
use Rattle.calls.proofs.Demands.{pieces_whole, started_whole}
use Rattle.promises.specs.Made.{Made, MeetsAll, left_all, all_consumed, all_sent, calls_of}
use Rattle.promises.specs.Promise.{Promise, Whole}
use Rattle.promises.proofs.Lists.{same}
use Rattle.promises.proofs.Bars.{promised, promised_from_start}

carried : (b : Board) (l : List Made) → MeetsAll b l → Promise b l → consumed_all b (calls_of l) ≡ joined (chunks_in (calls_of l)) → Whole b l
carried b l h p e =
    let c : all_consumed l ≡ joined (chunks_in (calls_of l)) = (same b l h).consumed_same ∙ e in
    record { consumed = c; memory = p.stream ∙ ap (λ (x : List Input). saved (run (loaded b.memory) x)) c; sent = p.sent ∙ ap (said (loaded b.memory)) c }

pub cut_anyhow : (m : Memory) (q : List ℕ) (l : List Made) → ByteMemory m → checked m ≡ 0 → MeetsAll (board m q) l → BytesInAll (calls_of l)
    → EnoughAll (loaded m) (chunks_in (calls_of l)) → Whole (board m q) l
cut_anyhow m q l b e h i enough = carried (board m q) l h (promised m q l b e h i) (pieces_whole m q (calls_of l) b e i enough)

pub cut_from_start : (f : Config) (m : Memory) (q : List ℕ) (s : Started) (l : List Made) → s ≡ start_of f m q → Bytes m.store → start_checked f m q ≡ 0
    → MeetsAll (board s.left s.queue) l → BytesInAll (calls_of l) → EnoughAll (start_world f m.store) (chunks_in (calls_of l)) → Whole (board s.left s.queue) l
cut_from_start f m q s l e b c h i enough =
    carried (board s.left s.queue) l h (promised_from_start f m q s l e b c h i) (rw e (started_whole f m q (calls_of l) b c i enough))

-- two ways to cut one stream
pub however_cut : (b : Board) (l k : List Made) → Whole b l → Whole b k → joined (chunks_in (calls_of l)) ≡ joined (chunks_in (calls_of k))
    → ((left_all b l).memory ≡ (left_all b k).memory) × (all_sent l ≡ all_sent k)
however_cut b l k x y e =
    (x.memory ∙ ap (λ (z : List Input). saved (run (loaded b.memory) z)) e ∙ sym y.memory, x.sent ∙ ap (said (loaded b.memory)) e ∙ sym y.sent)

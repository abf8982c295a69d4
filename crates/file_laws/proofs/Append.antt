-- One more record behind the last.
-- Assumes nothing.
use mathlib.Core.Path.{◌≡◌, ap, ◌∙◌}
use mathlib.Core.List.{List, [], ◌∷◌, ◌++◌, append_assoc, append-nil}
use mathlib.Core.Bool.{true}
use Prim.Native.Nat.{ℕ, ◌+◌, ◌-◌, ◌≤◌}
use native.Mathlib.Omega.{arith}
use lib.ListN.{length, drop, replicate, length-replicate, replicate-append-replicate}
use lib.Seq.{paste, drop_at}
use Rattle.directory.specs.declared.Entry.{Entry}
use Rattle.directory.specs.Directory.{length_of, entries, bytes_in, valid_of}
use Rattle.files.specs.Files.{record_bytes}
use Rattle.file_laws.specs.Layout.{records_of, directory_of, with_record}
use Rattle.file_laws.proofs.Records.{record_long}
use Rattle.file_laws.proofs.Written.{Bytes, Proper, formed, canonical, entries_written, records_long, records_append, bytes_append, proper_append}
use Rattle.file_laws.proofs.Seams.{paste_whole}

drop_zeros : (n m : ℕ) (u : List ℕ) → drop n (replicate (n + m) 0 ++ u) ≡ replicate m 0 ++ u
drop_zeros n m u = rw (← replicate-append-replicate {A = ℕ} n m 0, append_assoc) (drop_at (replicate n 0) (replicate m 0 ++ u) n (length-replicate {A = ℕ} n 0))

pub bytes_more : (es : List Entry) (e : Entry) → bytes_in (es ++ (e ∷ [])) ≡ bytes_in es + length_of e.kind
unfolding bytes_in
bytes_more es e = bytes_append es (e ∷ []) ∙ omega arith

pub record_more : (s : List ℕ) (e : Entry) → Bytes s → 256 ≤ length s → valid_of s ≡ true → Proper e → bytes_in (entries s) + length_of e.kind ≤ 256
    → paste s (bytes_in (entries s)) (record_bytes e) (length_of e.kind) ≡ with_record s e
unfolding directory_of records_of with_record
record_more s e b l v p h =
    let es = entries s in
    let n = length_of e.kind in
    let u : List ℕ = drop 256 s in
    let z : List ℕ = replicate (256 - bytes_in es) 0 ++ u in
    let c : s ≡ records_of es ++ z = canonical s b l v ∙ append_assoc (records_of es) (replicate (256 - bytes_in es) 0) u in
    let w = paste_whole (records_of es) z (record_bytes e) (bytes_in es) n (records_long es (formed s b l 0).proper) (record_long e p) in
    let m = 256 - (bytes_in es + n) in
    let q : 256 - bytes_in es ≡ n + m = omega arith in
    ap (λ (x : List ℕ). paste x (bytes_in es) (record_bytes e) n) c ∙ w
    ∙ rw (q, drop_zeros n m u, bytes_more es e, records_append es (e ∷ []), append-nil (record_bytes e), append_assoc, append_assoc)

-- The law: the records grow by exactly that one.
pub entries_more : (s : List ℕ) (e : Entry) → Bytes s → 256 ≤ length s → Proper e → bytes_in (entries s) + length_of e.kind ≤ 256 → entries (with_record s e) ≡ entries s ++ (e ∷ [])
unfolding with_record
entries_more s e b l q r = entries_written (entries s ++ (e ∷ [])) (drop 256 s) (proper_append (entries s) (e ∷ []) (formed s b l 0).proper (q, tt)) (omega (arith, bytes_more (entries s) e))
